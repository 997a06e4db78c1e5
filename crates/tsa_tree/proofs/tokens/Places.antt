-- The tokens of a text stand in it one after the other, each inside it.
use Rattle.std.proofs.Common.{◌≡◌, ℕ, zero, suc, ◌<◌, ◌≤◌, List, [], ◌∷◌, length, slice_get, Option, None, Some, Ok, refl, arith}
use Rattle.tsa_base.specs.PieceLaws.{InOrder}
use Rattle.tsa_base.specs.Tokens.{Lexeme, tokens_of}
use Rattle.tsa_base.proofs.TokenPlaces.{texts_fall_into_pieces}
use Rattle.tsa_tree.specs.tokens.Signs.{span_at, span_in, identifier_at, identifier_in}

-- each token has bytes in the text, and ends before the next one begins
pub record AreInOrder (text : List ℕ) (tokens : List Lexeme) : Type 0 where
  pub some : (i : ℕ) → i < length tokens → (span_at tokens i).from < (span_at tokens i).to
  pub inside : (i : ℕ) → i < length tokens → (span_at tokens i).to ≤ length text
  pub rise : (i j : ℕ) → i < j → j < length tokens → (span_at tokens i).to ≤ (span_at tokens j).from

starts_inside : (text : List ℕ) (from : ℕ) (ts : List Lexeme) → InOrder text from ts → from ≤ length text
unfolding InOrder
starts_inside text from [] h = h
starts_inside text from (t ∷ ts) h = omega (arith, starts_inside text t.span.to ts h.3, h.0, h.1)

place_from : (text : List ℕ) (from : ℕ) (ts : List Lexeme) → InOrder text from ts → (i : ℕ) → i < length ts → from ≤ (span_at ts i).from
unfolding InOrder span_at
place_from text from [] h i lt = absurd (omega arith)
place_from text from (t ∷ ts) h zero lt = h.0
place_from text from (t ∷ ts) h (suc i) lt =
    let le : t.span.to ≤ (span_at ts i).from = place_from text t.span.to ts h.3 i (omega arith) in
    omega (arith, le, h.0, h.1)

place_some : (text : List ℕ) (from : ℕ) (ts : List Lexeme) → InOrder text from ts → (i : ℕ) → i < length ts → (span_at ts i).from < (span_at ts i).to
unfolding InOrder span_at
place_some text from [] h i lt = absurd (omega arith)
place_some text from (t ∷ ts) h zero lt = h.1
place_some text from (t ∷ ts) h (suc i) lt = place_some text t.span.to ts h.3 i (omega arith)

place_inside : (text : List ℕ) (from : ℕ) (ts : List Lexeme) → InOrder text from ts → (i : ℕ) → i < length ts → (span_at ts i).to ≤ length text
unfolding InOrder span_at
place_inside text from [] h i lt = absurd (omega arith)
place_inside text from (t ∷ ts) h zero lt = starts_inside text t.span.to ts h.3
place_inside text from (t ∷ ts) h (suc i) lt = place_inside text t.span.to ts h.3 i (omega arith)

places_rise : (text : List ℕ) (from : ℕ) (ts : List Lexeme) → InOrder text from ts → (i j : ℕ) → i < j → j < length ts
    → (span_at ts i).to ≤ (span_at ts j).from
unfolding InOrder span_at
places_rise text from [] h i j lt lt' = absurd (omega arith)
places_rise text from (t ∷ ts) h i zero lt lt' = absurd (omega arith)
places_rise text from (t ∷ ts) h zero (suc j) lt lt' = place_from text t.span.to ts h.3 j (omega arith)
places_rise text from (t ∷ ts) h (suc i) (suc j) lt lt' = places_rise text t.span.to ts h.3 i j (omega arith) (omega arith)

pub in_order : (text : List ℕ) (tokens : List Lexeme) → tokens_of text ≡ Ok tokens → AreInOrder text tokens
in_order text tokens e =
    let h = texts_fall_into_pieces.order text tokens e in
    record {
      some = λ i lt. place_some text 0 tokens h i lt;
      inside = λ i lt. place_inside text 0 tokens h i lt;
      rise = λ i j lt lt'. places_rise text 0 tokens h i j lt lt';
    }

span_of : (o : Option Lexeme) → (identifier_in o).span ≡ span_in o
span_of None = refl
span_of (Some t) = refl

-- a name stands where its token does
pub name_span : (tokens : List Lexeme) (i : ℕ) → (identifier_at tokens i).span ≡ span_at tokens i
unfolding span_at identifier_at
name_span tokens i = span_of (slice_get tokens i)
