-- What is written of a text that is put together of pieces, where the first pieces are written whole and of the next one a first part.
use Rattle.std.proofs.Common.{◌≡◌, ◌∙◌, ℕ, List, ◌∷◌, ◌++◌, Option, sym, ap, subst}
use Rattle.std.specs.Io.KnownBytes.{Appends}
use Rattle.tsa_base.specs.Transfer.{AppendsFront}
use Rattle.tsa_tool_held.specs.Pieces.{Pieces}
use Rattle.tsa_tool_held.proofs.Fronts.{front_behind, front_of_more}
use Rattle.tsa_tool_held.proofs.Pieces.{pieces_left}

module _ {X : Type 0} (IsPiece : X → List ℕ → Type 0) (unique : (x : X) (a b : List ℕ) → IsPiece x a → IsPiece x b → a ≡ b) (a b c : Option (List ℕ)) where
  of_rest : (x : X) (ys : List X) (text whole rest : List ℕ) → Appends a b text → ((piece : List ℕ) → IsPiece x piece → AppendsFront b c piece)
      → Pieces IsPiece (x ∷ ys) rest → whole ≡ text ++ rest → AppendsFront a c whole
  of_rest x ys text whole rest written front (piece, later, is, more, parts) e =
      subst (AppendsFront a c) (sym (e ∙ ap (λ t. text ++ t) parts)) (front_behind a b c text (piece ++ later) written (front_of_more b c piece later (front piece is)))

  pub front_of_pieces : (xs : List X) (x : X) (ys : List X) (text whole : List ℕ) → Pieces IsPiece xs text → Appends a b text
      → ((piece : List ℕ) → IsPiece x piece → AppendsFront b c piece) → Pieces IsPiece (xs ++ x ∷ ys) whole → AppendsFront a c whole
  front_of_pieces xs x ys text whole h written front all =
      let left = pieces_left IsPiece unique xs (x ∷ ys) text whole h all in
      of_rest x ys text whole left.0 written front left.1 left.2

  -- where nothing of the next one is written
  pub front_of_first : (xs ys : List X) (text whole : List ℕ) → Pieces IsPiece xs text → Appends a b text → Pieces IsPiece (xs ++ ys) whole → AppendsFront a b whole
  front_of_first xs ys text whole h written all =
      let left = pieces_left IsPiece unique xs ys text whole h all in
      record { front = text; rest = left.0; whole = left.2; taken = written }
