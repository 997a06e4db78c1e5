-- Places of tokens that climb: each is at most the next one.
use Rattle.std.proofs.Common.{ℕ, ◌+◌, ◌<◌, ◌≤◌, ◌≡◌, ap, sym, subst, refl, List, [], ◌∷◌, ◌++◌, length, Bool, false, if◌then◌else◌, arith}
use Rattle.std.proofs.Common.{◌⊎◌, inl, inr}
use Rattle.std.proofs.lemmas.Bool.{cases_lt, eq-eqb, ne_eqb}
use Rattle.tsa_base.specs.declared.token.Span.{Span}
use Rattle.tsa_base.specs.Tokens.{Lexeme}
use Rattle.tsa_tree.specs.tokens.Signs.{span_at, span_over, identifier_at}
use Rattle.tsa_tree.specs.units.Order.{begins_with, places_in_operands, Rise}
use Rattle.tsa_tree.proofs.tokens.Places.{AreInOrder, name_span}

-- the places are those of tokens from a on up to before b, each at the token of the one before it or later
pub data Climbs (tokens : List Lexeme) : (a b : ℕ) → List ℕ → Type 0 where
  no_place : {a b : ℕ} → a ≤ b → Climbs tokens a b []
  place_at : {a b : ℕ} {xs : List ℕ} (i : ℕ) → a ≤ i → i < b → Climbs tokens i b xs → Climbs tokens a b ((span_at tokens i).from ∷ xs)

module _ {tokens : List Lexeme} where
  pub climbs-ends : {a b : ℕ} {xs : List ℕ} → Climbs tokens a b xs → a ≤ b
  climbs-ends (no_place le) = le
  climbs-ends (place_at i lo hi r) = omega arith

  pub climbs-within : {m n : ℕ} {xs : List ℕ} → Climbs tokens m n xs → {a b : ℕ} → a ≤ m → n ≤ b → Climbs tokens a b xs
  climbs-within (no_place le) le' le'' = no_place (omega arith)
  climbs-within (place_at i lo hi r) le le' = place_at i (omega arith) (omega arith) (climbs-within r (omega arith) le')

  pub climbs-then : {a m : ℕ} {xs : List ℕ} → Climbs tokens a m xs → {n b : ℕ} {ys : List ℕ} → m ≤ n → Climbs tokens n b ys → Climbs tokens a b (xs ++ ys)
  climbs-then (no_place le) le' s = climbs-within s (omega arith) (omega arith)
  climbs-then (place_at i lo hi r) le s = let end = climbs-ends s in place_at i lo (omega arith) (climbs-then r le s)

  pub climbs-last : {a b : ℕ} {xs : List ℕ} → Climbs tokens a b xs → Climbs tokens a b (xs ++ [])
  climbs-last {b = b} r = climbs-then r (omega arith) (no_place {a = b} (omega arith))

  -- where the places that come last are replaced by others that climb wherever they do
  pub climbs-tail : {a b : ℕ} (xs : List ℕ) {ys zs : List ℕ} → ((c : ℕ) → Climbs tokens c b ys → Climbs tokens c b zs) → Climbs tokens a b (xs ++ ys)
      → Climbs tokens a b (xs ++ zs)
  climbs-tail {a = a} [] f r = f a r
  climbs-tail (x ∷ xs) f (place_at i lo hi r) = place_at i lo hi (climbs-tail xs f r)

  pub climbs-back : {a b : ℕ} (xs ys : List ℕ) → Climbs tokens a b (xs ++ ys) → Climbs tokens a b ys
  climbs-back [] ys r = r
  climbs-back (x ∷ xs) ys (place_at i lo hi r) = climbs-back xs ys (climbs-within r lo (omega arith))

  -- a node that begins with the token at i, in front of its parts
  pub climbs-over : {a b m n : ℕ} {xs : List ℕ} (i e : ℕ) → Climbs tokens m n xs → a ≤ i → i < b → i ≤ m → n ≤ b
      → Climbs tokens a b ((span_over tokens i e).from ∷ xs)
  unfolding span_over
  climbs-over i e r lo hi le le' = place_at i lo hi (climbs-within r le le')

  -- and one of no parts
  pub climbs-alone : {a b : ℕ} (i e : ℕ) → a ≤ i → i < b → Climbs tokens a b ((span_over tokens i e).from ∷ [])
  climbs-alone {b = b} i e lo hi = climbs-over {m = b} {n = b} i e (no_place (omega arith)) lo hi (omega arith) (omega arith)

  -- the same where the place of its name stands for it
  pub climbs-name : {a b m n : ℕ} {xs : List ℕ} (i : ℕ) → Climbs tokens m n xs → a ≤ i → i < b → i ≤ m → n ≤ b
      → Climbs tokens a b ((identifier_at tokens i).span.from ∷ xs)
  climbs-name {a = a} {b = b} {xs = xs} i r lo hi le le' =
      let same : (span_at tokens i).from ≡ (identifier_at tokens i).span.from = ap (λ (s : Span). s.from) (sym (name_span tokens i)) in
      subst (λ x. Climbs tokens a b (x ∷ xs)) same (place_at i lo hi (climbs-within r le le'))

module _ {text : List ℕ} {tokens : List Lexeme} (order : AreInOrder text tokens) where
  later : (i j : ℕ) → i < j → j < length tokens → (span_at tokens i).from < (span_at tokens j).from
  later i j lt lt' = omega (arith, order.some i (omega arith), order.rise i j lt lt')

  not_before : (i j : ℕ) → i ≤ j → j < length tokens → (span_at tokens i).from ≤ (span_at tokens j).from
  not_before i j le lt = go (cases_lt i j)
    where
      go : (i < j) ⊎ (j ≤ i) → (span_at tokens i).from ≤ (span_at tokens j).from
      go (inl lt') = omega (arith, later i j lt' lt)
      go (inr le') =
          let same : i ≡ j = omega arith in
          let e : (span_at tokens i).from ≡ (span_at tokens j).from = ap (λ k. (span_at tokens k).from) same in
          omega (arith, e)

  -- places of tokens of a text that climb are places that rise
  pub climbs-rise : {a b : ℕ} {xs : List ℕ} → b ≤ length tokens → Climbs tokens a b xs → Rise xs
  climbs-rise le (no_place le') = tt
  climbs-rise le (place_at i lo hi (no_place le')) = tt
  climbs-rise le (place_at i lo hi (place_at j lo' hi' r)) =
      (not_before i j lo' (omega arith), climbs-rise le (place_at j lo' hi' r))

  begins-later : {a n b : ℕ} {xs : List ℕ} → a < n → b ≤ length tokens → Climbs tokens n b xs → begins_with xs (span_at tokens a).from ≡ false
  begins-later lt le (no_place le') = refl
  begins-later {a = a} lt le (place_at i lo hi r) =
      let lt' = later a i (omega arith) (omega arith) in
      ne_eqb (span_at tokens i).from (span_at tokens a).from (λ e. omega (arith, lt', e))

  -- operands of which the right one stands after the left one
  pub climbs-operands : {a m n b : ℕ} {xs ys : List ℕ} (e : ℕ) → b ≤ length tokens → Climbs tokens a m xs → m ≤ n → a < n → Climbs tokens n b ys
      → Climbs tokens a b (places_in_operands (span_over tokens a e).from xs ys)
  unfolding span_over
  climbs-operands {a = a} {b = b} {xs = xs} {ys = ys} e le r le' lt s =
      subst (λ (c : Bool). Climbs tokens a b (if c then ys ++ xs else xs ++ ys)) (sym (begins-later lt le s)) (climbs-then r le' s)

-- operands of which the right one is the token in front
pub climbs-step : {tokens : List Lexeme} {a b : ℕ} {xs : List ℕ} (e : ℕ) → Climbs tokens (a + 1) b xs
    → Climbs tokens a b (places_in_operands (span_over tokens a e).from xs ((span_at tokens a).from ∷ []))
unfolding span_over
climbs-step {tokens = tokens} {a = a} {b = b} {xs = xs} e r =
    let end = climbs-ends r in
    let place = (span_at tokens a).from in
    subst (λ (c : Bool). Climbs tokens a b (if c then place ∷ xs else xs ++ place ∷ [])) (sym (eq-eqb place place refl))
    (place_at a (omega arith) (omega arith) (climbs-within r (omega arith) (omega arith)))
