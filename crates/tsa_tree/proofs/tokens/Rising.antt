-- Names that stand one after the other.
use Rattle.std.proofs.Common.{ℕ, ◌+◌, ◌≤◌, List, [], ◌∷◌, ◌++◌, arith}
use Rattle.tsa_base.specs.Tokens.{Lexeme}
use Rattle.tsa_tree.specs.expressions.Syntax.{Identifier}
use Rattle.tsa_tree.specs.tokens.Signs.{identifier_at}

-- the names are those of tokens from a on up to before b, in the order of the text
pub data Rises (tokens : List Lexeme) : (a b : ℕ) → List Identifier → Type 0 where
  no_name : {a b : ℕ} → a ≤ b → Rises tokens a b []
  name_at : {a b : ℕ} {xs : List Identifier} (i : ℕ) → a ≤ i → Rises tokens (i + 1) b xs → Rises tokens a b (identifier_at tokens i ∷ xs)

module _ {tokens : List Lexeme} where
  pub rises-ends : {a b : ℕ} {xs : List Identifier} → Rises tokens a b xs → a ≤ b
  rises-ends (no_name le) = le
  rises-ends (name_at i le r) = omega (arith, rises-ends r)

  pub rises-within : {m n : ℕ} {xs : List Identifier} → Rises tokens m n xs → {a b : ℕ} → a ≤ m → n ≤ b → Rises tokens a b xs
  rises-within (no_name le') le le'' = no_name (omega arith)
  rises-within (name_at i le' r) le le'' = name_at i (omega arith) (rises-within r (omega arith) le'')

  pub rises-then : {a m : ℕ} {xs : List Identifier} → Rises tokens a m xs → {n b : ℕ} {ys : List Identifier} → m ≤ n → Rises tokens n b ys
      → Rises tokens a b (xs ++ ys)
  rises-then (no_name le) le' s = rises-within s (omega arith) (omega arith)
  rises-then (name_at i le r) le' s = name_at i le (rises-then r le' s)

  -- the same where others stand before, between or after
  pub rises-next : {a m n e b : ℕ} {xs ys : List Identifier} → Rises tokens a m xs → Rises tokens n e ys → m ≤ n → e ≤ b → Rises tokens a b (xs ++ ys)
  rises-next r s le le' = rises-then r le (rises-within s (omega arith) le')

  pub rises-here : (i : ℕ) → Rises tokens i (i + 1) (identifier_at tokens i ∷ [])
  rises-here i = name_at i (omega arith) (no_name (omega arith))

  pub rises-last : {a b : ℕ} {xs : List Identifier} → Rises tokens a b xs → Rises tokens a b (xs ++ [])
  rises-last {b = b} r = rises-then r (omega arith) (no_name {a = b} (omega arith))
