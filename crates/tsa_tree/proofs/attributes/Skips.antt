-- What begins balanced tokens by their row begins them by the productions.
use Rattle.std.proofs.Common.{ℕ, ◌+◌, ◌≡◌, refl, List, Bool, inl, inr}
use Rattle.tsa_base.specs.Tokens.{Lexeme}
use Rattle.tsa_tree.specs.declared.sign.Sign.{Sign}
use Rattle.tsa_tree.specs.declared.sign.Sign.TheVariants as sign
use Rattle.tsa_tree.specs.tokens.Signs.{Aliases, sign_at}
use Rattle.tsa_tree.specs.attributes.Spelling.{IsBalanced, of_nothing, of_token}
use Rattle.tsa_tree.specs.attributes.Beginnings.{BeginsBalanced, begins_balanced, begins_parentheses, begins_brackets, begins_braces}
use Rattle.tsa_tree.specs.Rows.{a_skip, balanced, Closer, balanced_row, rule}
use Rattle.tsa_tree.proofs.attributes.Meanings.{Begun, Opens}
use Rattle.tsa_tree.proofs.attributes.RowSoundness.{and_balanced, closed_parentheses, closed_brackets, closed_braces}
use Rattle.tsa_grammar.specs.Form.{done, part}

-- What begins balanced tokens begins more of them.
pub then_balanced : {tokens : List Lexeme} {aliases : Aliases} {fits : ℕ → Bool} {d a m b : ℕ}
    → IsBalanced tokens aliases fits d a m → BeginsBalanced tokens aliases fits d m b → BeginsBalanced tokens aliases fits d a b
then_balanced i (begins_balanced j) = begins_balanced (and_balanced i j)
then_balanced i (begins_parentheses j q fit h) = begins_parentheses (and_balanced i j) q fit h
then_balanced i (begins_brackets j q fit h) = begins_brackets (and_balanced i j) q fit h
then_balanced i (begins_braces j q fit h) = begins_braces (and_balanced i j) q fit h

module _ (tokens : List Lexeme) (aliases : Aliases) (fits : ℕ → Bool) where
  -- What begins balanced tokens, or ends with their closing one.
  abbrev Skipped : (d : ℕ) (closer : Closer) (a b : ℕ) → Type 0
  Skipped d closer a b = Begun tokens fits a_skip (balanced aliases d closer) a b

  abbrev Unrefused : ℕ → ℕ → Type 0
  Unrefused b q = ⊥

  -- Behind balanced tokens come more of them, and then the closing token.
  then_skipped : (d : ℕ) (closer : Closer) (a m b : ℕ) → IsBalanced tokens aliases fits d a m → Skipped d closer m b → Skipped d closer a b
  then_skipped d closer a m b i (inl h) = inl (then_balanced i h)
  then_skipped d closer a m b i (inr h) = inr (h.0, and_balanced i h.1, h.2, h.3)

  opens_more : (d : ℕ) (closer : Closer) (m n : ℕ) → IsBalanced tokens aliases fits d m n
      → Opens tokens fits a_skip (λ b. Skipped d closer m b) Unrefused (part a_skip (balanced aliases d closer) (λ u e. done tt)) n
  opens_more d closer m n i = (
    inl (begins_balanced i),
    tt,
    (λ b h. then_skipped d closer m n b i h),
    (λ b q h. h),
    (λ u e outer. then_skipped d closer m n e i (inr outer)),
  )

  opens_balanced : (d : ℕ) (closer : Closer) (m : ℕ) (s : Sign) → sign_at tokens aliases m ≡ s
      → Opens tokens fits a_skip (λ b. Skipped d closer m b) Unrefused (balanced_row tokens aliases d closer m s) m
  opens_balanced d closer m sign.Open q = (
    inl (begins_balanced of_nothing),
    λ fit. (
      inl (begins_balanced of_nothing),
      λ seen. (
        inl (begins_parentheses of_nothing q fit (begins_balanced of_nothing)),
        tt,
        (λ b h. elim h [
          | inl h ↦ inl (begins_parentheses of_nothing q fit h)
          | inr h ↦ inl (begins_balanced (closed_parentheses tokens aliases fits q fit b h))
        ]),
        (λ b q h. h),
        (λ u n inner. opens_more d closer m n (closed_parentheses tokens aliases fits q fit n inner)),
      ),
    ),
  )
  opens_balanced d closer m sign.OpenBracket q = (
    inl (begins_balanced of_nothing),
    λ fit. (
      inl (begins_balanced of_nothing),
      λ seen. (
        inl (begins_brackets of_nothing q fit (begins_balanced of_nothing)),
        tt,
        (λ b h. elim h [
          | inl h ↦ inl (begins_brackets of_nothing q fit h)
          | inr h ↦ inl (begins_balanced (closed_brackets tokens aliases fits q fit b h))
        ]),
        (λ b q h. h),
        (λ u n inner. opens_more d closer m n (closed_brackets tokens aliases fits q fit n inner)),
      ),
    ),
  )
  opens_balanced d closer m sign.OpenBrace q = (
    inl (begins_balanced of_nothing),
    λ fit. (
      inl (begins_balanced of_nothing),
      λ seen. (
        inl (begins_braces of_nothing q fit (begins_balanced of_nothing)),
        tt,
        (λ b h. elim h [
          | inl h ↦ inl (begins_braces of_nothing q fit h)
          | inr h ↦ inl (begins_balanced (closed_braces tokens aliases fits q fit b h))
        ]),
        (λ b q h. h),
        (λ u n inner. opens_more d closer m n (closed_braces tokens aliases fits q fit n inner)),
      ),
    ),
  )
  opens_balanced d closer m _ q =
      (inl (begins_balanced of_nothing), λ plain. opens_more d closer m (m + 1) (of_token plain of_nothing))

  -- The row of balanced tokens begins as they do.
  pub opens_skip : (d : ℕ) (closer : Closer) (m : ℕ)
      → Opens tokens fits a_skip (λ b. Skipped d closer m b) Unrefused (rule tokens a_skip (balanced aliases d closer) m) m
  opens_skip d closer m = (
    (inl (begins_balanced of_nothing), λ seen. inr (m, of_nothing, seen, refl)),
    opens_balanced d closer m (sign_at tokens aliases m) refl,
  )
