-- Two trees that the same tokens spell are equal, whatever stands after those tokens.
use Rattle.std.proofs.Common.{ℕ, ◌<◌, ◌≤◌, ◌≡◌, ◌∙◌, ap, sym, refl, List, [], ◌∷◌, zero, suc, Some, None, length, take, slice_get, arith}
use Rattle.std.proofs.Common.{nat_eq}
use Rattle.std.proofs.lemmas.List.{length-take}
use Rattle.std.proofs.lemmas.Option.{slice_get_past}
use Rattle.tsa_base.specs.Tokens.{Lexeme}
use Rattle.tsa_tree.specs.declared.sign.Sign.TheVariants as sign
use Rattle.tsa_tree.specs.expressions.Syntax.{Expression}
use Rattle.tsa_tree.specs.tokens.Signs.{Aliases, sign_at, sign_in, operator}
use Rattle.tsa_tree.specs.Rows as rows
use Rattle.tsa_tree.specs.Rows.{sees, rule, is_postfix, mark, an_open}
use Rattle.tsa_tree.specs.expressions.Answers.{Part, an_expression, a_unary, Spells}
use Rattle.tsa_tree.specs.expressions.Laws.{call_of}
use Rattle.tsa_tree.proofs.RowFacts.{Ends, Ended}
use Rattle.tsa_tree.proofs.RowsRead.{one_reading}
use Rattle.tsa_tree.proofs.expressions.RowEquality.{spell_the_same}
use Rattle.tsa_tree.proofs.expressions.OwnTokens.{truncated-expression, truncated-unary}
use Rattle.tsa_grammar.specs.Reading.{all}

module _ (tokens : List Lexeme) (aliases : Aliases) where
  pub ends_there : (e : ℕ) → length tokens ≤ e → sign_at tokens aliases e ≡ sign.End
  unfolding sign_at
  ends_there e le = ap (sign_in aliases) (slice_get_past tokens e le)

  ended_there : (t : Expression) (e : ℕ) → length tokens ≤ e → Ended tokens aliases t e
  ended_there t e le =
      (ap is_postfix (ends_there e le), λ l. ap (λ s. nat_eq (mark s) 6) (ends_there e le))

  -- no part goes on after the last token
  pub at_the_end : (p : Part) (d : ℕ) (t : Expression) (e : ℕ) → length tokens ≤ e → Ends tokens rows.an_expression (call_of aliases p d) t e
  at_the_end an_expression d t e le =
      (ended_there t e le, λ o q. let never : None ≡ Some o = sym (ap operator (ends_there e le)) ∙ q in cc)
  at_the_end a_unary d t e le = ended_there t e le

  one_to_the_end : (p : Part) (d : ℕ) (t u : Expression) (a e : ℕ) → length tokens ≤ e
      → Spells tokens aliases all p d t a e → Spells tokens aliases all p d u a e → t ≡ u
  one_to_the_end p d t u a e le h k =
      one_reading tokens rows.an_expression (call_of aliases p d) t u a e
      ((spell_the_same tokens aliases all p d t a e).0 h) ((spell_the_same tokens aliases all p d u a e).0 k)
      (at_the_end p d t e le) (at_the_end p d u e le)

slice_get-take : {X : Type 0} (b : ℕ) (xs : List X) (i : ℕ) → i < b → slice_get (take b xs) i ≡ slice_get xs i
slice_get-take zero xs i lt = absurd (omega arith)
slice_get-take (suc b) [] i lt = refl
slice_get-take (suc b) (x ∷ xs) zero lt = refl
slice_get-take (suc b) (x ∷ xs) (suc i) lt = slice_get-take b xs i (omega arith)

truncated : (tokens : List Lexeme) (aliases : Aliases) (p : Part) (d : ℕ) (t : Expression) (a b : ℕ)
    → Spells tokens aliases all p d t a b → Spells (take b tokens) aliases all p d t a b
truncated tokens aliases an_expression d t a b h = truncated-expression tokens (take b tokens) aliases all (λ i lt. sym (slice_get-take b tokens i lt)) h
truncated tokens aliases a_unary d t a b h = truncated-unary tokens (take b tokens) aliases all (λ i lt. sym (slice_get-take b tokens i lt)) h

pub one_tree : (tokens : List Lexeme) (aliases : Aliases) (p : Part) (d : ℕ) (t u : Expression) (a b : ℕ)
    → Spells tokens aliases all p d t a b → Spells tokens aliases all p d u a b → t ≡ u
one_tree tokens aliases p d t u a b h k =
    one_to_the_end (take b tokens) aliases p d t u a b (omega (arith, length-take b tokens))
    (truncated tokens aliases p d t a b h) (truncated tokens aliases p d u a b k)
