-- Arguments, one by one.
use Rattle.std.proofs.Common.{ℕ, ◌+◌, ◌≡◌, ◌≢◌, ◌∙◌, ap, sym, refl, max, List, [], ◌∷◌, ◌++◌, Ok, Err, nat_eq, arith}
use Rattle.tsa_base.specs.Tokens.{Lexeme}
use Rattle.tsa_grammar.proofs.Cases.{chosen, other, goes}
use Rattle.tsa_grammar.specs.Reading.{Outcome, refuse, syntax, then, follow}
use Rattle.tsa_tree.proofs.RowsRead.{read_steps}
use Rattle.tsa_tree.specs.declared.expr.Expr.{Expr}
use Rattle.tsa_tree.specs.declared.sign.Sign.TheVariants as sign
use Rattle.tsa_tree.specs.expressions.Answers.{below_limit}
use Rattle.tsa_tree.specs.expressions.Syntax.{Expression, Arguments, none, more, height, heights}
use Rattle.tsa_tree.specs.Reads.{read}
use Rattle.tsa_tree.specs.Rows.{an_expression, some_arguments, expression, series, sees, mark, Row, series_end}
use Rattle.tsa_tree.specs.expressions.Shapes.{shape, shapes}
use Rattle.tsa_tree.specs.tokens.Signs.{Aliases, sign_at}
use Rattle.tsa_expr.specs.declared.refusal.SyntaxRefusal.{SyntaxRefusal}
use Rattle.tsa_expr.specs.Gives.{Fails}
use Rattle.tsa_expr.specs.Readings.{joined, after}
use Rattle.tsa_expr.proofs.Answering.{fails_then, fails_same, gives_same, not_close, not_comma}
use Rattle.tsa_expr.proofs.Places.{read_ends}

pub joined-one : (front : Arguments) (x : Expression) (rest : Arguments) → joined (joined front (more x none)) rest ≡ joined front (more x rest)
joined-one none x rest = refl
joined-one (more y front) x rest = ap (more y) (joined-one front x rest)

pub shapes-push : (xs : List Expr) (x : Expr) → shapes (xs ++ x ∷ []) ≡ joined (shapes xs) (more (shape x) none)
shapes-push [] x = refl
shapes-push (y ∷ xs) x = ap (more (shape y)) (shapes-push xs x)

pub heights-push : (xs : List Expr) (x : Expr) → heights (shapes (xs ++ x ∷ [])) ≡ max (heights (shapes xs)) (height (shape x))
heights-push [] x = omega arith
heights-push (y ∷ xs) x = omega (arith, heights-push xs x)

after-then : {A : Type 0} (front : Arguments) (r : Outcome A) (go : A → ℕ → Outcome Arguments) → after front (then r go) ≡ then r (λ x n. after front (go x n))
unfolding then
after-then front (Ok p) go = refl
after-then front (Err e) go = refl

after-more : (front : Arguments) (x : Expression) (r : Outcome Arguments) → after front (then r (λ xs n. Ok (more x xs, n))) ≡ after (joined front (more x none)) r
unfolding then
after-more front x (Ok p) = ap (λ xs. Ok (xs, p.1)) (sym (joined-one front x p.0))
after-more front x (Err e) = refl

after_none : (r : Outcome Arguments) → after none r ≡ r
unfolding then
after_none (Ok p) = refl
after_none (Err e) = refl

-- after an empty list nothing is put in front
pub list_whole : (zs : List Expr) (r : Outcome Arguments) (xs : Arguments) (n : ℕ) → zs ≡ [] → after (shapes zs) r ≡ Ok (xs, n) → r ≡ Ok (xs, n)
list_whole zs r xs n z h = sym (after_none r) ∙ ap (λ zs. after (shapes zs) r) (sym z) ∙ h

pub list_refused : (zs : List Expr) (r : Outcome Arguments) (e : SyntaxRefusal) → zs ≡ [] → Fails e (after (shapes zs) r) → Fails e r
list_refused zs r e z h = fails_same e _ _ (sym (after_none r) ∙ ap (λ zs. after (shapes zs) r) (sym z)) h

module _ (ts : List Lexeme) (aliases : Aliases) where
  abbrev going : Row some_arguments → ℕ → Outcome Arguments
  going f m = follow (sees ts) below_limit (read ts) some_arguments f m

  pub list_fails : (front : Arguments) (d m : ℕ) (e : SyntaxRefusal) → Fails e (read ts an_expression (expression aliases d 0) m)
      → Fails e (after front (read ts some_arguments (series aliases d) m))
  list_fails front d m e h = fails_then e _ _ (fails_same e _ _ (read_steps ts some_arguments (series aliases d) m) (fails_then e _ _ h))

  list_at : (d m : ℕ) (x : Expression) (n : ℕ) → read ts an_expression (expression aliases d 0) m ≡ Ok (x, n)
      → read ts some_arguments (series aliases d) m ≡ going (series_end ts aliases d x n) n
  list_at d m x n e = read_steps ts some_arguments (series aliases d) m ∙ goes _ _ x n e

  pub list_wrong : (front : Arguments) (d m : ℕ) (x : Expression) (n : ℕ) → read ts an_expression (expression aliases d 0) m ≡ Ok (x, n)
      → sign_at ts aliases n ≢ sign.Comma → sign_at ts aliases n ≢ sign.Close → after front (read ts some_arguments (series aliases d) m) ≡ Err (refuse syntax n)
  unfolding then
  list_wrong front d m x n e a b =
      ap (after front) (list_at d m x n e ∙ other _ _ _ (not_comma (sign_at ts aliases n) a) ∙ other _ _ _ (not_close (sign_at ts aliases n) b))

  pub list_last : (front : Arguments) (d m : ℕ) (x : Expression) (n : ℕ) → read ts an_expression (expression aliases d 0) m ≡ Ok (x, n)
      → sign_at ts aliases n ≡ sign.Close → after front (read ts some_arguments (series aliases d) m) ≡ Ok (joined front (more x none), n + 1)
  unfolding then
  list_last front d m x n e c =
      ap (after front) (list_at d m x n e ∙ other _ _ _ (ap (λ s. nat_eq (mark s) 10) c) ∙ chosen _ _ _ (ap (λ s. nat_eq (mark s) 7) c))

  pub list_more : (front : Arguments) (d m : ℕ) (x : Expression) (n : ℕ) → read ts an_expression (expression aliases d 0) m ≡ Ok (x, n)
      → sign_at ts aliases n ≡ sign.Comma
      → after front (read ts some_arguments (series aliases d) m) ≡ after (joined front (more x none)) (read ts some_arguments (series aliases d) (n + 1))
  list_more front d m x n e c =
      ap (after front) (list_at d m x n e ∙ chosen _ _ _ (ap (λ s. nat_eq (mark s) 10) c) ∙ chosen _ _ _ (ap (λ s. nat_eq (mark s) 10) c))
      ∙ after-more front x _

pub ruleset lists = (list_fails, list_wrong, list_last, list_more, shapes-push, heights-push, fails_same)

pub ruleset arguments = (list_whole, list_refused, read_ends)
