-- Simple statements: what their first token and the one after the first operand decide.
use Rattle.std.proofs.Common.{ℕ, ◌+◌, ◌≡◌, ◌∙◌, ap, sym, refl, Bool, true, false, List, Option, Some, None, Ok, Err, nat_eq, nat_le}
use Rattle.tsa_base.specs.declared.token.Span.{Span}
use Rattle.tsa_base.specs.Tokens.{Lexeme}
use Rattle.tsa_grammar.proofs.Cases.{chosen, goes}
use Rattle.tsa_grammar.specs.Form.{done, token, part}
use Rattle.tsa_grammar.specs.Reading.{Outcome, then, choose, follow}
use Rattle.tsa_tree.proofs.RowsRead.{read_steps}
use Rattle.tsa_tree.specs.declared.expr.BinaryOp.{BinaryOp}
use Rattle.tsa_tree.specs.declared.sign.Sign.{Sign}
use Rattle.tsa_tree.specs.declared.sign.Sign.TheVariants as sign
use Rattle.tsa_tree.specs.expressions.Answers.{below_limit}
use Rattle.tsa_tree.specs.expressions.Syntax.{Expression}
use Rattle.tsa_tree.specs.Reads.{read}
use Rattle.tsa_tree.specs.tokens.Signs.{level}
use Rattle.tsa_tree.specs.Rows.{an_expression, a_simple, Row, expression, operand, operation, simple, mark, sees, tightest, climb, climb_on}
use Rattle.tsa_tree.specs.Rows.{an_assignment, is_assignment, simple_row, simple_behind}
use Rattle.tsa_tree.specs.tokens.Signs.{Aliases, sign_at, span_over, assigns, operator}
use Rattle.tsa_tree.specs.statements.Spelling.{one_at}
use Rattle.tsa_tree.specs.statements.Syntax.{Simple, SimplePart, evaluation, assignment, by_expression}
use Rattle.tsa_expr.specs.declared.refusal.SyntaxRefusal.{SyntaxRefusal}
use Rattle.tsa_expr.specs.Gives.{Fails}
use Rattle.tsa_expr.proofs.Answering.{fails_then, fails_same}
use Rattle.tsa_expr.proofs.Places.{sign_within}
use Rattle.tsa_attr.proofs.Joining.{then-then, then-same, then-ok}
use Rattle.tsa_unit_simple.specs.declared.simple.Simple as read_simple
use Rattle.tsa_unit_simple.specs.declared.simple.SimpleKind.{SimpleKind}
use Rattle.tsa_unit_simple.specs.Outcomes.{step_in, simple_at}
use Rattle.tsa_unit_simple.specs.Readings.{kind_shape, simple_shape}

is_step : (s : Sign) (op : BinaryOp) → step_in s ≡ Some op → s ≡ sign.Step op
is_step (sign.Step o) op h = cc
is_step _ op h = cc

-- what goes on after an operand, or doesn't
rest-law : {A B : Type 0} (b : Bool) (r : Outcome A) (x : A) (m : ℕ) (f : A → ℕ → Outcome B)
    → choose b (then r f) (f x m) ≡ then (choose b (then r (λ y e. Ok (y, e))) (Ok (x, m))) f
unfolding choose then
rest-law true (Ok p) x m f = refl
rest-law true (Err e) x m f = refl
rest-law false r x m f = refl

abbrev given : Simple → ℕ → Outcome Simple
given x n = Ok (x, n)

module _ (ts : List Lexeme) (aliases : Aliases) where
  abbrev going : Row a_simple → ℕ → Outcome SimplePart
  going f m = follow (sees ts) below_limit (read ts) a_simple f m

  abbrev going_on : Row an_expression → ℕ → Outcome Expression
  going_on f m = follow (sees ts) below_limit (read ts) an_expression f m

  abbrev dropped : SimplePart → ℕ → Outcome Simple
  dropped x n = Ok (x.simple, n)

  abbrev behind : (d start : ℕ) → Expression → ℕ → Sign → Row a_simple
  behind d start l m s = simple_behind ts aliases d start l m s (assigns s)

  simple_is : (d m : ℕ) → simple_at ts aliases d m ≡ then (going (simple_row ts aliases d m (sign_at ts aliases m)) m) dropped
  unfolding simple_at
  simple_is d m = ap (λ r. then r dropped) (read_steps ts a_simple (simple aliases d) m)

  -- what was made of the parts that were read
  made : (r : read_simple.Simple) (kind : SimpleKind) (make : Span → Simple) (span : Span) (n : ℕ) → kind_shape kind ≡ make
      → simple_shape r ≡ kind_shape kind span → r.next ≡ n → given (make span) n ≡ Ok (simple_shape r, r.next)
  made r kind make span n a q p = ap (λ s. given s n) (sym (q ∙ ap (λ f. f span) a)) ∙ ap (λ n. given (simple_shape r) n) (sym p)

  -- a step before its operand
  stepped : (d m : ℕ) (op : BinaryOp) → step_in (sign_at ts aliases m) ≡ Some op
      → simple_at ts aliases d m
      ≡ then (read ts an_expression (operand aliases d) (m + 1)) (λ x n. Ok (assignment x (Some op) (one_at ts m) (span_over ts m n), n))
  stepped d m op h =
      let e : sign_at ts aliases m ≡ sign.Step op = is_step (sign_at ts aliases m) op h in
      simple_is d m ∙ ap (λ s. then (going (simple_row ts aliases d m s) m) dropped) e
      ∙ ap (λ r. then r dropped) (chosen _ _ _ (ap (λ s. nat_eq (mark s) 26) e))
      ∙ then-then (read ts an_expression (operand aliases d) (m + 1)) _ dropped
      ∙ then-same (read ts an_expression (operand aliases d) (m + 1)) _ _ (λ x n. then-ok _ n dropped)

  pub stepped_fails : (d m : ℕ) (op : BinaryOp) (e : SyntaxRefusal) → step_in (sign_at ts aliases m) ≡ Some op
      → Fails e (read ts an_expression (operand aliases d) (m + 1)) → Fails e (simple_at ts aliases d m)
  stepped_fails d m op e h f = fails_same e _ _ (stepped d m op h) (fails_then e _ _ f)

  pub stepped_goes : (d m : ℕ) (op : BinaryOp) (x : Expression) (n : ℕ) (y : Expression) (kind : SimpleKind) (r : read_simple.Simple)
      → step_in (sign_at ts aliases m) ≡ Some op → read ts an_expression (operand aliases d) (m + 1) ≡ Ok (x, n) → y ≡ one_at ts m
      → kind_shape kind ≡ assignment x (Some op) y → simple_shape r ≡ kind_shape kind (span_over ts m n) → r.next ≡ n
      → simple_at ts aliases d m ≡ Ok (simple_shape r, r.next)
  stepped_goes d m op x n y kind r h k o a q p =
      stepped d m op h ∙ goes _ _ x n k ∙ ap (λ y. Ok (assignment x (Some op) y (span_over ts m n), n)) (sym o)
      ∙ made r kind (assignment x (Some op) y) (span_over ts m n) n a q p

  -- an operand first
  plain_row : (d m : ℕ) (s : Sign) → step_in s ≡ None
      → simple_row ts aliases d m s ≡ part an_expression (operand aliases d) (λ l n. behind d m l n (sign_at ts aliases n))
  plain_row d m (sign.Step op) h = cc
  plain_row d m _ h = refl

  unstepped : (d m : ℕ) → step_in (sign_at ts aliases m) ≡ None
      → simple_at ts aliases d m
      ≡ then (read ts an_expression (operand aliases d) m) (λ l n. then (going (behind d m l n (sign_at ts aliases n)) n) dropped)
  unstepped d m h =
      simple_is d m ∙ ap (λ f. then (going f m) dropped) (plain_row d m (sign_at ts aliases m) h)
      ∙ then-then (read ts an_expression (operand aliases d) m) _ dropped

  pub unstepped_fails : (d m : ℕ) (e : SyntaxRefusal) → step_in (sign_at ts aliases m) ≡ None
      → Fails e (read ts an_expression (operand aliases d) m) → Fails e (simple_at ts aliases d m)
  unstepped_fails d m e h f = fails_same e _ _ (unstepped d m h) (fails_then e _ _ f)

  begun : (d start : ℕ) (l : Expression) (m : ℕ) → step_in (sign_at ts aliases start) ≡ None
      → read ts an_expression (operand aliases d) start ≡ Ok (l, m)
      → simple_at ts aliases d start ≡ then (going (behind d start l m (sign_at ts aliases m)) m) dropped
  begun d start l m h k = unstepped d start h ∙ goes _ _ l m k

  -- a step after it
  pub step_behind : (d start : ℕ) (l : Expression) (m : ℕ) (op : BinaryOp) (y : Expression) (kind : SimpleKind) (r : read_simple.Simple)
      → step_in (sign_at ts aliases start) ≡ None → read ts an_expression (operand aliases d) start ≡ Ok (l, m)
      → step_in (sign_at ts aliases m) ≡ Some op → y ≡ one_at ts m
      → kind_shape kind ≡ assignment l (Some op) y → simple_shape r ≡ kind_shape kind (span_over ts start (m + 1)) → r.next ≡ m + 1
      → simple_at ts aliases d start ≡ Ok (simple_shape r, r.next)
  step_behind d start l m op y kind r h k b o a q p =
      let e : sign_at ts aliases m ≡ sign.Step op = is_step (sign_at ts aliases m) op b in
      begun d start l m h k ∙ ap (λ s. then (going (behind d start l m s) m) dropped) e
      ∙ ap (λ r. then r dropped) (chosen _ _ _ (ap (λ s. nat_eq (mark s) 26) e))
      ∙ then-ok _ (m + 1) dropped
      ∙ ap (λ y. Ok (assignment l (Some op) y (span_over ts start (m + 1)), m + 1)) (sym o)
      ∙ made r kind (assignment l (Some op) y) (span_over ts start (m + 1)) (m + 1) a q p

  -- an assignment
  abbrev value_row : (d start : ℕ) → Expression → Option BinaryOp → Row a_simple
  value_row d start l op =
      token (an_assignment aliases) (part an_expression (expression aliases d 0) (λ r n.
      done (record { simple = assignment l op r (span_over ts start n); ending = by_expression r })))

  assigned_row : (d start : ℕ) (l : Expression) (m : ℕ) (s : Sign) (op : Option BinaryOp) → assigns s ≡ Some op
      → behind d start l m s ≡ value_row d start l op
  assigned_row d start l m sign.Equals None h = refl
  assigned_row d start l m sign.Equals (Some o) h = cc
  assigned_row d start l m (sign.Assign o) op h = ap (λ op. value_row d start l op) (some_same h)
    where
      some_same : Some (Some o) ≡ Some op → Some o ≡ op
      some_same e = cc
  assigned_row d start l m _ op h = cc

  assigned : (d start : ℕ) (l : Expression) (m : ℕ) (op : Option BinaryOp) → step_in (sign_at ts aliases start) ≡ None
      → read ts an_expression (operand aliases d) start ≡ Ok (l, m) → assigns (sign_at ts aliases m) ≡ Some op
      → simple_at ts aliases d start
      ≡ then (read ts an_expression (expression aliases d 0) (m + 1)) (λ r n. Ok (assignment l op r (span_over ts start n), n))
  assigned d start l m op h k b =
      begun d start l m h k ∙ ap (λ f. then (going f m) dropped) (assigned_row d start l m (sign_at ts aliases m) op b)
      ∙ ap (λ r. then r dropped) (chosen _ _ _ (ap is_assignment b))
      ∙ then-then (read ts an_expression (expression aliases d 0) (m + 1)) _ dropped
      ∙ then-same (read ts an_expression (expression aliases d 0) (m + 1)) _ _ (λ x n. then-ok _ n dropped)

  pub assigned_fails : (d start : ℕ) (l : Expression) (m : ℕ) (op : Option BinaryOp) (e : SyntaxRefusal)
      → step_in (sign_at ts aliases start) ≡ None → read ts an_expression (operand aliases d) start ≡ Ok (l, m)
      → assigns (sign_at ts aliases m) ≡ Some op → Fails e (read ts an_expression (expression aliases d 0) (m + 1))
      → Fails e (simple_at ts aliases d start)
  assigned_fails d start l m op e h k b f = fails_same e _ _ (assigned d start l m op h k b) (fails_then e _ _ f)

  pub assigned_goes : (d start : ℕ) (l : Expression) (m : ℕ) (op : Option BinaryOp) (x : Expression) (n : ℕ) (kind : SimpleKind) (r : read_simple.Simple)
      → step_in (sign_at ts aliases start) ≡ None → read ts an_expression (operand aliases d) start ≡ Ok (l, m)
      → assigns (sign_at ts aliases m) ≡ Some op → read ts an_expression (expression aliases d 0) (m + 1) ≡ Ok (x, n)
      → kind_shape kind ≡ assignment l op x → simple_shape r ≡ kind_shape kind (span_over ts start n) → r.next ≡ n
      → simple_at ts aliases d start ≡ Ok (simple_shape r, r.next)
  assigned_goes d start l m op x n kind r h k b v a q p =
      assigned d start l m op h k b ∙ goes _ _ x n v ∙ made r kind (assignment l op x) (span_over ts start n) n a q p

  -- an expression
  rest_row : (d start : ℕ) (l : Expression) (m : ℕ) (s : Sign) → step_in s ≡ None → assigns s ≡ None
      → behind d start l m s
      ≡ climb ts aliases d 0 tightest start l m (λ x n. done (record { simple = evaluation x (span_over ts start n); ending = by_expression x }))
  rest_row d start l m (sign.Step op) h k = cc
  rest_row d start l m sign.Equals h k = cc
  rest_row d start l m (sign.Assign op) h k = cc
  rest_row d start l m _ h k = refl

  abbrev evaluated : (start : ℕ) → Expression → ℕ → Outcome SimplePart
  evaluated start x n = Ok (record { simple = evaluation x (span_over ts start n); ending = by_expression x }, n)

  climbs : (d start : ℕ) (l : Expression) (m : ℕ) (o : Option BinaryOp)
      → going (climb_on ts aliases d 0 tightest start l m (λ x n. done (record { simple = evaluation x (span_over ts start n); ending = by_expression x })) o) m
      ≡ then (going_on (climb_on ts aliases d 0 tightest start l m (λ x e. done x) o) m) (evaluated start)
  climbs d start l m None = sym (then-ok l m (evaluated start))
  climbs d start l m (Some op) =
      rest-law (nat_le 0 (level op)) (read ts an_expression (operation aliases d 0 start l) m) l m (evaluated start)

  rest : (d start : ℕ) (l : Expression) (m : ℕ) → step_in (sign_at ts aliases start) ≡ None
      → read ts an_expression (operand aliases d) start ≡ Ok (l, m)
      → step_in (sign_at ts aliases m) ≡ None → assigns (sign_at ts aliases m) ≡ None
      → simple_at ts aliases d start ≡ then (read ts an_expression (expression aliases d 0) start) (λ x n. Ok (evaluation x (span_over ts start n), n))
  rest d start l m h k b c =
      begun d start l m h k ∙ ap (λ f. then (going f m) dropped) (rest_row d start l m (sign_at ts aliases m) b c)
      ∙ ap (λ r. then r dropped) (climbs d start l m (operator (sign_at ts aliases m)))
      ∙ ap (λ r. then (then r (evaluated start)) dropped) (sym (read_steps ts an_expression (expression aliases d 0) start ∙ goes _ _ l m k))
      ∙ then-then (read ts an_expression (expression aliases d 0) start) (evaluated start) dropped
      ∙ then-same (read ts an_expression (expression aliases d 0) start) _ _ (λ x n. then-ok _ n dropped)

  pub rest_fails : (d start : ℕ) (l : Expression) (m : ℕ) (e : SyntaxRefusal) → step_in (sign_at ts aliases start) ≡ None
      → read ts an_expression (operand aliases d) start ≡ Ok (l, m) → step_in (sign_at ts aliases m) ≡ None
      → assigns (sign_at ts aliases m) ≡ None → Fails e (read ts an_expression (expression aliases d 0) start)
      → Fails e (simple_at ts aliases d start)
  rest_fails d start l m e h k b c f = fails_same e _ _ (rest d start l m h k b c) (fails_then e _ _ f)

  pub rest_goes : (d start : ℕ) (l : Expression) (m : ℕ) (x : Expression) (n : ℕ) (kind : SimpleKind) (r : read_simple.Simple) → step_in (sign_at ts aliases start) ≡ None
      → read ts an_expression (operand aliases d) start ≡ Ok (l, m) → step_in (sign_at ts aliases m) ≡ None
      → assigns (sign_at ts aliases m) ≡ None → read ts an_expression (expression aliases d 0) start ≡ Ok (x, n)
      → kind_shape kind ≡ evaluation x → simple_shape r ≡ kind_shape kind (span_over ts start n) → r.next ≡ n
      → simple_at ts aliases d start ≡ Ok (simple_shape r, r.next)
  rest_goes d start l m x n kind r h k b c v a q p =
      rest d start l m h k b c ∙ goes _ _ x n v ∙ made r kind (evaluation x) (span_over ts start n) n a q p

pub ruleset simples = (stepped_fails, unstepped_fails, sign_within)

pub ruleset behind_operands = (sign_within, assigned_fails, rest_fails)
