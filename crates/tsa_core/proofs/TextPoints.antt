-- A body does at its points what its text does there.
use Rattle.std.proofs.Common.{◌≡◌, ◌∙◌, List, ◌∷◌, ◌++◌, length, map, Option, Some, None, refl, sym, ap, ap₂}
use Rattle.std.proofs.lemmas.List.{length-map, map-append}
use Rattle.tsa_base.specs.declared.token.Span.{Span}
use Rattle.tsa_tree.specs.expressions.Syntax.{Expression}
use Rattle.tsa_tree.specs.points.Syntax.{Deed, tests, PlacedDeed, points_of, points_of_all, points_of_init, points_of_step, point_of_for}
use Rattle.tsa_tree.specs.points.Syntax.{points_of_body}
use Rattle.tsa_tree.specs.statements.Syntax.{Simple, ForInit, no_init, simple_init, local_init, Statement, block, empty, local, simple}
use Rattle.tsa_tree.specs.statements.Syntax.{if_alone, if_else, while_loop, do_loop, for_loop, switch, case, otherwise, label, break}
use Rattle.tsa_tree.specs.statements.Syntax.{continue, goto, return, Statements, none, more}
use Rattle.tsa_tree.specs.types.Scopes.{Scope, further}
use Rattle.tsa_tree.specs.types.Statements.{behind, behind_init}
use Rattle.tsa_tree.specs.types.Targets.{declared_in}
use Rattle.tsa_core.specs.Bodies.{Known, known_init, known_step, known, known_all, known_in_body, point_of}
use Rattle.tsa_core.specs.Control.{count, count_all}
use Rattle.tsa_core.specs.Laws.{PointsAreThoseOfTheText}

abbrev deeds : List Known → List Deed
deeds ks = map (λ k. k.deed) ks

abbrev placed : List PlacedDeed → List Deed
placed ps = map (λ p. p.deed) ps

-- two lists one behind the other, and one point before others
both : (xs ys : List Known) (vs ws : List PlacedDeed) → deeds xs ≡ placed vs → deeds ys ≡ placed ws → deeds (xs ++ ys) ≡ placed (vs ++ ws)
both xs ys vs ws one two = map-append (λ k. k.deed) xs ys ∙ (ap₂ (λ a b. a ++ b) one two ∙ sym (map-append (λ p. p.deed) vs ws))

before : (d : Deed) {xs ys : List Deed} → xs ≡ ys → d ∷ xs ≡ d ∷ ys
before d same = ap (λ xs. d ∷ xs) same

init_deeds : (here : Scope) (init : ForInit) → deeds (known_init here init) ≡ placed (points_of_init init)
init_deeds here no_init = refl
init_deeds here (simple_init s) = refl
init_deeds here (local_init d) = refl

step_deeds : (here : Scope) (step : Option Simple) → deeds (known_step here step) ≡ placed (points_of_step step)
step_deeds here None = refl
step_deeds here (Some s) = refl

test_deed : (span : Span) (test : Option Expression) → tests test ≡ (point_of_for span test).deed
test_deed span None = refl
test_deed span (Some e) = refl

with_test : (span : Span) (test : Option Expression) {xs ys : List Deed} → xs ≡ ys → tests test ∷ xs ≡ (point_of_for span test).deed ∷ ys
with_test span test same = ap₂ (λ d xs. d ∷ xs) (test_deed span test) same

mutual
  unfolding known known_all

  pub statement_deeds : (here : Scope) (s : Statement) → deeds (known here s) ≡ placed (points_of s)
  statement_deeds here (block items span) = statements_deeds here items
  statement_deeds here (empty span) = refl
  statement_deeds here (local d) = refl
  statement_deeds here (simple s) = refl
  statement_deeds here (if_alone test arm span) = before _ (statement_deeds here arm)
  statement_deeds here (if_else test arm other span) =
      before _ (both (known here arm) _ (points_of arm) (points_of other) (statement_deeds here arm) (statement_deeds (further (declared_in arm) here) other))
  statement_deeds here (while_loop test body span) = before _ (statement_deeds here body)
  statement_deeds here (do_loop body test span) = both (known here body) _ (points_of body) _ (statement_deeds here body) refl
  statement_deeds here (for_loop init test step body span) =
      both (known_init here init) _ (points_of_init init) _ (init_deeds here init)
      (with_test span test (both (known_step (behind_init here init) step) _ (points_of_step step) (points_of body) (step_deeds (behind_init here init) step) (statement_deeds (behind_init here init) body)))
  statement_deeds here (switch key body span) = before _ (statement_deeds here body)
  statement_deeds here (case key body span) = statement_deeds here body
  statement_deeds here (otherwise body span) = statement_deeds here body
  statement_deeds here (label name body span) = statement_deeds here body
  statement_deeds here (break span) = refl
  statement_deeds here (continue span) = refl
  statement_deeds here (goto name span) = refl
  statement_deeds here (return given span) = refl

  pub statements_deeds : (here : Scope) (ss : Statements) → deeds (known_all here ss) ≡ placed (points_of_all ss)
  statements_deeds here none = refl
  statements_deeds here (more s ss) = both (known here s) _ (points_of s) (points_of_all ss) (statement_deeds here s) (statements_deeds (behind here s) ss)

as_long : (xs : List Known) (vs : List PlacedDeed) → deeds xs ≡ placed vs → length xs ≡ length vs
as_long xs vs same = sym (length-map xs (λ k. k.deed)) ∙ (ap length same ∙ length-map vs (λ p. p.deed))

-- as many points are known in a statement as it has
pub known_count : (here : Scope) (s : Statement) → length (known here s) ≡ count s
known_count here s = as_long (known here s) (points_of s) (statement_deeds here s)

pub known_count_all : (here : Scope) (ss : Statements) → length (known_all here ss) ≡ count_all ss
known_count_all here ss = as_long (known_all here ss) (points_of_all ss) (statements_deeds here ss)

body_deeds : (here : Scope) (body : Statements) (close : Span) → deeds (known_in_body here body) ≡ placed (points_of_body body close)
body_deeds here body close = both (known_all here body) _ (points_of_all body) _ (statements_deeds here body) refl

pub points_are_those : PointsAreThoseOfTheText
points_are_those here result body close = (
  body_deeds here body close,
  length-map (known_in_body here body) (point_of result) ∙ as_long (known_in_body here body) (points_of_body body close) (body_deeds here body close),
)
