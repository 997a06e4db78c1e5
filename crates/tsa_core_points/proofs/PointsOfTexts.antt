-- The points of a body are those of its text.
use Rattle.std.proofs.Common.{◌≡◌, ◌∙◌, List, ◌∷◌, ◌++◌, map, Option, Some, None, refl, ap, ap₂}
use Rattle.std.proofs.lemmas.List.{map-append}
use Rattle.tsa_base.specs.declared.token.Span.{Span}
use Rattle.tsa_tree.specs.expressions.Syntax.{Expression}
use Rattle.tsa_tree.specs.points.Syntax.{PlacedDeed, points_of, points_of_all, points_of_init, points_of_step, point_of_for}
use Rattle.tsa_tree.specs.statements.Syntax.{Simple, ForInit, no_init, simple_init, local_init, Statement, block, empty, local, simple}
use Rattle.tsa_tree.specs.statements.Syntax.{if_alone, if_else, while_loop, do_loop, for_loop, switch, case, otherwise, label, break}
use Rattle.tsa_tree.specs.statements.Syntax.{continue, goto, return, Statements, none, more}
use Rattle.tsa_tree.specs.types.Scopes.{Scope, further}
use Rattle.tsa_tree.specs.types.Statements.{behind_init, behind}
use Rattle.tsa_tree.specs.types.Targets.{declared_in}
use Rattle.tsa_core_points.specs.Points.{PlacedPoint, placed_init, placed_step, placed_for, placed_in, placed_all}
use Rattle.tsa_core_points.specs.Laws.{written_of, PlacedAreWritten}

both : (xs ys : List PlacedPoint) (vs ws : List PlacedDeed) → map written_of xs ≡ vs → map written_of ys ≡ ws → map written_of (xs ++ ys) ≡ vs ++ ws
both xs ys vs ws one two = map-append written_of xs ys ∙ ap₂ (λ a b. a ++ b) one two

before : (x : PlacedDeed) {xs ys : List PlacedDeed} → xs ≡ ys → x ∷ xs ≡ x ∷ ys
before x same = ap (λ xs. x ∷ xs) same

init_written : (here : Scope) (init : ForInit) → map written_of (placed_init here init) ≡ points_of_init init
init_written here no_init = refl
init_written here (simple_init s) = refl
init_written here (local_init d) = refl

step_written : (here : Scope) (step : Option Simple) → map written_of (placed_step here step) ≡ points_of_step step
step_written here None = refl
step_written here (Some s) = refl

test_written : (here : Scope) (span : Span) (test : Option Expression) → written_of (placed_for here span test) ≡ point_of_for span test
test_written here span None = refl
test_written here span (Some e) = refl

with_test : (here : Scope) (span : Span) (test : Option Expression) {xs ys : List PlacedDeed} → xs ≡ ys
    → written_of (placed_for here span test) ∷ xs ≡ point_of_for span test ∷ ys
with_test here span test same = ap₂ (λ k ks. k ∷ ks) (test_written here span test) same

mutual
  unfolding placed_in placed_all

  one_written : (here : Scope) (s : Statement) → map written_of (placed_in here s) ≡ points_of s
  one_written here (block items span) = all_written here items
  one_written here (empty span) = refl
  one_written here (local d) = refl
  one_written here (simple s) = refl
  one_written here (if_alone test arm span) = before _ (one_written here arm)
  one_written here (if_else test arm other span) =
      before _ (both (placed_in here arm) _ _ _ (one_written here arm) (one_written (further (declared_in arm) here) other))
  one_written here (while_loop test body span) = before _ (one_written here body)
  one_written here (do_loop body test span) = both (placed_in here body) _ _ _ (one_written here body) refl
  one_written here (for_loop init test step body span) =
      both (placed_init here init) _ _ _ (init_written here init)
      (with_test (behind_init here init) span test
      (both (placed_step (behind_init here init) step) _ _ _ (step_written (behind_init here init) step) (one_written (behind_init here init) body)))
  one_written here (switch key body span) = before _ (one_written here body)
  one_written here (case key body span) = one_written here body
  one_written here (otherwise body span) = one_written here body
  one_written here (label name body span) = one_written here body
  one_written here (break span) = refl
  one_written here (continue span) = refl
  one_written here (goto name span) = refl
  one_written here (return given span) = refl

  all_written : (here : Scope) (ss : Statements) → map written_of (placed_all here ss) ≡ points_of_all ss
  all_written here none = refl
  all_written here (more s ss) = both (placed_in here s) _ _ _ (one_written here s) (all_written (behind here s) ss)

pub placed_are_written : PlacedAreWritten
placed_are_written here body close = (all_written here body, both (placed_all here body) _ _ _ (all_written here body) refl)
