-- The points of a body are those of the core program, and so are the locals that never change.
use Rattle.std.proofs.Common.{◌≡◌, ◌∙◌, Bool, true, List, [], ◌∷◌, ◌++◌, map, replicate, Option, Some, None, refl, sym, ap, ap₂}
use Rattle.std.proofs.lemmas.List.{map-append}
use Rattle.tsa_base.specs.declared.token.Span.{Span}
use Rattle.tsa_tree.specs.expressions.Syntax.{Expression}
use Rattle.tsa_tree.specs.points.Syntax.{Deed, declares, evaluates, assigns, tests, switches, jumps, idles, returns, ends}
use Rattle.tsa_tree.specs.statements.Syntax.{Simple, ForInit, no_init, simple_init, local_init, Statement, block, empty, local, simple}
use Rattle.tsa_tree.specs.statements.Syntax.{if_alone, if_else, while_loop, do_loop, for_loop, switch, case, otherwise, label, break}
use Rattle.tsa_tree.specs.statements.Syntax.{continue, goto, return, Statements, none, more}
use Rattle.tsa_tree.specs.types.Scopes.{Scope, further}
use Rattle.tsa_tree.specs.types.Statements.{behind_init, behind}
use Rattle.tsa_tree.specs.types.Targets.{declared_in}
use Rattle.tsa_core.specs.Bodies.{Known, knows, known_init, known_step, known, known_all, known_in_body, point_of, stable_by, stable_behind}
use Rattle.tsa_core.specs.Uses.{uses_of}
use Rattle.tsa_core_points.specs.CoreLaws.{known_of, seen, seen_at, PlacedAreKnown, PointsAreOfTheCore, UsesAreOfTheCore, StableIsOfTheCore}
use Rattle.tsa_core_points.specs.Points.{PlacedPoint, placed_init, placed_step, placed_for, placed_in, placed_all}
use Rattle.tsa_core_points.specs.Stable.{stable_along}
use Rattle.tsa_core_points.specs.Steps.{BodyStep, does, opens, closes, body_steps}
use Rattle.tsa_core_points.specs.Walks.{Walk, walk, pass, points_along, placed_in_body}
use Rattle.tsa_core_points.proofs.Meanings.{point_kept}
use Rattle.tsa_core_points.proofs.UsesKept.{uses_kept}
use Rattle.tsa_core_points.proofs.Passing.{body_steps_are_the_points}

abbrev there : List PlacedPoint → List Known
there ps = map (λ p. seen_at (known_of p)) ps

abbrev core : List Known → List Known
core ks = map seen_at ks

-- two lists one behind the other
both : (xs ys : List PlacedPoint) (vs ws : List Known) → there xs ≡ core vs → there ys ≡ core ws → there (xs ++ ys) ≡ core (vs ++ ws)
both xs ys vs ws one two = map-append (λ p. seen_at (known_of p)) xs ys ∙ ap₂ (λ a b. a ++ b) one two ∙ sym (map-append seen_at vs ws)

before : (x : Known) {xs ys : List Known} → xs ≡ ys → x ∷ xs ≡ x ∷ ys
before x same = ap (λ xs. x ∷ xs) same

init_known : (here : Scope) (init : ForInit) → there (placed_init here init) ≡ core (known_init here init)
init_known here no_init = refl
init_known here (simple_init s) = refl
init_known here (local_init d) = refl

step_known : (here : Scope) (step : Option Simple) → there (placed_step here step) ≡ core (known_step here step)
step_known here None = refl
step_known here (Some s) = refl

with_test : (here : Scope) (span : Span) (test : Option Expression) {xs ys : List Known} → xs ≡ ys
    → seen_at (known_of (placed_for here span test)) ∷ xs ≡ seen_at (knows here (tests test)) ∷ ys
with_test here span None same = before _ same
with_test here span (Some e) same = before _ same

mutual
  unfolding placed_in placed_all known known_all

  one_known : (here : Scope) (s : Statement) → there (placed_in here s) ≡ core (known here s)
  one_known here (block items span) = all_known here items
  one_known here (empty span) = refl
  one_known here (local d) = refl
  one_known here (simple s) = refl
  one_known here (if_alone test arm span) = before _ (one_known here arm)
  one_known here (if_else test arm other span) =
      before _ (both (placed_in here arm) _ (known here arm) _ (one_known here arm) (one_known (further (declared_in arm) here) other))
  one_known here (while_loop test body span) = before _ (one_known here body)
  one_known here (do_loop body test span) = both (placed_in here body) _ (known here body) (knows here (tests (Some test)) ∷ []) (one_known here body) refl
  one_known here (for_loop init test step body span) =
      both (placed_init here init) _ (known_init here init) _ (init_known here init)
      (with_test (behind_init here init) span test
      (both (placed_step (behind_init here init) step) _ (known_step (behind_init here init) step) _ (step_known (behind_init here init) step) (one_known (behind_init here init) body)))
  one_known here (switch key body span) = before _ (one_known here body)
  one_known here (case key body span) = one_known here body
  one_known here (otherwise body span) = one_known here body
  one_known here (label name body span) = one_known here body
  one_known here (break span) = refl
  one_known here (continue span) = refl
  one_known here (goto name span) = refl
  one_known here (return given span) = refl

  all_known : (here : Scope) (ss : Statements) → there (placed_all here ss) ≡ core (known_all here ss)
  all_known here none = refl
  all_known here (more s ss) = both (placed_in here s) _ (known here s) _ (one_known here s) (all_known (behind here s) ss)

pub placed_are_known : PlacedAreKnown
placed_are_known here body close = both (placed_all here body) _ (known_all here body) (knows here ends ∷ []) (all_known here body) refl

-- what depends on what is seen alone is the same
module _ {A : Type 0} (f : Known → A) (kept : (k : Known) → f (seen_at k) ≡ f k) where
  of_known : (ks : List Known) → map f (core ks) ≡ map f ks
  of_known [] = refl
  of_known (k ∷ ks) = ap₂ (λ x xs. x ∷ xs) (kept k) (of_known ks)

  of_placed : (ps : List PlacedPoint) → map (λ p. f (known_of p)) ps ≡ map f (there ps)
  of_placed [] = refl
  of_placed (p ∷ ps) = ap₂ (λ x xs. x ∷ xs) (sym (kept (known_of p))) (of_placed ps)

  of_the_core : (here : Scope) (body : Statements) (close : Span) → map (λ p. f (known_of p)) (placed_in_body here body close) ≡ map f (known_in_body here body)
  of_the_core here body close =
      of_placed (placed_in_body here body close) ∙ ap (map f) (placed_are_known here body close) ∙ of_known (known_in_body here body)

pub points_are_of_the_core : PointsAreOfTheCore
points_are_of_the_core here result body close = of_the_core (point_of result) (λ k. point_kept result k.here k.deed) here body close

pub uses_are_of_the_core : UsesAreOfTheCore
uses_are_of_the_core l stable here body close = of_the_core (uses_of l stable) (uses_kept l stable) here body close

-- and for the locals that never change
stable_kept : (stable : List Bool) (here : Scope) (d : Deed) → stable_by stable (seen here d) d ≡ stable_by stable here d
stable_kept stable here (declares d) = refl
stable_kept stable here (evaluates e) = refl
stable_kept stable here (assigns left o right) = refl
stable_kept stable here (tests e) = refl
stable_kept stable here (switches e) = refl
stable_kept stable here jumps = refl
stable_kept stable here idles = refl
stable_kept stable here (returns e) = refl
stable_kept stable here ends = refl

stable_seen : (stable : List Bool) (ks : List Known) → stable_behind stable (core ks) ≡ stable_behind stable ks
stable_seen stable [] = refl
stable_seen stable (k ∷ ks) =
    ap (λ s. stable_behind s (core ks)) (stable_kept stable k.here k.deed) ∙ stable_seen (stable_by stable k.here k.deed) ks

stable_there : (stable : List Bool) (w : Walk) (steps : List BodyStep) → stable_along stable w steps ≡ stable_behind stable (there (points_along w steps))
stable_there stable w [] = refl
stable_there stable w (does d span ∷ rest) =
    stable_there (stable_by stable w.here d) (pass w (does d span)) rest
    ∙ ap (λ s. stable_behind s (there (points_along (pass w (does d span)) rest))) (sym (stable_kept stable w.here d))
stable_there stable w (opens ∷ rest) = stable_there stable (pass w opens) rest
stable_there stable w (closes ∷ rest) = stable_there stable (pass w closes) rest

pub stable_is_of_the_core : StableIsOfTheCore
stable_is_of_the_core here blocks result body close =
    let stable = replicate here.locals true in
    stable_there stable (walk here blocks) (body_steps body close)
    ∙ ap (λ ps. stable_behind stable (there ps)) (body_steps_are_the_points here blocks body close).0
    ∙ ap (stable_behind stable) (placed_are_known here body close)
    ∙ stable_seen stable (known_in_body here body)
