-- The points of a typed body in the profile are those of statements that the machine runs.
use Rattle.std.proofs.Common.{◌≡◌, ◌∙◌, Bool, true, false, not, ◌&&◌, List, [], ◌∷◌, ◌++◌, Option, Some, None, is_some, refl, sym, ap}
use Rattle.tsa_base.specs.declared.token.Span.{Span}
use Rattle.tsa_base.proofs.Truths.{never}
use Rattle.tsa_tree.specs.declarations.Syntax.{Declaration, Initialiser, value, list}
use Rattle.tsa_tree.specs.declared.kind.ThingType.{ThingType}
use Rattle.tsa_tree.specs.declared.premise.TypeCode.TheVariants.{TY2, TY3, TY7, TY9}
use Rattle.tsa_tree.specs.expressions.Syntax.{Expression}
use Rattle.tsa_tree.specs.points.Syntax.{declares, switches, returns, expression_span}
use Rattle.tsa_tree.specs.statements.Syntax.{Simple, evaluation, assignment, ForInit, no_init, simple_init, local_init, Statement, block}
use Rattle.tsa_tree.specs.statements.Syntax.{empty, local, simple, if_alone, if_else, while_loop, do_loop, for_loop, switch, case}
use Rattle.tsa_tree.specs.statements.Syntax.{otherwise, label, break, continue, goto, return, Statements, none, more}
use Rattle.tsa_tree.specs.types.Constants.{constant_of}
use Rattle.tsa_tree.specs.types.DeclaredTypes.{thing_type, value_in, constant_premises}
use Rattle.tsa_tree.specs.types.Expressions.{type_of, premises_of, known_and}
use Rattle.tsa_tree.specs.types.Known.{Context}
use Rattle.tsa_tree.specs.types.Locals.{init_breaks, local_premises}
use Rattle.tsa_tree.specs.types.Operands.{is_scalar, is_integer, lacks}
use Rattle.tsa_tree.specs.types.Premises as types
use Rattle.tsa_tree.specs.types.Runnable.{has_call, is_free, is_whole, is_condition, is_condition_given, is_whole_given, is_whole_init}
use Rattle.tsa_tree.specs.types.Runnable.{is_small, local_runs, simple_runs, init_runs, step_runs, statement_runs, statements_run}
use Rattle.tsa_tree.specs.types.Scopes.{Scope, context_of, further}
use Rattle.tsa_tree.specs.types.Simple.{tested_premises}
use Rattle.tsa_tree.specs.types.Statements as stated
use Rattle.tsa_tree.specs.types.Statements.{statement_premises, statements_premises, case_premises, default_premises, label_premises}
use Rattle.tsa_tree.specs.types.Statements.{for_premises, for_test, unless_again, is_again, simple_premises, step_premises, test_premises}
use Rattle.tsa_tree.specs.types.Statements.{init_premises, in_a_loop, in_a_switch, is_case_again, behind, behind_init}
use Rattle.tsa_tree.specs.types.Targets.{declared_in}
use Rattle.tsa_core.proofs.DeedsTold.{init_told}
use Rattle.tsa_core.proofs.KindTests.{not_false, and_true}
use Rattle.tsa_core.proofs.NoFailure as typing
use Rattle.tsa_core.proofs.ValuesServe.{constant_free}
use Rattle.tsa_core_points.specs.Points.{PlacedPoint, placed, placed_simple, placed_init, placed_step, placed_test, placed_for, placed_in}
use Rattle.tsa_core_points.specs.Points.{placed_all}
use Rattle.tsa_profile_accesses.specs.declared.premise.ProfileCode.TheVariants.{PF4, PF7}
use Rattle.tsa_profile_accesses.specs.Premises.{first}
use Rattle.tsa_profile_accesses.specs.declared.standing.Standing.TheVariants.{Whole, Inside}
use Rattle.tsa_profile_accesses.specs.Expressions.{expression}
use Rattle.tsa_profile_items.specs.ProfilePointsBodies.{Around, view_at, begins_a_try, standing_of, value_misfits, point_premises, points_premises}
use Rattle.tsa_profile_items.specs.ProfilePointsBodies as profile
use Rattle.tsa_profile_guards.proofs.NoneFails.{none_of_both, none_of_two, none_of_first}
use Rattle.tsa_profile.proofs.CallsStand.{inside_free, whole_stands, begun_stands, test_stands}

-- the points of two parts, and the first of some points
pub points_of_both : (a : Around) (ps qs : List PlacedPoint) → first (points_premises a (ps ++ qs)) ≡ None
    → (first (points_premises a ps) ≡ None) × (first (points_premises a qs) ≡ None)
unfolding points_premises first
points_of_both a [] qs h = (refl, h)
points_of_both a (p ∷ ps) qs h =
    let one = none_of_both (point_premises a p) (points_premises a (ps ++ qs)) h in
    let two = points_of_both a ps qs one.1 in
    (none_of_two (point_premises a p) (points_premises a ps) one.0 two.0, two.1)

pub point_before : (a : Around) (p : PlacedPoint) (ps : List PlacedPoint) → first (points_premises a (p ∷ ps)) ≡ None
    → (first (point_premises a p) ≡ None) × (first (points_premises a ps) ≡ None)
unfolding points_premises
point_before a p ps h = none_of_both (point_premises a p) (points_premises a ps) h

pub point_alone : (a : Around) (p : PlacedPoint) → first (points_premises a (p ∷ [])) ≡ None → first (point_premises a p) ≡ None
point_alone a p h = (point_before a p [] h).0

-- a local: typing lets it begin with no list
by_standing : (a : Around) (here : Scope) (b : Bool) (e : Expression) → first (expression (view_at a here) (standing_of b) e) ≡ None → is_whole e ≡ true
by_standing a here true e h = begun_stands (view_at a here) e h
by_standing a here false e h = whole_stands (view_at a here) e h

init_whole : (a : Around) (here : Scope) (t : ThingType) (i : Option Initialiser) → init_breaks here t i ≡ false → first (profile.local_init a here t i) ≡ None → is_whole_init i ≡ true
init_whole a here t None typed h = refl
init_whole a here t (Some (value e)) typed h = by_standing a here (begins_a_try a here t) e h
init_whole a here t (Some (list items span)) typed h = never typed

local_stands : (a : Around) (here : Scope) (d : Declaration) → types.first (local_premises here d) ≡ None
    → first (point_premises a (placed here (declares d) d.span)) ≡ None → local_runs here d ≡ true
local_stands a here d typed h =
    let t = thing_type here d.ctype in
    let x = none_of_first PF4 d.span (not (is_small t)) (profile.local_init a here t d.init) h in
    and_true (is_small t) (is_whole_init d.init) (not_false (is_small t) x.0) (init_whole a here t d.init (init_told here d typed).0 x.1)

simple_stands : (a : Around) (here : Scope) (s : Simple) → first (point_premises a (placed_simple here s)) ≡ None → simple_runs s ≡ true
simple_stands a here (evaluation e span) h = whole_stands (view_at a here) e h
simple_stands a here (assignment left o right span) h =
    let x = none_of_both (expression (view_at a here) Inside left) (expression (view_at a here) Whole right) h in
    and_true (is_free left) (is_whole right) (inside_free (view_at a here) left x.0) (whole_stands (view_at a here) right x.1)

-- the parts of a `for`
init_stands : (a : Around) (here : Scope) (init : ForInit) → types.first (init_premises here init) ≡ None → first (points_premises a (placed_init here init)) ≡ None
    → init_runs here init ≡ true
init_stands a here no_init typed h = refl
init_stands a here (simple_init s) typed h = simple_stands a here s (point_alone a (placed_simple here s) h)
init_stands a here (local_init d) typed h = local_stands a here d typed (point_alone a (placed here (declares d) d.span) h)

step_stands : (a : Around) (here : Scope) (step : Option Simple) → first (points_premises a (placed_step here step)) ≡ None → step_runs step ≡ true
step_stands a here None h = refl
step_stands a here (Some s) h = simple_stands a here s (point_alone a (placed_simple here s) h)

given_stands : (a : Around) (here : Scope) (span : Span) (e : Option Expression) → first (point_premises a (placed_for here span e)) ≡ None
    → is_condition_given (context_of here) e ≡ true
given_stands a here span None h = refl
given_stands a here span (Some e) h = test_stands (view_at a here) e h

for_stands : (a : Around) (here : Scope) (init : ForInit) (test : Option Expression) (step : Option Simple) (span : Span) (rest : List PlacedPoint)
    → types.first (init_premises here init) ≡ None
    → first (points_premises a (placed_init here init ++ placed_for (behind_init here init) span test ∷ (placed_step (behind_init here init) step ++ rest))) ≡ None
    → (init_runs here init ≡ true) × ((is_condition_given (context_of (behind_init here init)) test ≡ true) × ((step_runs step ≡ true) × (first (points_premises a rest) ≡ None)))
for_stands a here init test step span rest typed h =
    let there = behind_init here init in
    let x = points_of_both a (placed_init here init) (placed_for there span test ∷ (placed_step there step ++ rest)) h in
    let y = point_before a (placed_for there span test) (placed_step there step ++ rest) x.1 in
    let z = points_of_both a (placed_step there step) rest y.1 in
    (init_stands a here init typed x.0, (given_stands a there span test y.0, (step_stands a there step z.0, z.1)))

-- typing asks the first part of a `for` what it asks a statement
for_told : (here : Scope) (init : ForInit) (test : Option Expression) (step : Option Simple) (span : Span) → types.first (for_premises here init test step span) ≡ None
    → types.first (init_premises here init) ≡ None
unfolding for_premises
for_told here init test step span h =
    let rest = test_premises (behind_init here init) test ++ step_premises (behind_init here init) step in
    let x = typing.none_of_both (unless_again (is_again here init) (for_test (behind_init here init) span test)) (init_premises here init ++ rest) h in
    (typing.none_of_both (init_premises here init) rest x.1).0

-- the value of a case is a constant, which has no call
typed_constant : (c : Context) (key : Expression) → types.first (constant_premises c is_some key) ≡ None → is_some (constant_of c key) ≡ true
typed_constant c key h =
    let fails = known_and (λ t. not (is_some (constant_of c key))) (type_of c key) in
    let x = typing.none_of_both (premises_of c key) (types.premise TY9 (expression_span key) fails ∷ []) h in
    let t = typing.keeps_typed c key x.0 in
    let y = typing.none_of_first TY9 (expression_span key) fails [] x.1 in
    not_false (is_some (constant_of c key)) (sym (ap (known_and (λ t. not (is_some (constant_of c key)))) t.1) ∙ y.0)

free_of : (b : Bool) → b ≡ false → not b ≡ true
free_of false e = refl
free_of true e = never e

case_told : (a : stated.Around) (c : Context) (key : Expression) (span : Span) → types.first (case_premises a c key span) ≡ None → is_free key ≡ true
unfolding case_premises
case_told a c key span h =
    let again = a.in_switch && is_case_again a.cases span.from (value_in c key) in
    let stray = types.premise TY7 span (not a.in_switch) in
    let x = typing.none_of_first TY2 span again (stray ∷ constant_premises c is_some key) h in
    let y = typing.none_of_first TY7 span (not a.in_switch) (constant_premises c is_some key) x.1 in
    free_of (has_call key) (constant_free c key (typed_constant c key y.1))

returned_stands : (a : Around) (here : Scope) (span : Span) (given : Option Expression) → first (profile.deed_premises a here span (returns given)) ≡ None → is_whole_given given ≡ true
returned_stands a here span None h = refl
returned_stands a here span (Some e) h =
    whole_stands (view_at a here) e (none_of_first PF7 span (value_misfits a here e) (expression (view_at a here) Whole e) h).1

-- Statements, in order of the text.
mutual
  unfolding placed_in placed_all statement_premises statements_premises statement_runs statements_run

  pub statement_stands : (a : Around) (t : stated.Around) (here : Scope) (s : Statement) → types.first (statement_premises t here s) ≡ None
      → first (points_premises a (placed_in here s)) ≡ None → statement_runs here s ≡ true
  statement_stands a t here (block items span) typed h = statements_stand a t here items typed h
  statement_stands a t here (empty span) typed h = refl
  statement_stands a t here (local d) typed h = local_stands a here d typed (point_alone a (placed here (declares d) d.span) h)
  statement_stands a t here (simple s) typed h = simple_stands a here s (point_alone a (placed_simple here s) h)
  statement_stands a t here (if_alone test arm span) typed h =
      let x = typing.none_of_both (tested_premises (context_of here) is_scalar span test) (statement_premises t here arm) typed in
      let y = point_before a (placed_test here test) (placed_in here arm) h in
      and_true (is_condition (context_of here) test) (statement_runs here arm) (test_stands (view_at a here) test y.0) (statement_stands a t here arm x.1 y.1)
  statement_stands a t here (if_else test arm other span) typed h =
      let there = further (declared_in arm) here in
      let x = typing.none_of_both (tested_premises (context_of here) is_scalar span test) (statement_premises t here arm ++ statement_premises t there other) typed in
      let u = typing.none_of_both (statement_premises t here arm) (statement_premises t there other) x.1 in
      let y = point_before a (placed_test here test) (placed_in here arm ++ placed_in there other) h in
      let z = points_of_both a (placed_in here arm) (placed_in there other) y.1 in
      and_true (is_condition (context_of here) test) (statement_runs here arm && statement_runs there other) (test_stands (view_at a here) test y.0)
      (and_true (statement_runs here arm) (statement_runs there other) (statement_stands a t here arm u.0 z.0) (statement_stands a t there other u.1 z.1))
  statement_stands a t here (while_loop test body span) typed h =
      let x = typing.none_of_both (tested_premises (context_of here) is_scalar span test) (statement_premises (in_a_loop t) here body) typed in
      let y = point_before a (placed_test here test) (placed_in here body) h in
      and_true (is_condition (context_of here) test) (statement_runs here body) (test_stands (view_at a here) test y.0) (statement_stands a (in_a_loop t) here body x.1 y.1)
  statement_stands a t here (do_loop body test span) typed h =
      let there = further (declared_in body) here in
      let x = typing.none_of_first TY3 span (lacks is_scalar (type_of (context_of here) test)) (statement_premises (in_a_loop t) here body ++ premises_of (context_of here) test) typed in
      let u = typing.none_of_both (statement_premises (in_a_loop t) here body) (premises_of (context_of here) test) x.1 in
      let y = points_of_both a (placed_in here body) (placed_test there test ∷ []) h in
      and_true (statement_runs here body) (is_condition (context_of here) test) (statement_stands a (in_a_loop t) here body u.0 y.0)
      (test_stands (view_at a there) test (point_alone a (placed_test there test) y.1))
  statement_stands a t here (for_loop init test step body span) typed h =
      let there = behind_init here init in
      let x = typing.none_of_both (for_premises here init test step span) (statement_premises (in_a_loop t) there body) typed in
      let y = for_stands a here init test step span (placed_in there body) (for_told here init test step span x.0) h in
      and_true (init_runs here init) (is_condition_given (context_of there) test && (step_runs step && statement_runs there body)) y.0
      (and_true (is_condition_given (context_of there) test) (step_runs step && statement_runs there body) y.1.0
      (and_true (step_runs step) (statement_runs there body) y.1.1.0 (statement_stands a (in_a_loop t) there body x.1 y.1.1.1)))
  statement_stands a t here (switch key body span) typed h =
      let x = typing.none_of_both (tested_premises (context_of here) is_integer span key) (statement_premises (in_a_switch here body t) here body) typed in
      let y = point_before a (placed here (switches key) (expression_span key)) (placed_in here body) h in
      and_true (is_free key) (statement_runs here body) (inside_free (view_at a here) key y.0) (statement_stands a (in_a_switch here body t) here body x.1 y.1)
  statement_stands a t here (case key body span) typed h =
      let x = typing.none_of_both (case_premises t (context_of here) key span) (statement_premises t here body) typed in
      and_true (is_free key) (statement_runs here body) (case_told t (context_of here) key span x.0) (statement_stands a t here body x.1 h)
  statement_stands a t here (otherwise body span) typed h =
      statement_stands a t here body (typing.none_of_both (default_premises t span) (statement_premises t here body) typed).1 h
  statement_stands a t here (label name body span) typed h =
      statement_stands a t here body (typing.none_of_both (label_premises t name span) (statement_premises t here body) typed).1 h
  statement_stands a t here (break span) typed h = refl
  statement_stands a t here (continue span) typed h = refl
  statement_stands a t here (goto name span) typed h = refl
  statement_stands a t here (return given span) typed h = returned_stands a here span given (point_alone a (placed here (returns given) span) h)

  pub statements_stand : (a : Around) (t : stated.Around) (here : Scope) (items : Statements) → types.first (statements_premises t here items) ≡ None
      → first (points_premises a (placed_all here items)) ≡ None → statements_run here items ≡ true
  statements_stand a t here none typed h = refl
  statements_stand a t here (more s rest) typed h =
      let x = typing.none_of_both (statement_premises t here s) (statements_premises t (behind here s) rest) typed in
      let y = points_of_both a (placed_in here s) (placed_all (behind here s) rest) h in
      and_true (statement_runs here s) (statements_run (behind here s) rest) (statement_stands a t here s x.0 y.0) (statements_stand a t (behind here s) rest x.1 y.1)
