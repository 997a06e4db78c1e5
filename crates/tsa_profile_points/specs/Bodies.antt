-- What the profile asks of the points of a body.
use Rattle.std.specs.Prelude.{ℕ, Bool, true, false, not, ◌&&◌, List, [], ◌∷◌, ◌++◌, Option, Some, None, is_some}
use Rattle.tsa_base.specs.declared.token.Span.{Span}
use Rattle.tsa_tree.specs.declarations.Syntax.{Initialiser, value, list}
use Rattle.tsa_tree.specs.declared.kind.ThingType.{ThingType}
use Rattle.tsa_tree.specs.declared.number.Number.{Number}
use Rattle.tsa_tree.specs.expressions.Syntax.{Expression}
use Rattle.tsa_tree.specs.points.Syntax.{Deed, declares, evaluates, assigns, tests, switches, jumps, idles, returns, ends}
use Rattle.tsa_tree.specs.types.DeclaredTypes.{thing_type}
use Rattle.tsa_tree.specs.types.Runnable.{is_small}
use Rattle.tsa_tree.specs.types.Scopes.{Scope}
use Rattle.tsa_place_model.specs.Calls.{Layout}
use Rattle.tsa_core.specs.Programs.{Attr}
use Rattle.tsa_core_points.specs.Points.{PlacedPoint}
use Rattle.tsa_profile_accesses.specs.declared.premise.ProfileCode.TheVariants.{PF4, PF7}
use Rattle.tsa_profile_accesses.specs.Premises.{Premise, premise}
use Rattle.tsa_profile_accesses.specs.declared.standing.Standing.{Standing}
use Rattle.tsa_profile_accesses.specs.declared.standing.Standing.TheVariants.{Whole, Begins, Test, Inside}
use Rattle.tsa_profile_accesses.specs.Expressions.{View, constant, is_truth, is_try_call, expression}
use Rattle.tsa_profile_declarations.specs.Declarations.{init_premises, is_int}

-- the layout of the unit, the attributes of the functions that are declared up to there, whether the function of the body tries, and which
-- locals never change
pub record Around : Type 0 where
  pub layout : Layout
  pub attributes : List (List Attr)
  pub tries : Bool
  pub stable : ℕ → Bool

abbrev pub view_at : Around → Scope → View
view_at a here = record { layout = a.layout; attributes = a.attributes; here = here; stable = a.stable; is_run = true }

-- a local `int` that never changes may begin with what a try gives
abbrev pub begins_a_try : Around → Scope → ThingType → Bool
begins_a_try a here t = is_int t.kind && (not (is_some t.length) && a.stable here.locals)

abbrev pub standing_of : Bool → Standing
standing_of true = Begins
standing_of false = Whole

abbrev pub local_init : Around → Scope → ThingType → Option Initialiser → List Premise
local_init a here t None = []
local_init a here t (Some (value e)) = expression (view_at a here) (standing_of (begins_a_try a here t)) e
local_init a here t (Some (list items span)) = init_premises (view_at a here) (list items span)

-- what a function gives back that tries is 0 or 1
abbrev pub is_no_truth : Option Number → Bool
is_no_truth None = true
is_no_truth (Some n) = not (is_truth n)

abbrev pub value_misfits : Around → Scope → Expression → Bool
value_misfits a here e = a.tries && is_no_truth (constant (view_at a here) e)

abbrev pub deed_premises : Around → Scope → Span → Deed → List Premise
deed_premises a here span (declares d) =
    premise PF4 d.span (not (is_small (thing_type here d.ctype))) ∷ local_init a here (thing_type here d.ctype) d.init
deed_premises a here span (evaluates e) = expression (view_at a here) Whole e
deed_premises a here span (assigns left o right) = expression (view_at a here) Inside left ++ expression (view_at a here) Whole right
deed_premises a here span (tests None) = []
deed_premises a here span (tests (Some e)) = expression (view_at a here) Test e
deed_premises a here span (switches e) = expression (view_at a here) Inside e
deed_premises a here span jumps = []
deed_premises a here span idles = []
deed_premises a here span (returns None) = []
deed_premises a here span (returns (Some e)) = premise PF7 span (value_misfits a here e) ∷ expression (view_at a here) Whole e
deed_premises a here span ends = []

abbrev pub point_premises : Around → PlacedPoint → List Premise
point_premises a p = deed_premises a p.here p.span p.deed

unfoldable pub points_premises : Around → List PlacedPoint → List Premise
points_premises a [] = []
points_premises a (p ∷ rest) = point_premises a p ++ points_premises a rest

-- a local that begins with what a try gives
abbrev pub is_begun_by_a_try : Around → Scope → Deed → Bool
is_begun_by_a_try a here (declares d) = by d.init
  where
    by : Option Initialiser → Bool
    by (Some (value e)) = is_try_call (view_at a here) e
    by init = false
is_begun_by_a_try a here deed = false

abbrev pub is_try_variable : Around → PlacedPoint → Bool
is_try_variable a p = is_begun_by_a_try a p.here p.deed
