-- The profile of a unit.
use Rattle.std.specs.Prelude.{ℕ, Bool, true, false, not, ◌&&◌, nat_lt, List, [], ◌∷◌, ◌++◌, length, map, filter, Option, is_some, is_none}
use Rattle.tsa_tree.specs.declarations.Syntax.{Declaration, Head}
use Rattle.tsa_tree.specs.statements.Syntax.{Statements}
use Rattle.tsa_tree.specs.types.Globals.{with_global}
use Rattle.tsa_tree.specs.types.Heads.{inside}
use Rattle.tsa_tree.specs.types.Runnable.{has_body}
use Rattle.tsa_tree.specs.types.Scopes.{Scope, Members, found, with_owned}
use Rattle.tsa_tree.specs.types.Symbols.{number_of}
use Rattle.tsa_tree.specs.types.Units.{outset, behind_item}
use Rattle.tsa_tree.specs.units.Syntax.{UnitItem, structure_item, alias_item, enumeration_item, global_item, function_item, body_item}
use Rattle.tsa_place_model.specs.LockPaths.{stable_in}
use Rattle.tsa_place_model.specs.Ways.{Way}
use Rattle.tsa_place_model.specs.Parts.{no_stable, member_behind}
use Rattle.tsa_core.specs.Programs.{Attr, Declared, Program, attrs_of, bodied_function, declared_by, stable_locals, program_of}
use Rattle.tsa_core_environment.specs.Points.{PlacedPoint, placed_all}
use Rattle.tsa_profile_accesses.specs.declared.premise.Failure.{Failure}
use Rattle.tsa_profile_accesses.specs.declared.premise.ProfileCode.TheVariants.{LM4, LM7}
use Rattle.tsa_profile_accesses.specs.Premises.{Premise, premise, first}
use Rattle.tsa_profile_accesses.specs.Locks.{tries}
use Rattle.tsa_profile_accesses.specs.Expressions.{View, attributes_at}
use Rattle.tsa_profile_points.specs.Declarations.{guard_premises, given_init, head_premises}
use Rattle.tsa_profile_points.specs.Bodies.{Around, points_premises, is_try_variable}
use Rattle.tsa_profile_points.specs.Ways.{function_paths}

-- A unit: its items, its core program, and the functions whose bodies are said to stand elsewhere.
pub record Unit : Type 0 where
  pub items : List UnitItem
  pub program : Program
  pub outside : List ℕ

-- A function by its head: whether it has a body, and which of its parameters never change there.
abbrev pub is_bodied : Unit → Head → Bool
is_bodied u head = has_body head.name.text u.items

abbrev pub stable_of : Unit → Head → ℕ → Bool
stable_of u head = stable_in (stable_locals (length head.params) (bodied_function head.name.text (outset u.items) u.items))

-- The attributes of functions that are declared are those of their first declarations, in order.
abbrev pub attributes_by : Unit → Declared → List Attr
attributes_by u d = attrs_of (stable_of u d.head) (inside d.here d.head d.with_body) d.head.attrs

abbrev pub attributes_behind : Unit → List (List Attr) → Scope → UnitItem → List (List Attr)
attributes_behind u known here item = known ++ map (attributes_by u) (declared_by here item)

-- what is seen outside of bodies, behind functions with some attributes
abbrev pub view_in : Unit → List (List Attr) → Scope → View
view_in u known here = record { layout = u.program.layout; attributes = known; here = here; stable = no_stable; is_run = false }

unfoldable pub member_premises : Unit → List (List Attr) → Scope → Members → List Declaration → List Premise
member_premises u known here before [] = []
member_premises u known here before (d ∷ rest) =
    guard_premises (view_in u known (with_owned before here)) d.attrs ++ member_premises u known here (member_behind here before d) rest

abbrev pub global_premises : Unit → List (List Attr) → Scope → Declaration → List Premise
global_premises u known here d = guard_premises (view_in u known here) d.attrs ++ given_init (view_in u known here) d.init

-- what the head of a function sees
abbrev pub view_of : Unit → List (List Attr) → Scope → Head → (with_body : Bool) → View
view_of u known here head with_body = record {
  layout = u.program.layout;
  attributes = known;
  here = inside here head with_body;
  stable = stable_of u head;
  is_run = false;
}

abbrev pub heads_premises : Unit → List (List Attr) → Scope → Head → (with_body : Bool) → List Premise
heads_premises u known here head with_body = head_premises u.outside here (view_of u known here head with_body) head (is_bodied u head)

-- its body, with what is known there: its own attributes are
abbrev pub own_attributes : (behind : List (List Attr)) → Scope → Head → List Attr
own_attributes behind here head = attributes_at behind (number_of here head)

abbrev pub around : Unit → (behind : List (List Attr)) → Scope → Head → Around
around u behind here head = record {
  layout = u.program.layout;
  attributes = behind;
  tries = tries (own_attributes behind here head);
  stable = stable_of u head;
}

abbrev pub points_in : Scope → Head → Statements → List PlacedPoint
points_in here head body = placed_all (inside here head true) body

-- an item, beside the attributes of the functions that are declared before it, and of those behind it
abbrev pub item_premises : Unit → (before behind : List (List Attr)) → Scope → UnitItem → List Premise
item_premises u before behind here (structure_item tag alias attrs members span) = member_premises u before here [] members
item_premises u before behind here (alias_item name ctype span) = []
item_premises u before behind here (enumeration_item tag alias values span) = []
item_premises u before behind here (global_item d) = global_premises u before (with_global here d) d
item_premises u before behind here (function_item head) = heads_premises u before here head false
item_premises u before behind here (body_item head body close) =
    heads_premises u before here head true ++ points_premises (around u behind here head) (points_in here head body)

unfoldable pub items_premises : Unit → List (List Attr) → Scope → List UnitItem → List Premise
items_premises u known here [] = []
items_premises u known here (item ∷ rest) =
    item_premises u known (attributes_behind u known here item) here item
    ++ items_premises u (attributes_behind u known here item) (behind_item here item) rest

-- A function has at most 48 locals that begin with what a try gives, and at most 256 paths. That is told at the name beside its body, and
-- at its first declaration where it has none.
abbrev pub passes_tries : Unit → (behind : List (List Attr)) → Scope → Head → Statements → Bool
passes_tries u behind here head body = nat_lt 48 (length (filter (is_try_variable (around u behind here head)) (points_in here head body)))

abbrev pub tries_limit : Unit → (behind : List (List Attr)) → Scope → UnitItem → List Premise
tries_limit u behind here (body_item head body close) = premise LM7 head.name.span (passes_tries u behind here head body) ∷ []
tries_limit u behind here item = []

unfoldable pub tries_limits : Unit → List (List Attr) → Scope → List UnitItem → List Premise
tries_limits u known here [] = []
tries_limits u known here (item ∷ rest) =
    tries_limit u (attributes_behind u known here item) here item ++ tries_limits u (attributes_behind u known here item) (behind_item here item) rest

-- the paths of a function, where there are no more: those of its own attributes, and those at the points of its body
abbrev pub paths_at : Unit → (behind : List (List Attr)) → Scope → Head → List PlacedPoint → Option (List Way)
paths_at u behind here head points = function_paths (around u behind here head) (own_attributes behind here head) points

abbrev pub is_alone : Unit → Scope → Head → Bool
is_alone u here head = not (is_bodied u head) && not (is_some (found here.names head.name.text))

abbrev pub paths_limit : Unit → (behind : List (List Attr)) → Scope → UnitItem → List Premise
paths_limit u behind here (function_item head) = premise LM4 head.name.span (is_alone u here head && is_none (paths_at u behind here head [])) ∷ []
paths_limit u behind here (body_item head body close) = premise LM4 head.name.span (is_none (paths_at u behind here head (points_in here head body))) ∷ []
paths_limit u behind here item = []

unfoldable pub paths_limits : Unit → List (List Attr) → Scope → List UnitItem → List Premise
paths_limits u known here [] = []
paths_limits u known here (item ∷ rest) =
    paths_limit u (attributes_behind u known here item) here item ++ paths_limits u (attributes_behind u known here item) (behind_item here item) rest

abbrev pub unit_of : (outside : List ℕ) → List UnitItem → Unit
unit_of outside items = record { items = items; program = program_of items; outside = outside }

abbrev pub profile_premises : Unit → List Premise
profile_premises u =
    items_premises u [] (outset u.items) u.items ++ (tries_limits u [] (outset u.items) u.items ++ paths_limits u [] (outset u.items) u.items)

-- what a typed unit is refused by, where some of its functions may have their bodies elsewhere
abbrev pub refusal_with : (outside : List ℕ) → List UnitItem → Option Failure
refusal_with outside items = first (profile_premises (unit_of outside items))

-- a typed unit is in the profile where no premise fails
abbrev pub refusal_of_profile : List UnitItem → Option Failure
refusal_of_profile items = refusal_with [] items
