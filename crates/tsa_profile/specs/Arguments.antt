-- The value that an expression has as the initialiser of a global of a parameter's type, which is declared behind all items of a unit (C11
-- 6.7.9).
use Rattle.std.specs.Prelude.{Bool, false, ◌&&◌, List, [], ◌∷◌, map, Option, Some, None, option_and_then, is_none, slice_get, if◌then◌else◌}
use Rattle.tsa_base.specs.declared.value.Value.{Value}
use Rattle.tsa_tree.specs.declarations.Syntax.{value}
use Rattle.tsa_tree.specs.declared.kind.ThingType.{ThingType}
use Rattle.tsa_tree.specs.expressions.Syntax.{Expression}
use Rattle.tsa_tree.specs.types.Globals.{global_init}
use Rattle.tsa_tree.specs.types.Premises as types
use Rattle.tsa_tree.specs.types.Scopes.{Scope}
use Rattle.tsa_tree.specs.types.Units.{outset, behind_item}
use Rattle.tsa_tree.specs.units.Syntax.{UnitItem}
use Rattle.tsa_tree.specs.types.Lookups.{params_in}
use Rattle.tsa_place_model.specs.Calls.{Layout}
use Rattle.tsa_place_model.specs.Parts.{no_stable}
use Rattle.tsa_place_model.specs.GlobalPlaces.{values_in}
use Rattle.tsa_core.specs.Programs.{Attr, program_with}
use Rattle.tsa_profile_accesses.specs.Premises as profile
use Rattle.tsa_profile_accesses.specs.Expressions.{View}
use Rattle.tsa_profile_items.specs.Declarations.{given_init}
use Rattle.tsa_profile.specs.declared.items_end.Parameter.{Parameter}

-- What is known behind all items of a unit: there every global of the unit is an earlier one. The global's own name is none that the
-- expression names.
unfoldable pub behind_items : Scope → List UnitItem → Scope
behind_items here [] = here
behind_items here (item ∷ rest) = behind_items (behind_item here item) rest

abbrev pub behind_unit : List UnitItem → Scope
behind_unit items = behind_items (outset items) items

-- What the initialiser of a global sees: no local is known in it, and no thread works it out.
abbrev pub view_with : List (List Attr) → Layout → Scope → View
view_with attributes l here = record { layout = l; attributes = attributes; here = here; stable = no_stable; is_run = false }

-- behind all items, where the attributes of all functions are known
abbrev pub view_behind : List UnitItem → Layout → View
view_behind items l = view_with (map (λ f. f.attrs) (program_with l items).functions) l (behind_unit items)

-- No premise of types fails for the initialiser of the next global: it is a constant that goes to the global's type (C11 6.7.9p4, p11).
abbrev pub is_typed : Scope → ThingType → Expression → Bool
is_typed here thing e = is_none (types.first (global_init here here.globals thing (Some (value e))))

-- No premise of the profile fails for it: it is no address of what is guarded.
abbrev pub is_in_profile : View → Expression → Bool
is_in_profile v e = is_none (profile.first (given_init v (Some (value e))))

-- The value of the global's cell at the start: a constant that is converted to its type, or the place to which it points (C11 6.7.9p11).
abbrev pub value_seen : View → ThingType → Expression → Option Value
value_seen v thing e = if is_typed v.here thing e && is_in_profile v e then Some (values_in v.here v.layout thing.kind (Some (value e))) else None

-- the type of a parameter, by the first declaration of its function
abbrev pub parameter_type : Scope → Parameter → Option ThingType
parameter_type here p = slice_get (params_in here p.function) p.number

-- The value that an expression has for a parameter; none where a premise of types or of the profile fails for such an initialiser.
abbrev pub argument_of : List UnitItem → Layout → Parameter → Expression → Option Value
argument_of items l p e = option_and_then (λ thing. value_seen (view_behind items l) thing e) (parameter_type (behind_unit items) p)
