-- Parameters and globals behind all items of a unit.
use Rattle.std.specs.Prelude.{◌≡◌, true, List, [], ◌∷◌, ◌++◌, length, Some, None, option_and_then, slice_get}
use Rattle.tsa_base.specs.declared.value.Value.{Value}
use Rattle.tsa_tree.specs.declarations.Syntax.{Declaration, value}
use Rattle.tsa_tree.specs.declared.kind.ThingType.{ThingType}
use Rattle.tsa_tree.specs.expressions.Sound.{Words, is_sound}
use Rattle.tsa_tree.specs.expressions.Syntax.{Expression}
use Rattle.tsa_tree.specs.types.DeclaredTypes.{thing_type}
use Rattle.tsa_tree.specs.types.Units.{refusal_of_types}
use Rattle.tsa_tree.specs.units.Sound.{SpellableItems}
use Rattle.tsa_tree.specs.units.Syntax.{UnitItem, global_item}
use Rattle.tsa_place_model.specs.declared.place.Placed.{Placed}
use Rattle.tsa_place_model.specs.Calls.{Layout}
use Rattle.tsa_place_model.specs.Leading.{HasPlaces}
use Rattle.tsa_place_model.specs.Stores.{is_value_of}
use Rattle.tsa_core.specs.Programs.{program_with}
use Rattle.tsa_profile.specs.declared.items_end.Parameter.{Parameter}
use Rattle.tsa_profile_items.specs.Units.{refusal_of_profile}
use Rattle.tsa_profile.specs.Arguments.{behind_unit, parameter_type, value_seen, view_behind}

-- their types are those of the functions of the core program
abbrev pub ParametersAreThoseOfTheCore : Type 0
ParametersAreThoseOfTheCore = (items : List UnitItem) (l : Layout) (p : Parameter)
    → parameter_type (behind_unit items) p ≡ option_and_then (λ f. slice_get f.params p.number) (slice_get (program_with l items).functions p.function)

-- A global that is declared behind all items, where the unit with it is typed, holds this value at the start in the first of
-- its places.
abbrev pub DeclaredGlobalsHoldIt : Type 0
DeclaredGlobalsHoldIt = (items : List UnitItem) (d : Declaration) (e : Expression) (l m : Layout) (p : Placed) (x : Value)
    → refusal_of_types (items ++ global_item d ∷ []) ≡ None → d.init ≡ Some (value e) → HasPlaces items l → HasPlaces (items ++ global_item d ∷ []) m
    → slice_get m.places (length l.places) ≡ Some p → value_seen (view_behind items l) (thing_type (behind_unit items) d.ctype) e ≡ Some x → p.initial ≡ x

-- What an argument is worth is a value of its parameter's type, in a unit that is in the profile.
abbrev pub SeenValuesAreOfTheirTypes : Type 0
SeenValuesAreOfTheirTypes = (items : List UnitItem) (l : Layout) (words : Words) (thing : ThingType) (e : Expression) (x : Value) → SpellableItems items → refusal_of_types items ≡ None
    → refusal_of_profile items ≡ None → HasPlaces items l → is_sound words e ≡ true → value_seen (view_behind items l) thing e ≡ Some x → is_value_of l thing.kind x ≡ true
