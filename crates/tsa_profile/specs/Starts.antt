-- The store at the start: what the cells of a unit hold before anything runs (C11 6.7.9).
use Rattle.std.specs.Prelude.{◌≡◌, ℕ, ◌^◌, nat_lt, Bool, true, false, not, ◌&&◌, ◌||◌, List, Option, Some, None, slice_get}
use Rattle.tsa_base.specs.declared.value.Value.{Value}
use Rattle.tsa_base.specs.declared.value.Value.TheVariants.{Int, Unsigned, Pointer}
use Rattle.tsa_tree.specs.declared.kind.Kind.{Kind}
use Rattle.tsa_tree.specs.declared.kind.Kind.TheVariants as type
use Rattle.tsa_tree.specs.types.Arithmetic.{is_int}
use Rattle.tsa_tree.specs.types.Units.{refusal_of_types}
use Rattle.tsa_tree.specs.units.Sound.{SpellableItems}
use Rattle.tsa_tree.specs.units.Syntax.{UnitItem}
use Rattle.tsa_place_model.specs.declared.place.Placed.{Placed}
use Rattle.tsa_place_model.specs.Calls.{Layout, is_structure}
use Rattle.tsa_place_model.specs.Stores.{is_of, IsWellTyped, start}
use Rattle.tsa_place_model.specs.Leading.{HasPlaces}
use Rattle.tsa_profile_items.specs.Units.{refusal_of_profile}

-- an object of a struct, which is const only where the type says so, guarded or not
abbrev pub is_object_of : ℕ → Bool → Option Placed → Bool
is_object_of struct to_const None = false
is_object_of struct to_const (Some p) = is_of struct p.kind && (to_const || not p.is_const)

-- a value of a kind: a number in its range, or a pointer that is null or points to such an object
abbrev pub has_kind : Layout → Kind → Value → Bool
has_kind l type.Int (Int z) = is_int z
has_kind l type.Unsigned (Unsigned n) = nat_lt n (2 ^ 32)
has_kind l (type.Pointer struct to_const) (Pointer None) = true
has_kind l (type.Pointer struct to_const) (Pointer (Some place)) = is_object_of struct to_const (slice_get l.places place)
has_kind l _ _ = false

-- in a typed unit each cell holds a value of its kind at the start
abbrev pub StartValuesHaveTheirKinds : Type 0
StartValuesHaveTheirKinds = (items : List UnitItem) (l : Layout) → SpellableItems items → refusal_of_types items ≡ None → HasPlaces items l
    → (place : ℕ) (p : Placed) → slice_get l.places place ≡ Some p → is_structure p.kind ≡ false → has_kind l p.kind (start l place) ≡ true

-- in a typed unit that is in the profile no pointer points to what is guarded, so the store at the start is well-typed
abbrev pub StartsAreWellTyped : Type 0
StartsAreWellTyped = (items : List UnitItem) (l : Layout) → SpellableItems items → refusal_of_types items ≡ None → refusal_of_profile items ≡ None → HasPlaces items l
    → IsWellTyped l (start l)
