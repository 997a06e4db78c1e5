-- Stores: what each cell holds, and which values are of its type (C11 6.2.6.1p4, 6.3.2.3p3).
use Rattle.std.specs.Prelude.{◌≡◌, ℕ, ◌^◌, nat_eq, nat_lt, Bool, true, false, not, ◌&&◌, ◌||◌, Option, Some, None, unwrap_or, slice_get}
use Rattle.tsa_base.specs.declared.value.Value.{Value}
use Rattle.tsa_base.specs.declared.value.Value.TheVariants.{Int, Unsigned, Pointer}
use Rattle.tsa_tree.specs.declared.kind.Kind.{Kind}
use Rattle.tsa_tree.specs.declared.kind.Kind.TheVariants as type
use Rattle.tsa_tree.specs.types.Arithmetic.{is_int}
use Rattle.tsa_place_model.specs.declared.place.Placed.{Placed}
use Rattle.tsa_place_model.specs.Calls.{Layout, is_addressable, is_structure, initial_at}

-- the value in the cell at each place
abbrev pub Store : Type 0
Store = ℕ → Value

-- an object of a struct
abbrev pub is_of : ℕ → Kind → Bool
is_of struct (type.Structure n) = nat_eq n struct
is_of struct _ = false

-- a pointer points to an addressable object of its struct, and to one that is const only where its type says so
abbrev pub may_point : ℕ → Bool → Option Placed → Bool
may_point struct to_const None = false
may_point struct to_const (Some p) = is_addressable p && (is_of struct p.kind && (to_const || not p.is_const))

-- a value of a type: a number in its range, or a pointer that is null or may point where it points
abbrev pub is_value_of : Layout → Kind → Value → Bool
is_value_of l type.Int (Int z) = is_int z
is_value_of l type.Unsigned (Unsigned n) = nat_lt n (2 ^ 32)
is_value_of l (type.Pointer struct to_const) (Pointer None) = true
is_value_of l (type.Pointer struct to_const) (Pointer (Some place)) = may_point struct to_const (slice_get l.places place)
is_value_of l _ _ = false

-- each cell holds a value of its own type
abbrev pub IsWellTyped : Layout → Store → Type 0
IsWellTyped l store = (place : ℕ) (p : Placed) → slice_get l.places place ≡ Some p → is_structure p.kind ≡ false → is_value_of l p.kind (store place) ≡ true

-- the store at the start
abbrev pub start : Layout → Store
start l place = unwrap_or (initial_at l place) (Pointer None)
