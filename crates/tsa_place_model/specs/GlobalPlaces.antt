-- The places of one global (C11 6.2.4p1, 6.7.9), with the value of each of its cells at the start.
use Rattle.std.specs.Prelude.{ℕ, ◌+◌, nat_lt, Bool, true, [], ◌∷◌, ◌++◌, length, Option, Some, None, option_and_then}
use Rattle.tsa_base.specs.declared.value.Value.{Value}
use Rattle.tsa_base.specs.declared.value.Value.TheVariants.{Pointer}
use Rattle.tsa_tree.specs.declarations.Syntax.{Initialiser, value, list}
use Rattle.tsa_tree.specs.expressions.Syntax.{Expression}
use Rattle.tsa_tree.specs.types.DeclaredTypes.{value_in}
use Rattle.tsa_tree.specs.types.Scopes.{Scope, context_of}
use Rattle.tsa_tree.specs.declared.kind.Kind.{Kind}
use Rattle.tsa_tree.specs.declared.kind.Kind.TheVariants as type
use Rattle.tsa_place_model.specs.LockPaths.{leads}
use Rattle.tsa_place_model.specs.Layouts.{Part, Structure, size_of, thing_size}
use Rattle.tsa_place_model.specs.Places.{Given, Values, has_some, places_of}
use Rattle.tsa_place_model.specs.declared.place.Holder.TheVariants.{Global}
use Rattle.tsa_place_model.specs.Calls.{Layout, evaluated, no_locals}
use Rattle.tsa_place_model.specs.Parts.{no_stable, place_limit}
use Rattle.tsa_place_model.specs.Items.{zero_of, or_zero}

-- A pointer is null or points to a place of an earlier global (C11 6.7.9p10).
abbrev pub address_in : Scope → Layout → Expression → Option ℕ
address_in here l e = option_and_then (λ w. evaluated l no_locals None w.way) (leads no_stable here true e)

abbrev pub cell_value : Scope → Layout → Kind → Expression → Value
cell_value here l (type.Pointer target to_const) e = Pointer (address_in here l e)
cell_value here l kind e = or_zero kind (value_in (context_of here) e)

abbrev pub values_in : Scope → Layout → Values
values_in here l kind None = zero_of kind
values_in here l kind (Some (list items span)) = zero_of kind
values_in here l kind (Some (value e)) = cell_value here l kind e

-- what is known of places behind a struct, and behind a global
abbrev pub with_structure : Structure → Layout → Layout
with_structure s l = record { structs = s ∷ l.structs; globals = l.globals; starts = l.starts; places = l.places }

abbrev pub given_by : Part → ℕ → Option Initialiser → Given
given_by part n init = record { holder = Global n; is_const = part.thing.is_const; is_guarded = has_some part.guards; init = init }

abbrev pub with_part : Scope → Part → Option Initialiser → Layout → Layout
with_part here part init l = record {
  structs = l.structs;
  globals = l.globals ++ part ∷ [];
  starts = l.starts ++ length l.places ∷ [];
  places = l.places ++ places_of l.structs (values_in here l) (given_by part (length l.globals) init) (length l.places) part.thing;
}

abbrev pub passes : Layout → Part → Bool
passes l part = nat_lt place_limit (length l.places + thing_size (size_of l.structs) part.thing)

abbrev pub no_places : Layout
no_places = record { structs = []; globals = []; starts = []; places = [] }
