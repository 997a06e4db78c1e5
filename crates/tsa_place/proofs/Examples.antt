-- The places of units, worked out.
use Rattle.std.proofs.Common.{refl}
use Rattle.tsa_tree.proofs.types.TextValues.{computed}
use Rattle.tsa_place_model.specs.LockPaths.{leads}
use Rattle.tsa_place_model.specs.Layouts.{structure_at, size_of}
use Rattle.tsa_place_model.specs.Places.{places_inside}
use Rattle.tsa_place_model.specs.Calls.{around, text_along, guards_along}
use Rattle.tsa_place_model.specs.Parts.{argument_ways, guard_ways, parts_behind, members_after}
use Rattle.tsa_place_model.specs.Items.{enumerators_behind}
use Rattle.tsa_place_model.specs.Units.{placed_behind}
use Rattle.tsa_place.specs.Examples.{PlacesAreListed}

pub places_are_listed : PlacesAreListed
unfolding computed leads structure_at size_of places_inside around text_along guards_along argument_ways guard_ways parts_behind members_after enumerators_behind placed_behind
places_are_listed = record {
  accounts_count = refl;
  element_text = refl;
  member_text = refl;
  own_lock = refl;
  first_lock = refl;
  unguarded = refl;
  guarded_aside = refl;
  pointer_texts = refl;
  pointer_set = refl;
  pointer_followed = refl;
  pointer_not_set = refl;
  pointer_consts = refl;
  no_path = refl;
  along_count = refl;
  along_text = refl;
  along_members = refl;
  out_of_range = refl;
  global_and_member = refl;
  members_in_order = refl;
  inside_guarded = refl;
  element_guard = refl;
  address_guard = refl;
  const_by_an_alias = refl;
  values = refl;
  within_the_limit = refl;
  past_the_limit = refl;
  nested_past_the_limit = refl;
  to_an_object = refl;
  to_an_element = refl;
  to_a_const = refl;
  const_to_a_const = refl;
  to_another_struct = refl;
  to_a_cell = refl;
  to_what_is_guarded = refl;
  past_the_end = refl;
  to_none = refl;
  a_number = refl;
  too_great = refl;
  an_unsigned = refl;
  of_another_type = refl;
}
