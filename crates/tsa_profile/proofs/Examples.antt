-- The examples, worked out.
use Rattle.std.proofs.Common.{refl}
use Rattle.tsa_core.proofs.BodyExamples.{worked}
use Rattle.tsa_core_points.specs.Points.{placed_in, placed_all}
use Rattle.tsa_profile_accesses.specs.Premises.{first}
use Rattle.tsa_profile_accesses.specs.Expressions.{parts, arguments}
use Rattle.tsa_profile_items.specs.Declarations.{ways_behind, attribute_arguments, guard_premises, attribute_premises}
use Rattle.tsa_profile_items.specs.Declarations.{param_premises, init_premises, item_premises}
use Rattle.tsa_profile_items.specs.ProfilePointsBodies.{points_premises}
use Rattle.tsa_profile_items.specs.Ways.{points_ways}
use Rattle.tsa_profile_items.specs.Units.{member_premises, items_premises, tries_limits, paths_limits}
use Rattle.tsa_profile.specs.Examples.{ProfilesAreAsWritten}

-- to unfold this is to unfold all of it
unfoldable pub all : Unit {0}
unfolding worked placed_in placed_all first parts arguments ways_behind attribute_arguments guard_premises attribute_premises param_premises init_premises item_premises points_premises points_ways member_premises items_premises tries_limits paths_limits
all = tt

pub profiles_are_as_written : ProfilesAreAsWritten
unfolding all
profiles_are_as_written = record {
  calls = refl;
  call_given = refl;
  call_inside = refl;
  call_of_a_call = refl;
  call_switched = refl;
  call_under_two = refl;
  call_beside_a_variable = refl;
  call_as_an_index = refl;
  tries = refl;
  try_alone = refl;
  try_assigned = refl;
  try_kept_in_what_changes = refl;
  try_kept_in_another = refl;
  try_compared = refl;
  try_compared_elsewhere = refl;
  access_by_what_changes = refl;
  access_by_a_read_index = refl;
  access_without_a_guard = refl;
  call_by_what_changes = refl;
  call_by_a_path = refl;
  guard_by_what_changes = refl;
  member_by_what_changes = refl;
  requires_what_changes = refl;
  requires_of_a_prototype = refl;
  order_of_locks = refl;
  order_of_a_call = refl;
  order_of_what_is_guarded = refl;
  address_inside_a_guard = refl;
  address_behind_a_guard = refl;
  address_in_an_attribute = refl;
  address_in_an_initialiser = refl;
  local_struct = refl;
  local_array = refl;
  param_struct = refl;
  without_a_body = refl;
  of_two_locks = refl;
  whose_body_comes = refl;
  generic_with_a_body = refl;
  try_with_a_body = refl;
  try_of_no_int = refl;
  try_of_two_values = refl;
  try_of_another_value = refl;
  named_twice = refl;
  two_elements = refl;
}
