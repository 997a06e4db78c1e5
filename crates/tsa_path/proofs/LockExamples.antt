-- Lock expressions, worked out.
use Rattle.std.proofs.Common.{refl}
use Rattle.tsa_core.proofs.BodyExamples.{worked}
use Rattle.tsa_path.specs.WrittenLocks.{LocksAreAsWritten}

pub locks_are_as_written : LocksAreAsWritten
unfolding worked
locks_are_as_written = record {
  globals = refl;
  parameters = refl;
  pointers = refl;
  pointer_that_may_change = refl;
  members = refl;
  members_behind_members = refl;
  members_behind_what_may_change = refl;
  elements = refl;
  elements_by_a_parameter = refl;
  elements_by_a_constant = refl;
  elements_out_of_range = refl;
  elements_by_what_is_no_index = refl;
  a_call = refl;
  never_assigned = refl;
  assigned_index = refl;
  assigned_pointer = refl;
  same_lock = refl;
  two_elements = refl;
  two_members = refl;
  two_roots = refl;
}
