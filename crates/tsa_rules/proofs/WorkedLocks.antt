-- Locks and attributes, worked out.
use Rattle.std.proofs.Common.{refl}
use Rattle.tsa_core.proofs.BodyExamples.{worked}
use Rattle.tsa_rules.specs.LockLaws.{PathsLeadToTheirLocks, AttributesNameWhatArgumentsAre}

pub paths_lead_to_their_locks : PathsLeadToTheirLocks
unfolding worked
paths_lead_to_their_locks = record {
  member = refl;
  reentrant_member = refl;
  behind_a_member = refl;
  element_of_a_member = refl;
  along_pointers = refl;
  behind_a_global = refl;
  another_word = refl;
  of_a_parameter = refl;
  behind_a_parameter = refl;
  of_a_local = refl;
  behind_a_local = refl;
  no_lock = refl;
}

pub attributes_name_what_arguments_are : AttributesNameWhatArgumentsAre
unfolding worked
attributes_name_what_arguments_are = record {
  first = refl;
  second = refl;
  turned_round = refl;
  both = refl;
  behind_an_exclusion = refl;
  none = refl;
  no_call = refl;
  by_name = refl;
}
