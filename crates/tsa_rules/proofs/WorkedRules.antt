-- Rules, worked out.
use Rattle.std.proofs.Common.{refl}
use Rattle.tsa_core.proofs.BodyExamples.{worked}
use Rattle.tsa_rules.specs.RuleLaws.{AccessesNeedTheirLocks, ReturnsAreAsDeclared, NamesOfCallsDiffer, DeclarationsFindFreePaths}

pub accesses_need_their_locks : AccessesNeedTheirLocks
unfolding worked
accesses_need_their_locks = record {
  read = refl;
  read_in_a_test = refl;
  read_in_a_choice = refl;
  read_for_a_call = refl;
  write = refl;
  write_of_a_member = refl;
  write_by_an_index = refl;
  operator = refl;
  under_another_lock = refl;
  without_a_guard = refl;
  write_behind_a_taking = refl;
  write_behind_a_giving = refl;
}

pub returns_are_as_declared : ReturnsAreAsDeclared
unfolding worked
returns_are_as_declared = record {
  nothing_declared = refl;
  excluded = refl;
  required = refl;
  required_shared = refl;
  acquired_shared = refl;
  tried_with_success = refl;
  tried_without_success = refl;
  tried_at_the_end = refl;
  behind_a_call = refl;
  no_return = refl;
}

pub names_of_calls_differ : NamesOfCallsDiffer
unfolding worked
names_of_calls_differ = record {
  twice = refl;
  once_each = refl;
  beside_an_exclusion = refl;
  of_another = refl;
}

pub declarations_find_free_paths : DeclarationsFindFreePaths
unfolding worked
declarations_find_free_paths = record {
  root = refl;
  index = refl;
  of_another = refl;
  of_a_global = refl;
}
