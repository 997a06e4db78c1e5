-- Tries, worked out.
use Rattle.std.proofs.Common.{refl}
use Rattle.tsa_core.proofs.BodyExamples.{worked}
use Rattle.tsa_rules.specs.TestLaws.{TestsOfCallsTellTheAnswer, TestsOfVariablesTellTheAnswer, OtherTestsDecideNothing}
use Rattle.tsa_rules.specs.TestLaws.{TryVariablesAreNumbered, UntriedLocksAreFree}

pub tests_of_calls_tell_the_answer : TestsOfCallsTellTheAnswer
unfolding worked
tests_of_calls_tell_the_answer = record {
  alone = refl;
  denied = refl;
  is_one = refl;
  is_zero = refl;
  is_not_one = refl;
  is_not_zero = refl;
  one_is = refl;
  zero_is = refl;
  one_is_not = refl;
  zero_is_not = refl;
  of_zero = refl;
  of_zero_denied = refl;
  shared = refl;
  is_null = refl;
  null_is_not = refl;
  succeeds = refl;
  fails = refl;
  shared_succeeds = refl;
  shared_fails = refl;
  of_a_reentrant_lock = refl;
}

pub tests_of_variables_tell_the_answer : TestsOfVariablesTellTheAnswer
unfolding worked
tests_of_variables_tell_the_answer = record {
  alone = refl;
  denied = refl;
  is_one = refl;
  is_zero = refl;
  is_not_one = refl;
  is_not_zero = refl;
  one_is = refl;
  zero_is = refl;
  one_is_not = refl;
  zero_is_not = refl;
  by_an_unsigned_constant = refl;
  by_a_worked_constant = refl;
  by_an_enumerator = refl;
  by_one_that_stops_early = refl;
  of_zero = refl;
  of_zero_denied = refl;
  shared = refl;
}

pub other_tests_decide_nothing : OtherTestsDecideNothing
unfolding worked
other_tests_decide_nothing = record {
  by_another_constant = refl;
  by_a_variable = refl;
  by_one_in_a_part = refl;
  by_a_trap = refl;
  by_null = refl;
  by_an_order = refl;
  denied_twice = refl;
  others_stay = refl;
}

pub try_variables_are_numbered : TryVariablesAreNumbered
unfolding worked
try_variables_are_numbered = record {
  listed = refl;
  second = refl;
  second_tested = refl;
  first_not_tested = refl;
  none = refl;
}

pub untried_locks_are_free : UntriedLocksAreFree
unfolding worked
untried_locks_are_free = refl
