-- The rows of the tables, worked out.
use Rattle.std.proofs.Common.{◌≡◌, ℕ, ◌+◌, ◌-◌, ◌<◌, min, nat_lt, true, refl, ap, arith}
use Rattle.std.proofs.lemmas.Bool.Decides.{nat_tests}
use Rattle.tsa_core.proofs.BodyExamples.{worked}
use Rattle.tsa_rules.specs.Statuses.{Exclusive}
use Rattle.tsa_rules.specs.Effects.{deeper, given_back}
use Rattle.tsa_rules.specs.Laws.{EntriesAndExitsAreAsDeclared, ExitsOfTriesAreByTheAnswer, CallsAreByTheirAttribute}
use Rattle.tsa_rules.specs.Laws.{CallsOfReentrantLocksCountDepths}

pub entries_and_exits_are_as_declared : EntriesAndExitsAreAsDeclared
unfolding worked
entries_and_exits_are_as_declared = record {
  requires = refl;
  requires_shared = refl;
  acquire = refl;
  acquire_shared = refl;
  release = refl;
  release_shared = refl;
  none = refl;
  excluded = refl;
  of_another = refl;
  of_both = refl;
  behind_an_exclusion = refl;
}

pub exits_of_tries_are_by_the_answer : ExitsOfTriesAreByTheAnswer
unfolding worked
exits_of_tries_are_by_the_answer = record {
  of_one = refl;
  of_zero = refl;
  shared_of_one = refl;
  shared_of_zero = refl;
  no_try = refl;
  of_another = refl;
}

pub calls_are_by_their_attribute : CallsAreByTheirAttribute
unfolding worked
calls_are_by_their_attribute = record {
  requires = refl;
  requires_shared = refl;
  excluded = refl;
  acquire = refl;
  acquire_shared = refl;
  try_into_a_variable = refl;
  try_shared_into_a_variable = refl;
  release = refl;
  release_shared = refl;
  release_generic = refl;
  without_an_attribute = refl;
}

deeper_by_one : (n : ℕ) → n < 7 → deeper (Exclusive n) ≡ Exclusive (n + 1)
deeper_by_one n h = let e : min (n + 1) 7 ≡ n + 1 = omega arith in ap Exclusive e

less_by_one : (n : ℕ) → 1 < n → given_back (Exclusive n) ≡ Exclusive (n - 1)
less_by_one n h = let e : nat_lt 1 n ≡ true = grind (arith, nat_tests) in rw e refl

pub calls_of_reentrant_locks_count_depths : CallsOfReentrantLocksCountDepths
unfolding worked
calls_of_reentrant_locks_count_depths = record {
  requires = refl;
  requires_shared = refl;
  excluded = refl;
  acquire = refl;
  acquire_shared = refl;
  release = refl;
  release_shared = refl;
  release_generic = refl;
  try_into_a_variable = refl;
  deeper_by_one = deeper_by_one;
  no_deeper_than_seven = refl;
  less_by_one = less_by_one;
  free_at_last = refl;
}
