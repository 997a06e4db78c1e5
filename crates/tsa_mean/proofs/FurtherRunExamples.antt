-- Further runs worked out.
use Rattle.std.proofs.Common.{refl}
use Rattle.tsa_mean.specs.FurtherTraces.{AnswersGoWhereCallsStand, CallsAreAnswered, LoopsGoRound, ReadersShareALock, ReturnsAreJudged}
use Rattle.tsa_mean.specs.FurtherTraces.{ReturnsLeaveWhatIsDeclared, SwitchesGoOn}
use Rattle.tsa_mean.proofs.RunExamples.{quickly, turned}

pub loops_go_round : LoopsGoRound
unfolding turned
loops_go_round = record { and_switches_choose = quickly _ _ _ _ refl }

pub switches_go_on : SwitchesGoOn
unfolding turned
switches_go_on = record { by_default = quickly _ _ _ _ refl; behind = quickly _ _ _ _ refl }

pub readers_share_a_lock : ReadersShareALock
unfolding turned
readers_share_a_lock = record { beside_writers = quickly _ _ _ _ refl }

pub calls_are_answered : CallsAreAnswered
unfolding turned
calls_are_answered = record { in_all_places = quickly _ _ _ _ refl }

pub answers_go_where_calls_stand : AnswersGoWhereCallsStand
unfolding turned
answers_go_where_calls_stand = record {
  to_a_return = quickly _ _ _ _ refl;
  to_a_local = quickly _ _ _ _ refl;
  converted = quickly _ _ _ _ refl;
  joined = quickly _ _ _ _ refl;
  of_the_end = quickly _ _ _ _ refl;
  of_arguments = quickly _ _ _ _ refl;
}

pub returns_are_judged : ReturnsAreJudged
unfolding turned
returns_are_judged = record { as_tried = quickly _ _ _ _ refl; in_vain = quickly _ _ _ _ refl; still_held = quickly _ _ _ _ refl; of_null = quickly _ _ _ _ refl; of_a_lock_function = quickly _ _ _ _ refl }

pub returns_leave_what_is_declared : ReturnsLeaveWhatIsDeclared
unfolding turned
returns_leave_what_is_declared = record {
  each_as_declared = quickly _ _ _ _ refl;
  in_another_mode = quickly _ _ _ _ refl;
  not_given = quickly _ _ _ _ refl;
  not_kept = quickly _ _ _ _ refl;
  given_and_taken = quickly _ _ _ _ refl;
  by_parameter = quickly _ _ _ _ refl;
  shared_of_null = quickly _ _ _ _ refl;
  shared_try = quickly _ _ _ _ refl;
  shared_try_alone = quickly _ _ _ _ refl;
  excluded = quickly _ _ _ _ refl;
  neither = quickly _ _ _ _ refl;
  success_for_nothing = quickly _ _ _ _ refl;
}
