-- Runs worked out.
use Rattle.std.proofs.Common.{◌≡◌, ℕ, List, refl, subst}
use Rattle.tsa_lex.specs.Quick.{quick_tokens_of}
use Rattle.tsa_lex.proofs.Quick.{tokens_are}
use Rattle.tsa_tree.specs.types.Texts.{unit_in}
use Rattle.tsa_place_model.specs.Calls.{around, guards_along}
use Rattle.tsa_core.proofs.BodyExamples.{worked}
use Rattle.tsa_core.specs.Programs.{program_of}
use Rattle.tsa_locks.specs.Locks.{count_of, one_less, one_more, sharer_from}
use Rattle.tsa_sched.specs.declared.event.Event.{Event}
use Rattle.tsa_sched.specs.declared.pick.Pick.{Pick}
use Rattle.tsa_mean.specs.Returns.{given_back, taken_over}
use Rattle.tsa_mean.specs.Runs.{run, step}
use Rattle.tsa_mean.specs.Starts.{Begin}
use Rattle.tsa_mean.specs.Texts.{events, events_in}
use Rattle.tsa_mean.specs.Traces.{AnswersCome, HoldersTakeTheirLockAgain, ThreadsTrap, ThreadsWait, TransfersLockTheirAccounts}
use Rattle.tsa_mean.specs.Traces.{UnlockedWritesAreViolations}
use Rattle.tsa_mean.specs.Violations.{all_below}

-- to unfold this is to unfold all that a run is worked out by
unfoldable pub turned : Unit {0}
unfolding worked around guards_along count_of one_less one_more sharer_from given_back taken_over all_below run step
turned = tt

-- tokens worked out quickly are those of the text
pub quickly : (text : List ℕ) (begins : List Begin) (picks : List Pick) (expected : List Event) → events_in (program_of (unit_in (quick_tokens_of text))) begins picks ≡ expected
    → events text begins picks ≡ expected
unfolding events
quickly text begins picks expected same = subst (λ tokens. events_in (program_of (unit_in tokens)) begins picks ≡ expected) (tokens_are text) same

pub threads_wait : ThreadsWait
unfolding turned
threads_wait = record { until_it_is_given = quickly _ _ _ _ refl; in_turn = quickly _ _ _ _ refl }

pub unlocked_writes_are_violations : UnlockedWritesAreViolations
unfolding turned
unlocked_writes_are_violations = record { each = quickly _ _ _ _ refl }

pub transfers_lock_their_accounts : TransfersLockTheirAccounts
unfolding turned
transfers_lock_their_accounts = record { to_itself = quickly _ _ _ _ refl; to_another = quickly _ _ _ _ refl }

pub threads_trap : ThreadsTrap
unfolding turned
threads_trap = record { too_great = quickly _ _ _ _ refl; no_divisor = quickly _ _ _ _ refl; null_followed = quickly _ _ _ _ refl; out_of_range = quickly _ _ _ _ refl; too_deep = quickly _ _ _ _ refl }

pub answers_come : AnswersCome
unfolding turned
answers_come = record { from_the_environment = quickly _ _ _ _ refl; from_tries = quickly _ _ _ _ refl }

pub holders_take_their_lock_again : HoldersTakeTheirLockAgain
unfolding turned
holders_take_their_lock_again = record { until_all_is_given = quickly _ _ _ _ refl }
