-- Actions since calls, worked out.
use Rattle.std.specs.Prelude.{◌≡◌, true, false, List, [], ◌∷◌, Some, None}
use Rattle.tsa_sched.specs.declared.event.Mode.TheVariants.{Exclusive, Shared}
use Rattle.tsa_sched.specs.declared.event.EventKind.TheVariants as event
use Rattle.tsa_exec_actions.specs.Actions.{action_of, givings, takings}
use Rattle.tsa_exec_actions.specs.Chains.{IsSince}
use Rattle.tsa_exec_actions.specs.declared.action.Action.{Action}

-- One thread takes lock 5, another one lock 7, and the first gives its lock back.
abbrev pub taking : Action
taking = record { lock = 5; mode = Exclusive; took = true; before = 0 }

abbrev pub taking_of_another : Action
taking_of_another = record { lock = 7; mode = Shared; took = true; before = 0 }

abbrev pub giving : Action
giving = record { lock = 5; mode = Exclusive; took = false; before = 1 }

abbrev pub all_three : List Action
all_three = taking ∷ taking_of_another ∷ giving ∷ []

pub record ActionsAreAsWritten : Type 0 where
  -- since a call before its taking the first thread did both, since a call behind it one, and since a call at the end none
  pub both : IsSince all_three 0 3 (giving ∷ taking ∷ [])
  pub one : IsSince all_three 1 3 (giving ∷ [])
  pub nothing : IsSince all_three 3 3 []
  pub of_another : IsSince all_three 0 2 (taking_of_another ∷ [])
  -- which locks were taken and given back
  pub taken : takings (giving ∷ taking ∷ []) 5 Exclusive ≡ 1
  pub given : givings (giving ∷ taking ∷ []) 5 Exclusive ≡ 1
  pub in_other_mode : takings (giving ∷ taking ∷ []) 5 Shared ≡ 0
  pub other_lock : takings (giving ∷ taking ∷ []) 7 Shared ≡ 0
  -- which events tell actions
  pub told : action_of (event.Gave 5 Exclusive) 1 ≡ Some giving
  pub tried : action_of (event.Tried 5 Exclusive true) 0 ≡ Some taking
  pub in_vain : action_of (event.Tried 5 Exclusive false) 0 ≡ None
  pub waited : action_of (event.Waits 5 2) 0 ≡ None
