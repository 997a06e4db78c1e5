-- Actions of a thread since a call, the latest first, beside the thread's holds at the call and now.
use Rattle.std.specs.Prelude.{◌≡◌, ℕ, ◌+◌, ◌<◌, nat_eq, not, ◌&&◌, Bool, true, false, Option, Some, None, List, [], ◌∷◌, length}
use Rattle.std.specs.Prelude.{if◌then◌else◌}
use Rattle.std.specs.List.{list_all}
use Rattle.tsa_base.specs.declared.value.Value.{Value}
use Rattle.tsa_core.specs.Programs.{Program}
use Rattle.tsa_sched.specs.declared.event.Mode.{Mode}
use Rattle.tsa_sched.specs.declared.event.Mode.TheVariants.{Exclusive, Shared}
use Rattle.tsa_sched.specs.declared.event.EventKind.{EventKind}
use Rattle.tsa_sched.specs.declared.event.EventKind.TheVariants as event
use Rattle.tsa_sched.specs.declared.pick.Pick.{Pick}
use Rattle.tsa_mean.specs.Acts.{to_leave}
use Rattle.tsa_mean.specs.Returns.{attrs_of, given_back, if_lock, once, taken_over}
use Rattle.tsa_mean.specs.Runs.{step}
use Rattle.tsa_mean.specs.StateLaws.{StateIsKept}
use Rattle.tsa_mean.specs.States.{Frame, Holds, State, holds_of}
use Rattle.tsa_mean.specs.Violations.{all_below, names_lock, violates}
use Rattle.tsa_exec_actions.specs.declared.action.Action.{Action}

-- how many holds of a lock in a mode an action takes, and how many it gives back
abbrev pub takings_of : Action → (lock : ℕ) → Mode → ℕ
takings_of a lock mode = if a.took then if_lock lock (Some a.lock) (once a.mode mode) else 0

abbrev pub givings_of : Action → (lock : ℕ) → Mode → ℕ
givings_of a lock mode = if a.took then 0 else if_lock lock (Some a.lock) (once a.mode mode)

-- and all actions of a list together
unfoldable pub takings : List Action → (lock : ℕ) → Mode → ℕ
takings [] lock mode = 0
takings (a ∷ rest) lock mode = takings_of a lock mode + takings rest lock mode

unfoldable pub givings : List Action → (lock : ℕ) → Mode → ℕ
givings [] lock mode = 0
givings (a ∷ rest) lock mode = givings_of a lock mode + givings rest lock mode

-- the holds now of each lock are those at the call with what was taken since and without what was given back
abbrev pub HoldsSince : (locks : ℕ) → (now at_call : Holds) → List Action → Type 0
HoldsSince locks now at_call actions =
    (lock : ℕ) → lock < locks → (mode : Mode) → now lock mode + givings actions lock mode ≡ at_call lock mode + takings actions lock mode

-- the action that an event tells, behind the thread's last one
abbrev pub action_of : EventKind → (last : ℕ) → Option Action
action_of (event.Took l m) last = Some (record { lock = l; mode = m; took = true; before = last })
action_of (event.Tried l m true) last = Some (record { lock = l; mode = m; took = true; before = last })
action_of (event.Gave l m) last = Some (record { lock = l; mode = m; took = false; before = last })
action_of kind last = None

abbrev pub with_action : Option Action → List Action → List Action
with_action None actions = actions
with_action (Some a) actions = a ∷ actions

-- Where this is so of some call, a turn of the thread keeps it so with the action that it tells, and the turns of all others leave it.
pub record HoldsAreKeptByActions : Type 0 where
  pub begins : (locks : ℕ) (now : Holds) → HoldsSince locks now now []
  pub goes_on : (u : Program) (s : State) (pick : Pick) → StateIsKept u s → (at_call : Holds) (actions : List Action) (last : ℕ)
      → HoldsSince (length s.locks) (holds_of s pick.thread) at_call actions
      → HoldsSince (length s.locks) (holds_of (step u s pick).0 pick.thread) at_call
      (with_action (action_of (step u s pick).1.kind last) actions)
  pub stays : (u : Program) (s : State) (pick : Pick) → StateIsKept u s → (thread : ℕ) → (thread ≡ pick.thread → ⊥)
      → (locks : ℕ) (at_call : Holds) (actions : List Action) → HoldsSince locks (holds_of s thread) at_call actions
      → HoldsSince locks (holds_of (step u s pick).0 thread) at_call actions

-- whether a lock was taken and given back as often as the attributes of a function that returns an answer say
abbrev pub is_balanced : Program → Frame → Value → List Action → (lock : ℕ) → Mode → Bool
is_balanced u frame v actions lock mode =
    nat_eq (takings actions lock mode + given_back u frame v (attrs_of u frame) lock mode)
    (givings actions lock mode + taken_over u frame v (attrs_of u frame) lock mode)

-- whether all locks were, and each attribute that counts names one
abbrev pub is_as_declared : Program → Frame → Value → List Action → Bool
is_as_declared u frame v actions =
    list_all (names_lock u frame v) (attrs_of u frame)
    && all_below (length u.layout.places)
    (λ lock. is_balanced u frame v actions lock Exclusive && is_balanced u frame v actions lock Shared)

abbrev pub ReturnsAreJudgedByActions : Type 0
ReturnsAreJudgedByActions = (u : Program) (now : Holds) (frame : Frame) (v : Value) (actions : List Action)
    → HoldsSince (length u.layout.places) now frame.at_call actions
    → violates u now frame (to_leave v) ≡ not (is_as_declared u frame v actions)
