-- Holds are kept by actions.
use Rattle.std.proofs.Common.{◌≡◌, ℕ, ◌+◌, true, false, List, refl, arith}
use Rattle.tsa_sched.specs.declared.event.EventKind.{EventKind}
use Rattle.tsa_sched.specs.declared.event.EventKind.TheVariants as event
use Rattle.tsa_sched.specs.declared.event.Mode.{Mode}
use Rattle.tsa_mean.specs.HoldLaws.{gained, lost}
use Rattle.tsa_mean.specs.Runs.{step}
use Rattle.tsa_mean.specs.States.{holds_of}
use Rattle.tsa_mean.proofs.Holds.{holds_change_as_told}
use Rattle.tsa_exec_actions.specs.Actions.{action_of, givings, HoldsAreKeptByActions, takings, with_action}
use Rattle.tsa_exec_actions.specs.declared.action.Action.{Action}

module _ (last : ℕ) (actions : List Action) (lock : ℕ) (mode : Mode) where
  -- the action of an event counts what the event tells
  abbrev Counted : EventKind → Type 0
  Counted kind = (takings (with_action (action_of kind last) actions) lock mode ≡ gained kind lock mode + takings actions lock mode)
      × (givings (with_action (action_of kind last) actions) lock mode ≡ lost kind lock mode + givings actions lock mode)

  -- where nothing is gained nor lost
  same : (takings actions lock mode ≡ 0 + takings actions lock mode) × (givings actions lock mode ≡ 0 + givings actions lock mode)
  same = (omega arith, omega arith)

  counted : (kind : EventKind) → Counted kind
  unfolding takings givings
  counted (event.Took l m) = (refl, refl)
  counted (event.Tried l m true) = (refl, refl)
  counted (event.Tried l m false) = same
  counted (event.Gave l m) = (refl, refl)
  counted (event.Write place v) = same
  counted (event.Read place v) = same
  counted (event.Waits other holder) = same
  counted (event.NotHeld other) = same
  counted (event.Environment f v) = same
  counted (event.Called f) = same
  counted (event.Returned f) = same
  counted (event.Branched b) = same
  counted (event.Switched v) = same
  counted event.Stepped = same
  counted (event.Trap kind) = same
  counted event.AlreadyEnded = same
  counted event.AlreadyTrapped = same
  counted event.NoThread = same

-- holds that change by what is gained and lost
more : (new old call gain loss taken given takings givings : ℕ) → new + loss ≡ old + gain → old + given ≡ call + taken
    → takings ≡ gain + taken → givings ≡ loss + given → new + givings ≡ call + takings
more new old call gain loss taken given takings givings e f g h = omega (arith, e, f, g, h)

pub holds_are_kept_by_actions : HoldsAreKeptByActions
unfolding takings givings
holds_are_kept_by_actions = record {
  begins = λ locks now lock inside mode. refl;
  goes_on = λ u s pick is at_call actions last since lock inside mode.
      let kind = (step u s pick).1.kind in let both = counted last actions lock mode kind in
      more (holds_of (step u s pick).0 pick.thread lock mode) (holds_of s pick.thread lock mode) (at_call lock mode)
      (gained kind lock mode) (lost kind lock mode)
      (takings actions lock mode) (givings actions lock mode)
      (takings (with_action (action_of kind last) actions) lock mode) (givings (with_action (action_of kind last) actions) lock mode)
      (holds_change_as_told.own u s pick is lock inside mode) (since lock inside mode) both.0 both.1;
  stays = λ u s pick is thread differs locks at_call actions since lock inside mode.
      let same = holds_change_as_told.others u s pick is thread differs lock mode in
      let before = since lock inside mode in omega (arith, same, before);
}
