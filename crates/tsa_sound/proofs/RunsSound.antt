-- From a state with the invariant no run tells of a violation, and none leads to a race.
use Rattle.std.proofs.Common.{◌≡◌, pos, false, List, [], ◌∷◌, Some, refl, sym, subst, arith}
use Rattle.std.specs.Prelude.{All}
use Rattle.tsa_place_model.specs.Calls.{guards_of}
use Rattle.tsa_place_model.specs.declared.place.Guard.{Guard}
use Rattle.tsa_place_model.specs.declared.place.Guard.TheVariants.{Lock, Nothing}
use Rattle.tsa_core.specs.Programs.{Program}
use Rattle.tsa_sched.specs.declared.event.Mode.TheVariants.{Exclusive}
use Rattle.tsa_locks.proofs.Takings.{locks_are_taken_where_they_can_be}
use Rattle.tsa_sched.specs.declared.pick.Pick.{Pick}
use Rattle.tsa_mean.specs.Acts.{Act, act_of, to_read, to_write, to_step, to_set, to_branch, to_choose, to_take, to_try, to_give, to_ask}
use Rattle.tsa_mean.specs.Acts.{to_enter, to_leave, to_trap, touched_cell}
use Rattle.tsa_mean.specs.Laws.{IsSafeIn}
use Rattle.tsa_mean.specs.Runs.{run, step}
use Rattle.tsa_mean.specs.Safe.{IsHeld, IsHeldAlone, IsSafe}
use Rattle.tsa_mean.specs.Sound.{IsPick, Race}
use Rattle.tsa_mean.specs.States.{State, holds_of, lock_at}
use Rattle.tsa_mean.proofs.Lists.{all_first, all_more, all_none, all_rest}
use Rattle.tsa_mean.proofs.Telling.{turns_are_safe_by_their_acts}
use Rattle.tsa_sound.specs.Facts.{ProgramFacts}
use Rattle.tsa_sound.specs.FramesFit.{ProgramRows}
use Rattle.tsa_sound.specs.Invariant.{Invariant}
use Rattle.tsa_sound.specs.Laws.{GoesWell, RunsAreSound, TakesTurn}
use Rattle.tsa_sound.proofs.EveryTurn.{every_turn_goes_well}
use Rattle.tsa_sound.proofs.ReadLaw as reads
use Rattle.tsa_sound.proofs.Tests.{none_is_some, same_some}
use Rattle.tsa_sound.proofs.WriteLaw as writes

-- an act whose turn goes well is safe
safe_act : (u : Program) (x : ProgramRows) (s : State) (pick : Pick) (act : Act) (turn : TakesTurn u s pick act) → GoesWell u x s pick
    → IsSafe u (holds_of s pick.thread) turn.frame act
safe_act u x s pick act turn well =
    subst (IsSafe u (holds_of s pick.thread) turn.frame) turn.does (subst (IsSafeIn u s pick.thread) turn.runs ((turns_are_safe_by_their_acts u s pick).0 well.safe))

module _ (u : Program) (x : ProgramRows) (s : State) (facts : ProgramFacts u x) (inv : Invariant u x s) (race : Race u s) where
  -- the one holds all guards alone
  first : TakesTurn u s (record { thread = race.one; answer = pos 0 }) (to_write race.cell race.value)
  first = record { frame = race.frame; below = race.below; runs = race.runs; does = race.writes }

  alone : All (IsHeldAlone (holds_of s race.one)) (guards_of u.layout race.cell)
  alone = safe_act u x s (record { thread = race.one; answer = pos 0 }) (to_write race.cell race.value) first
      (writes.writes_go_well u x s (record { thread = race.one; answer = pos 0 }) (to_write race.cell race.value) facts inv first tt)

  held_of_alone : (g : Guard) → IsHeldAlone (holds_of s race.other) g → IsHeld (holds_of s race.other) g
  held_of_alone Nothing h = absurd h
  held_of_alone (Lock l) h = (Exclusive, h)

  all_held : (gs : List Guard) → All (IsHeldAlone (holds_of s race.other)) gs → All (IsHeld (holds_of s race.other)) gs
  all_held [] all = all_none (IsHeld (holds_of s race.other))
  all_held (g ∷ gs) all = all_more (IsHeld (holds_of s race.other)) g gs (held_of_alone g (all_first (IsHeldAlone (holds_of s race.other)) g gs all))
      (all_held gs (all_rest (IsHeldAlone (holds_of s race.other)) g gs all))

  -- and the other holds them
  second : (act : Act) → act_of u race.other_frame ≡ act → TakesTurn u s (record { thread = race.other; answer = pos 0 }) act
  second act is = record { frame = race.other_frame; below = race.other_below; runs = race.other_runs; does = is }

  held_by : (act : Act) → act_of u race.other_frame ≡ act → touched_cell act ≡ Some race.cell → All (IsHeld (holds_of s race.other)) (guards_of u.layout race.cell)
  held_by (to_read place left) is touches =
      subst (λ p. All (IsHeld (holds_of s race.other)) (guards_of u.layout p)) (same_some touches)
      (safe_act u x s (record { thread = race.other; answer = pos 0 }) (to_read place left) (second (to_read place left) is)
      (reads.reads_go_well u x s (record { thread = race.other; answer = pos 0 }) (to_read place left) facts inv (second (to_read place left) is) tt))
  held_by (to_write place v) is touches =
      subst (λ p. All (IsHeld (holds_of s race.other)) (guards_of u.layout p)) (same_some touches)
      (all_held (guards_of u.layout place) (safe_act u x s (record { thread = race.other; answer = pos 0 }) (to_write place v) (second (to_write place v) is)
      (writes.writes_go_well u x s (record { thread = race.other; answer = pos 0 }) (to_write place v) facts inv (second (to_write place v) is) tt)))
  held_by to_step is touches = none_is_some touches
  held_by (to_set n v) is touches = none_is_some touches
  held_by (to_branch b) is touches = none_is_some touches
  held_by (to_choose v) is touches = none_is_some touches
  held_by (to_take mode lock) is touches = none_is_some touches
  held_by (to_try mode success lock) is touches = none_is_some touches
  held_by (to_give mode lock) is touches = none_is_some touches
  held_by (to_ask f kind) is touches = none_is_some touches
  held_by (to_enter f args) is touches = none_is_some touches
  held_by (to_leave v) is touches = none_is_some touches
  held_by (to_trap kind) is touches = none_is_some touches

  -- no lock is held alone by one and held by another
  apart : (g : Guard) → IsHeldAlone (holds_of s race.one) g → IsHeld (holds_of s race.other) g → ⊥
  apart Nothing one other = one
  apart (Lock l) one other =
      let none = locks_are_taken_where_they_can_be.alone (lock_at s l) race.one race.other other.0 one (λ same mode. race.apart (sym same)) in
      let some = other.1 in
      omega (arith, none, some)

  some_guard : (gs : List Guard) → (gs ≡ [] → ⊥) → All (IsHeldAlone (holds_of s race.one)) gs → All (IsHeld (holds_of s race.other)) gs → ⊥
  some_guard [] guarded one other = guarded refl
  some_guard (g ∷ gs) guarded one other =
      apart g (all_first (IsHeldAlone (holds_of s race.one)) g gs one) (all_first (IsHeld (holds_of s race.other)) g gs other)

  no_race : ⊥
  no_race = some_guard (guards_of u.layout race.cell) race.guarded alone (held_by (act_of u race.other_frame) refl race.touches)

pub runs_are_sound : RunsAreSound
unfolding run
runs_are_sound u x s [] facts inv are_picks = record { safe = all_none (λ event. event.violation ≡ false); no_race = no_race u x s facts inv }
runs_are_sound u x s (pick ∷ picks) facts inv are_picks =
    let turn = every_turn_goes_well u x s pick (all_first IsPick pick picks are_picks) facts inv in
    let rest = runs_are_sound u x (step u s pick).0 picks facts turn.kept (all_rest IsPick pick picks are_picks) in
    record {
      safe = all_more (λ event. event.violation ≡ false) (step u s pick).1 (run u (step u s pick).0 picks).1 turn.safe rest.safe;
      no_race = rest.no_race;
    }
