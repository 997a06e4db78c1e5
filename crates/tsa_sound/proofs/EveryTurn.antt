-- Every turn keeps the invariant, and is no violation, whatever its thread does next.
use Rattle.std.proofs.Common.{◌≡◌, Option, Some, None, refl}
use Rattle.tsa_core.specs.Programs.{Program}
use Rattle.tsa_sched.specs.declared.pick.Pick.{Pick}
use Rattle.tsa_mean.specs.Acts.{Act, act_of, to_read, to_write, to_step, to_set, to_branch, to_choose, to_take, to_try, to_give, to_ask}
use Rattle.tsa_mean.specs.Acts.{to_enter, to_leave, to_trap}
use Rattle.tsa_mean.specs.Sound.{IsPick}
use Rattle.tsa_mean.specs.States.{State, Thread, running, trapped, ended, thread_at}
use Rattle.tsa_sound.specs.Facts.{ProgramFacts}
use Rattle.tsa_sound.specs.FramesFit.{ProgramRows}
use Rattle.tsa_sound.specs.Invariant.{Invariant}
use Rattle.tsa_sound.specs.Laws.{DoesNotRun, EveryTurnGoesWell, GoesWell, TakesTurn}
use Rattle.tsa_sound.proofs.AskLaw as asks
use Rattle.tsa_sound.proofs.Branches as branches
use Rattle.tsa_sound.proofs.EnterLaw as calls
use Rattle.tsa_sound.proofs.Going as going
use Rattle.tsa_sound.proofs.IdleTurns as idle
use Rattle.tsa_sound.proofs.LeaveLaw as returns
use Rattle.tsa_sound.proofs.LockLaws as locks
use Rattle.tsa_sound.proofs.ReadLaw as reads
use Rattle.tsa_sound.proofs.SetLaw as sets
use Rattle.tsa_sound.proofs.WriteLaw as writes

module _ (u : Program) (x : ProgramRows) (s : State) (pick : Pick) (is_pick : IsPick pick) (facts : ProgramFacts u x) (inv : Invariant u x s) where
  by_act : (act : Act) → TakesTurn u s pick act → GoesWell u x s pick
  by_act (to_read place left) turn = reads.reads_go_well u x s pick (to_read place left) facts inv turn tt
  by_act (to_write place v) turn = writes.writes_go_well u x s pick (to_write place v) facts inv turn tt
  by_act to_step turn = going.steps_go_well u x s pick to_step facts inv turn tt
  by_act (to_set n v) turn = sets.sets_go_well u x s pick (to_set n v) facts inv turn tt
  by_act (to_branch b) turn = branches.branches_go_well u x s pick (to_branch b) facts inv turn tt
  by_act (to_choose v) turn = going.choices_go_well u x s pick (to_choose v) facts inv turn tt
  by_act (to_take mode lock) turn = locks.takings_go_well u x s pick (to_take mode lock) facts inv turn tt
  by_act (to_try mode success lock) turn = locks.tries_go_well u x s pick (to_try mode success lock) facts inv turn tt
  by_act (to_give mode lock) turn = locks.givings_go_well u x s pick (to_give mode lock) facts inv turn tt
  by_act (to_ask f kind) turn = asks.environment_calls_go_well u x s pick (to_ask f kind) is_pick facts inv turn tt
  by_act (to_enter f args) turn = calls.calls_go_well u x s pick (to_enter f args) facts inv turn tt
  by_act (to_leave v) turn = returns.returns_go_well u x s pick (to_leave v) facts inv turn tt
  by_act (to_trap kind) turn = idle.traps_go_well u x s pick (to_trap kind) facts inv turn tt

  by_thread : (thread : Option Thread) → thread_at s pick.thread ≡ thread → (DoesNotRun thread → GoesWell u x s pick) → GoesWell u x s pick
  by_thread None is rests = rests tt
  by_thread (Some ended) is rests = rests tt
  by_thread (Some (trapped frame below)) is rests = rests tt
  by_thread (Some (running frame below)) is rests = by_act (act_of u frame) (record { frame = frame; below = below; runs = is; does = refl })

pub every_turn_goes_well : EveryTurnGoesWell
every_turn_goes_well u x s pick is_pick facts inv =
    by_thread u x s pick is_pick facts inv (thread_at s pick.thread) refl (λ not. idle.threads_that_do_not_run_go_well u x s pick inv not)
