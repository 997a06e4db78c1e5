-- Turns with single locks, worked out.
use Rattle.std.proofs.Common.{◌≡◌, ◌∙◌, ℕ, Bool, true, false, List, [], ◌∷◌, Option, Some, None, refl, sym, ap, subst}
use Rattle.std.specs.Prelude.{pos}
use Rattle.tsa_core.specs.Examples.{program}
use Rattle.tsa_core.specs.Programs.{Program}
use Rattle.tsa_locks.specs.Locks.{Lock}
use Rattle.tsa_locks.specs.TableStates.{StandFor}
use Rattle.tsa_locks.specs.declared.table.LockTable.{LockTable}
use Rattle.tsa_sched.specs.declared.event.EventKind.{EventKind}
use Rattle.tsa_mean.specs.States.{Frame, State, calling}
use Rattle.tsa_mean.specs.Steps.{is_reentrant_at, perform, Turn}
use Rattle.tsa_mean.specs.Texts.{a_lock}
use Rattle.tsa_mean.specs.Traces.{taken_twice}
use Rattle.tsa_mean.proofs.RunExamples.{turned}
use Rattle.tsa_exec_locks.specs.Acts.{act_at_lock}
use Rattle.tsa_exec_locks.specs.Examples.{Does, LockTurnsAreAsWritten, plain, reentrant, TellsOf}
use Rattle.tsa_exec_locks.specs.Turns.{after_lock, answer_told, TurnsAs}
use Rattle.tsa_exec_locks.specs.declared.act.LockAct.{LockAct}
use Rattle.tsa_exec_locks.specs.declared.taking.LockPlace.{LockPlace}
use Rattle.tsa_exec_locks.specs.declared.turn.LockTurn.{LockTurn}

-- a state with these locks and no thread, and some frame
abbrev with_these : List Lock → State
with_these locks = record { store = []; locks = locks; threads = [] }

abbrev some_frame : Frame
some_frame = record { function = 0; args = []; point = 0; work = calling []; locals = []; at_call = λ l m. 0 }

abbrev performed : Program → ℕ → List Lock → LockAct → ℕ → Turn
performed u t before act l = perform u (with_these before) t some_frame [] (pos 0) (act_at_lock act l)

locks_of_after : (u : Program) (s : State) (t : ℕ) (frame : Frame) (locks : List Lock) (answer : Option Bool) → (after_lock u s t frame [] locks answer).locks ≡ locks
locks_of_after u s t frame locks None = refl
locks_of_after u s t frame locks (Some b) = refl

does : (u : Program) (act : LockAct) (lock : LockPlace) (t : ℕ) (before : List Lock) (event : EventKind) (answer : Option Bool) (after : List Lock)
    → is_reentrant_at u lock.place ≡ lock.is_reentrant → (performed u t before act lock.place).1 ≡ event → answer_told act event ≡ answer
    → (performed u t before act lock.place).0.locks ≡ after → Does act lock t before event answer after
does u act lock t before event answer after again tells says leaves = λ old new turn st turns answers.
    by old new turn (turns u (with_these before) (pos 0) some_frame [] st again) answers
  where
    by : (old new : LockTable) (turn : LockTurn) → TurnsAs u (with_these before) t (pos 0) some_frame [] act lock.place turn new → turn.answer ≡ answer_told act turn.event
        → TellsOf turn new event answer after
    by old new turn is answers =
        let told : turn.event ≡ event = sym (ap (λ k. k.1) is.performs) ∙ tells in
        let left : is.locks_after ≡ after = sym (locks_of_after u (with_these before) t some_frame is.locks_after turn.answer) ∙ (sym (ap (λ k. k.0.locks) is.performs) ∙ leaves) in
        record { event_is = told; answer_is = answers ∙ (ap (answer_told act) told ∙ says); stands = subst (StandFor new) left is.stands }

pub as_written : LockTurnsAreAsWritten
unfolding turned
as_written = record {
  free_lock = does (program a_lock) _ _ _ _ _ _ _ refl refl refl refl;
  held_by_another = does (program a_lock) _ _ _ _ _ _ _ refl refl refl refl;
  held_by_itself = does (program a_lock) _ _ _ _ _ _ _ refl refl refl refl;
  again = does (program taken_twice) _ _ _ _ _ _ _ refl refl refl refl;
  beside_a_reader = does (program a_lock) _ _ _ _ _ _ _ refl refl refl refl;
  try_takes = does (program a_lock) _ _ _ _ _ _ _ refl refl refl refl;
  try_takes_by_0 = does (program a_lock) _ _ _ _ _ _ _ refl refl refl refl;
  try_fails = does (program a_lock) _ _ _ _ _ _ _ refl refl refl refl;
  try_fails_by_1 = does (program a_lock) _ _ _ _ _ _ _ refl refl refl refl;
  given_back = does (program a_lock) _ _ _ _ _ _ _ refl refl refl refl;
  not_held = does (program a_lock) _ _ _ _ _ _ _ refl refl refl refl;
  held_in_another_mode = does (program a_lock) _ _ _ _ _ _ _ refl refl refl refl;
  in_whichever_mode = does (program a_lock) _ _ _ _ _ _ _ refl refl refl refl;
  beyond = does (program a_lock) _ _ _ _ _ _ _ refl refl refl refl;
}
