-- Turns with single locks, worked out.
use Rattle.std.specs.Prelude.{◌≡◌, ℕ, Bool, true, false, List, [], ◌∷◌, Option, Some, None}
use Rattle.tsa_locks.specs.Locks.{Exclusive, free, Lock, owned, Shared, shared_by}
use Rattle.tsa_locks.specs.TableStates.{StandFor}
use Rattle.tsa_locks.specs.declared.table.LockTable.{LockTable}
use Rattle.tsa_sched.specs.declared.event.EventKind.{EventKind}
use Rattle.tsa_sched.specs.declared.event.EventKind.TheVariants.{Took, Waits, Tried, Gave, NotHeld}
use Rattle.tsa_exec_locks.specs.Turns.{answer_told, IsTurnOf}
use Rattle.tsa_exec_locks.specs.declared.act.LockAct.{LockAct}
use Rattle.tsa_exec_locks.specs.declared.act.LockAct.TheVariants.{Take, Try, Give}
use Rattle.tsa_exec_locks.specs.declared.taking.LockPlace.{LockPlace}
use Rattle.tsa_exec_locks.specs.declared.turn.LockTurn.{LockTurn}

-- a lock that its owner may not take again, and one that it may
abbrev pub plain : (place : ℕ) → LockPlace
plain place = record { place = place; is_reentrant = false }

abbrev pub reentrant : (place : ℕ) → LockPlace
reentrant place = record { place = place; is_reentrant = true }

pub record TellsOf (turn : LockTurn) (new : LockTable) (event : EventKind) (answer : Option Bool) (after : List Lock) : Type 0 where
  pub event_is : turn.event ≡ event
  pub answer_is : turn.answer ≡ answer
  pub stands : StandFor new after

-- where a table stands for these locks, the clauses of a thread's turn leave no other event, answer and locks
abbrev pub Does : LockAct → LockPlace → (thread : ℕ) → (before : List Lock) → EventKind → Option Bool → (after : List Lock) → Type 0
Does act lock t before event answer after = (old new : LockTable) (turn : LockTurn) → StandFor old before → IsTurnOf act lock t turn old new
    → turn.answer ≡ answer_told act turn.event → TellsOf turn new event answer after

pub record LockTurnsAreAsWritten : Type 0 where
  pub free_lock : Does (Take Exclusive) (plain 0) 1 (free ∷ []) (Took 0 Exclusive) (Some false) (owned 1 1 ∷ [])
  pub held_by_another : Does (Take Exclusive) (plain 0) 1 (owned 0 1 ∷ []) (Waits 0 0) None (owned 0 1 ∷ [])
  pub held_by_itself : Does (Take Exclusive) (plain 0) 1 (owned 1 1 ∷ []) (Waits 0 1) None (owned 1 1 ∷ [])
  pub again : Does (Take Exclusive) (reentrant 0) 1 (owned 1 1 ∷ []) (Took 0 Exclusive) (Some false) (owned 1 2 ∷ [])
  pub beside_a_reader : Does (Take Shared) (plain 0) 1 (shared_by (1 ∷ []) ∷ []) (Took 0 Shared) (Some false) (shared_by (1 ∷ 1 ∷ []) ∷ [])
  -- the answer that says that a try took is 1 or 0
  pub try_takes : Does (Try Exclusive true) (plain 0) 1 (free ∷ []) (Tried 0 Exclusive true) (Some true) (owned 1 1 ∷ [])
  pub try_takes_by_0 : Does (Try Exclusive false) (plain 0) 1 (free ∷ []) (Tried 0 Exclusive true) (Some false) (owned 1 1 ∷ [])
  pub try_fails : Does (Try Shared true) (plain 0) 1 (owned 0 1 ∷ []) (Tried 0 Shared false) (Some false) (owned 0 1 ∷ [])
  pub try_fails_by_1 : Does (Try Exclusive false) (plain 0) 1 (owned 0 1 ∷ []) (Tried 0 Exclusive false) (Some true) (owned 0 1 ∷ [])
  pub given_back : Does (Give (Some Exclusive)) (plain 0) 1 (owned 1 1 ∷ []) (Gave 0 Exclusive) (Some false) (free ∷ [])
  pub not_held : Does (Give (Some Exclusive)) (plain 0) 1 (owned 0 1 ∷ []) (NotHeld 0) (Some false) (owned 0 1 ∷ [])
  pub held_in_another_mode : Does (Give (Some Shared)) (plain 0) 1 (owned 1 1 ∷ []) (NotHeld 0) (Some false) (owned 1 1 ∷ [])
  pub in_whichever_mode : Does (Give None) (plain 0) 1 (shared_by (0 ∷ 2 ∷ []) ∷ []) (Gave 0 Shared) (Some false) (shared_by (0 ∷ 1 ∷ []) ∷ [])
  -- a lock beyond the table is free and stays so
  pub beyond : Does (Take Exclusive) (plain 2) 1 (free ∷ []) (Took 2 Exclusive) (Some false) (free ∷ [])
