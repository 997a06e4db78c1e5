-- When two locks are one: locks are compared by holds, so one that nobody shares is free, however many counts of 0 it lists.
use Rattle.std.specs.Prelude.{ℕ, ◌≡◌, Bool, List, Option, Some, None}
use Rattle.tsa_locks.specs.Laws.{IsLock}
use Rattle.tsa_locks.specs.Locks.{Lock, Mode, Taking, taken, blocked, shared_by, free, count_of, holds, take, give, mode_to_give}

-- each thread holds both as often, in each mode
abbrev pub IsSameLock : Lock → Lock → Type 0
IsSameLock a b = (thread : ℕ) (mode : Mode) → holds a thread mode ≡ holds b thread mode

-- both are taken, and are one lock then; or one thread is in the way of both
abbrev pub IsSameTaking : Taking → Taking → Type 0
IsSameTaking (taken a) (taken b) = IsSameLock a b
IsSameTaking (blocked holder) (blocked other) = holder ≡ other
IsSameTaking x y = ⊥

-- neither is given back, or both are, and are one lock then
abbrev pub IsSameGiving : Option Lock → Option Lock → Type 0
IsSameGiving None None = Unit {0}
IsSameGiving (Some a) (Some b) = IsSameLock a b
IsSameGiving x y = ⊥

-- What is taken, given back and in the way depends on the holds of a lock alone.
pub record LocksAreTheirHolds : Type 0 where
  pub taking : (r : Bool) (m : Mode) (t : ℕ) (a b : Lock) → IsLock a → IsLock b → IsSameLock a b → IsSameTaking (take r m t a) (take r m t b)
  pub giving : (m : Mode) (t : ℕ) (a b : Lock) → IsLock a → IsLock b → IsSameLock a b → IsSameGiving (give m t a) (give m t b)
  pub mode : (t : ℕ) (a b : Lock) → IsSameLock a b → mode_to_give t a ≡ mode_to_give t b
  -- a lock that nobody shares is free
  pub unshared : (counts : List ℕ) → ((t : ℕ) → count_of counts t ≡ 0) → IsSameLock (shared_by counts) free
