-- What lock functions do by their attributes.
use Rattle.std.specs.Prelude.{◌≡◌, ℕ, Bool, Option, Some, None}
use Rattle.tsa_tree.specs.declared.attr.AttrKind.{AttrKind}
use Rattle.tsa_mean.specs.Acts.{Act, on_lock, to_give, to_take, to_try}
use Rattle.tsa_exec_locks.specs.declared.act.LockAct.{LockAct}
use Rattle.tsa_exec_locks.specs.declared.act.LockAct.TheVariants.{Take, Try, Give}

-- an act of the machine with the lock at a place
abbrev pub act_at_lock : LockAct → (lock : ℕ) → Act
act_at_lock (Take mode) lock = to_take mode lock
act_at_lock (Try mode success) lock = to_try mode success lock
act_at_lock (Give mode) lock = to_give mode lock

-- an attribute that changes a lock has that act, and every other leaves the act that the call has without it
abbrev pub IsActOf : AttrKind → (success : Bool) → Option LockAct → Type 0
IsActOf kind success (Some act) = (lock : ℕ) (other : Act) → on_lock kind success lock other ≡ act_at_lock act lock
IsActOf kind success None = (lock : ℕ) (other : Act) → on_lock kind success lock other ≡ other
