-- How a table of locks changes where a lock is taken or given back.
use Rattle.std.specs.Prelude.{◌≡◌, ℕ, ◌+◌, ◌-◌, ◌^◌, ◌<◌, ◌≤◌, Bool, List, Option, Some, None}
use Rattle.tsa_locks.specs.Locks.{Lock, Mode, give, mode_to_give, take}
use Rattle.tsa_locks.specs.Tables.{count_of, depth_of, holds_in, locks_of}
use Rattle.tsa_locks.specs.TableStates.{GivesIn, lock_in, StandFor, TakesIn}
use Rattle.tsa_locks.specs.declared.table.Giving.{Giving}
use Rattle.tsa_locks.specs.declared.table.Giving.TheVariants.{Done, NotHeld}
use Rattle.tsa_locks.specs.declared.table.LockTable.{LockTable}
use Rattle.tsa_locks.specs.declared.table.Taking.{Taking}

-- a thread's holds of a lock of the table can be counted on: a count has 32 bits
pub record HasRoom (table : LockTable) (lock thread : ℕ) : Type 0 where
  pub depth : lock < locks_of table → depth_of table lock thread < 2 ^ 32 - 1
  pub count : lock < locks_of table → count_of table lock thread < 2 ^ 32 - 1

-- no thread of the table holds a lock of the table more than so often
abbrev pub HoldsAtMost : LockTable → ℕ → Type 0
HoldsAtMost table n = (lock thread : ℕ) → lock < locks_of table → thread < table.threads → (mode : Mode) → holds_in table lock thread mode ≤ n

-- a table of the same locks and threads, where no thread holds a lock more than once more than before
pub record OneMoreAtMost (old new : LockTable) : Type 0 where
  pub threads : new.threads ≡ old.threads
  pub locks : locks_of new ≡ locks_of old
  pub holds : (lock thread : ℕ) → thread < old.threads → (mode : Mode) → holds_in new lock thread mode ≤ holds_in old lock thread mode + 1

-- Of all locks that a table stands for, the one at a place is taken as the machine takes it: it is taken, or the thread waits for the same
-- holder; and the table stands for the locks after that.
abbrev pub TakesOfAll : (is_reentrant : Bool) → Mode → (lock thread : ℕ) → Taking → (old new : LockTable) → Type 0
TakesOfAll again mode l t answer old new = (all : List Lock) → StandFor old all → TakesIn (take again mode t (lock_in all l)) answer new all l

-- and so is it given back in a mode
abbrev pub GivesOfAll : Mode → (lock thread : ℕ) → Giving → (old new : LockTable) → Type 0
GivesOfAll mode l t answer old new = (all : List Lock) → StandFor old all → GivesIn (give mode t (lock_in all l)) answer new all l

-- in which mode a lock is given back: the one that is asked, else the one in which the thread holds it
abbrev pub mode_asked : Option Mode → (thread : ℕ) → Lock → Mode
mode_asked None t x = mode_to_give t x
mode_asked (Some mode) t x = mode

-- a hold is given back in that mode, which is told; or the thread has none
abbrev pub GivesBackIn : Option Mode → Lock → (thread : ℕ) → (told : Option Mode) → LockTable → List Lock → ℕ → Type 0
GivesBackIn mode x t (Some given) new all l = (mode_asked mode t x ≡ given) × GivesIn (give (mode_asked mode t x) t x) Done new all l
GivesBackIn mode x t None new all l = GivesIn (give (mode_asked mode t x) t x) NotHeld new all l

abbrev pub GivesBackOfAll : Option Mode → (lock thread : ℕ) → (told : Option Mode) → (old new : LockTable) → Type 0
GivesBackOfAll mode l t told old new = (all : List Lock) → StandFor old all → GivesBackIn mode (lock_in all l) t told new all l
