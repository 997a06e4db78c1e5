-- What a table's calls do to all locks of a state: to the one what the machine does, and to the others nothing.
use Rattle.std.specs.Prelude.{◌≡◌, ℕ, ◌<◌, ◌≤◌, Bool, true, false, List, length, Option, Some, None, slice_index_or, slice_set}
use Rattle.tsa_locks.specs.Locks.{Lock, Mode, Exclusive, Shared, take, give, free, mode_to_give}
use Rattle.tsa_locks.specs.Locks as lock
use Rattle.tsa_locks.specs.Tables.{locks_of, GiveAnswers, GiveAnyAnswers, GiveSharedAnswers, IsFree, ShareAnswers, TakeAgainAnswers, TakeAnswers}
use Rattle.tsa_locks.specs.TableLocks.{StandsFor}
use Rattle.tsa_locks.specs.declared.table.LockTable.{LockTable}
use Rattle.tsa_locks.specs.declared.table.Taking.{Taking}
use Rattle.tsa_locks.specs.declared.table.Taking.TheVariants.{Done, Waits}
use Rattle.tsa_locks.specs.declared.table.Giving.{Giving}
use Rattle.tsa_locks.specs.declared.table.Giving.TheVariants as giving

abbrev pub lock_in : List Lock → ℕ → Lock
lock_in locks l = slice_index_or locks l free

-- a table stands for the locks of a state, each by its counts
pub record StandFor (table : LockTable) (locks : List Lock) : Type 0 where
  pub long : length locks ≡ locks_of table
  pub each : (l : ℕ) → l < locks_of table → StandsFor table l (lock_in locks l)

abbrev pub TakesIn : lock.Taking → Taking → LockTable → List Lock → ℕ → Type 0
TakesIn (lock.taken x) Done new locks l = StandFor new (slice_set locks l x)
TakesIn (lock.blocked holder) (Waits h) new locks l = (holder ≡ h) × StandFor new locks
TakesIn _ _ new locks l = ⊥

abbrev pub GivesIn : Option Lock → Giving → LockTable → List Lock → ℕ → Type 0
GivesIn (Some x) giving.Done new locks l = StandFor new (slice_set locks l x)
GivesIn None giving.NotHeld new locks l = StandFor new locks
GivesIn _ _ new locks l = ⊥

abbrev pub GivesAnyIn : Lock → (thread : ℕ) → Option Mode → LockTable → List Lock → ℕ → Type 0
GivesAnyIn x t (Some m) new locks l = (mode_to_give t x ≡ m) × GivesIn (give m t x) giving.Done new locks l
GivesAnyIn x t None new locks l = GivesIn (give (mode_to_give t x) t x) giving.NotHeld new locks l

abbrev pub InRange : LockTable → (lock thread : ℕ) → Type 0
InRange table l t = (l < locks_of table) × (t < table.threads)

pub record TheTableIsTheState : Type 0 where
  pub begins : (table : LockTable) (locks : List Lock) → length locks ≡ locks_of table → ((l : ℕ) → lock_in locks l ≡ free) → ((l : ℕ) → l < locks_of table → IsFree table l) → StandFor table locks
  pub takes : (old new : LockTable) (locks : List Lock) (l t : ℕ) (answer : Taking) → InRange old l t → StandFor old locks → TakeAnswers old l t answer new → TakesIn (take false Exclusive t (lock_in locks l)) answer new locks l
  pub takes_again : (old new : LockTable) (locks : List Lock) (l t : ℕ) (answer : Taking) → InRange old l t → StandFor old locks → TakeAgainAnswers old l t answer new → TakesIn (take true Exclusive t (lock_in locks l)) answer new locks l
  pub shares : (old new : LockTable) (locks : List Lock) (l t : ℕ) (answer : Taking) (r : Bool) → InRange old l t → StandFor old locks → ShareAnswers old l t answer new → TakesIn (take r Shared t (lock_in locks l)) answer new locks l
  pub gives : (old new : LockTable) (locks : List Lock) (l t : ℕ) (answer : Giving) → InRange old l t → StandFor old locks → GiveAnswers old l t answer new → GivesIn (give Exclusive t (lock_in locks l)) answer new locks l
  pub gives_shared : (old new : LockTable) (locks : List Lock) (l t : ℕ) (answer : Giving) → InRange old l t → StandFor old locks → GiveSharedAnswers old l t answer new → GivesIn (give Shared t (lock_in locks l)) answer new locks l
  pub gives_any : (old new : LockTable) (locks : List Lock) (l t : ℕ) (answer : Option Mode) → InRange old l t → StandFor old locks → GiveAnyAnswers old l t answer new → GivesAnyIn (lock_in locks l) t answer new locks l
