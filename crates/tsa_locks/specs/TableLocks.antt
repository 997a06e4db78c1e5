-- What a table's calls do to a lock of the machine.
use Rattle.std.specs.Prelude.{◌≡◌, ℕ, ◌<◌, ◌≤◌, Bool, true, false, Option, Some, None}
use Rattle.tsa_locks.specs.Laws.{IsLock}
use Rattle.tsa_locks.specs.Locks.{Lock, Mode, Exclusive, Shared, holds, take, give, free, mode_to_give}
use Rattle.tsa_locks.specs.Locks as lock
use Rattle.tsa_locks.specs.Tables.{holds_in, locks_of, GiveAnswers, GiveAnyAnswers, GiveSharedAnswers, TryAgainAnswers, TryAnswers, TryShareAnswers, IsFree, ShareAnswers, TakeAgainAnswers, TakeAnswers}
use Rattle.tsa_locks.specs.declared.table.LockTable.{LockTable}
use Rattle.tsa_locks.specs.declared.table.Taking.{Taking}
use Rattle.tsa_locks.specs.declared.table.Taking.TheVariants.{Done, Waits}
use Rattle.tsa_locks.specs.declared.table.Giving.{Giving}
use Rattle.tsa_locks.specs.declared.table.Giving.TheVariants as giving

-- each thread holds it as often as in the table
pub record StandsFor (table : LockTable) (l : ℕ) (x : Lock) : Type 0 where
  pub same : (t : ℕ) → t < table.threads → (m : Mode) → holds x t m ≡ holds_in table l t m
  pub others : (t : ℕ) → table.threads ≤ t → (m : Mode) → holds x t m ≡ 0
  pub is_lock : IsLock x

abbrev pub TakesAs : lock.Taking → Taking → LockTable → ℕ → Type 0
TakesAs (lock.taken x) Done new l = StandsFor new l x
TakesAs (lock.blocked holder) (Waits h) new l = holder ≡ h
TakesAs _ _ new l = ⊥

abbrev pub GivesAs : Option Lock → Giving → LockTable → ℕ → Type 0
GivesAs (Some x) giving.Done new l = StandsFor new l x
GivesAs None giving.NotHeld new l = Unit {0}
GivesAs _ _ new l = ⊥

-- a giving in whichever mode is one in the mode that the machine chooses
abbrev pub GivesAnyAs : Lock → (thread : ℕ) → Option Mode → LockTable → ℕ → Type 0
GivesAnyAs x t (Some m) new l = (mode_to_give t x ≡ m) × GivesAs (give m t x) giving.Done new l
GivesAnyAs x t None new l = GivesAs (give (mode_to_give t x) t x) giving.NotHeld new l

pub record TheTableIsTheLocks : Type 0 where
  pub begins : (table : LockTable) (l : ℕ) → IsFree table l → StandsFor table l free
  pub takes : (old new : LockTable) (l t : ℕ) (x : Lock) (answer : Taking) → t < old.threads → StandsFor old l x → TakeAnswers old l t answer new → TakesAs (take false Exclusive t x) answer new l
  pub takes_again : (old new : LockTable) (l t : ℕ) (x : Lock) (answer : Taking) → t < old.threads → StandsFor old l x → TakeAgainAnswers old l t answer new → TakesAs (take true Exclusive t x) answer new l
  pub shares : (old new : LockTable) (l t : ℕ) (x : Lock) (answer : Taking) (r : Bool) → t < old.threads → StandsFor old l x → ShareAnswers old l t answer new → TakesAs (take r Shared t x) answer new l
  pub gives : (old new : LockTable) (l t : ℕ) (x : Lock) (answer : Giving) → t < old.threads → StandsFor old l x → GiveAnswers old l t answer new → GivesAs (give Exclusive t x) answer new l
  pub gives_shared : (old new : LockTable) (l t : ℕ) (x : Lock) (answer : Giving) → t < old.threads → StandsFor old l x → GiveSharedAnswers old l t answer new → GivesAs (give Shared t x) answer new l
  pub gives_any : (old new : LockTable) (l t : ℕ) (x : Lock) (answer : Option Mode) → t < old.threads → StandsFor old l x → GiveAnyAnswers old l t answer new → GivesAnyAs x t answer new l
