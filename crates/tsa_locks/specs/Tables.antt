-- Who holds a lock in a table, how a call changes that, and what it answers.
use Rattle.std.specs.Prelude.{◌≡◌, ℕ, zero, suc, ◌+◌, ◌*◌, ◌<◌, ◌⊎◌, nat_eq, Bool, true, false, Option, Some, None, option_map, length, get_or, is_some, if◌then◌else◌}
use Rattle.tsa_locks.specs.declared.table.LockTable.{LockTable}
use Rattle.tsa_locks.specs.declared.table.Owner.{Owner}
use Rattle.tsa_locks.specs.declared.table.Taking.{Taking}
use Rattle.tsa_locks.specs.declared.table.Taking.TheVariants.{Done, Waits}
use Rattle.tsa_locks.specs.declared.table.Giving.{Giving}
use Rattle.tsa_locks.specs.declared.table.Giving.TheVariants as giving
use Rattle.tsa_locks.specs.Locks.{Mode, Exclusive, Shared}

abbrev pub locks_of : LockTable → ℕ
locks_of table = length table.owners.items

-- who has a lock alone, with how often
abbrev pub owner_in : LockTable → ℕ → Option Owner
owner_in table lock = get_or table.owners.items lock None

abbrev pub is_owned : LockTable → ℕ → Bool
is_owned table lock = is_some (owner_in table lock)

abbrev pub owner_of : LockTable → ℕ → Option ℕ
owner_of table lock = option_map (λ o. o.thread) (owner_in table lock)

abbrev pub depth_in : Option Owner → ℕ → ℕ
depth_in None t = 0
depth_in (Some o) t = if nat_eq o.thread t then o.depth else 0

-- how often a thread has a lock alone, and how often it shares it
abbrev pub depth_of : LockTable → ℕ → ℕ → ℕ
depth_of table lock t = depth_in (owner_in table lock) t

abbrev pub count_of : LockTable → ℕ → ℕ → ℕ
count_of table lock t = get_or table.counts.items (lock * table.threads + t) 0

-- how often a thread holds a lock in a mode
abbrev pub holds_in : LockTable → ℕ → ℕ → Mode → ℕ
holds_in table lock t Exclusive = depth_of table lock t
holds_in table lock t Shared = count_of table lock t

-- no thread has a lock alone, and none shares it
pub record IsFree (table : LockTable) (lock : ℕ) : Type 0 where
  pub unowned : owner_in table lock ≡ None
  pub unshared : (t : ℕ) → t < table.threads → count_of table lock t ≡ 0

-- the first thread that shares a lock
pub record IsFirst (table : LockTable) (lock h : ℕ) : Type 0 where
  pub unowned : owner_in table lock ≡ None
  pub thread : h < table.threads
  pub shares : 0 < count_of table lock h
  pub first : (t : ℕ) → t < h → count_of table lock t ≡ 0

-- who has a lock alone, else the first who shares it
abbrev pub IsHolder : LockTable → ℕ → ℕ → Type 0
IsHolder table lock h = (owner_of table lock ≡ Some h) ⊎ IsFirst table lock h

-- who has a lock alone changes, and nothing else
pub record SetsOwner (old new : LockTable) (lock : ℕ) (owner : Option Owner) : Type 0 where
  pub threads : new.threads ≡ old.threads
  pub locks : locks_of new ≡ locks_of old
  pub here : owner_in new lock ≡ owner
  pub elsewhere : (j : ℕ) → (j ≡ lock → ⊥) → owner_in new j ≡ owner_in old j
  pub counts : (j t : ℕ) → count_of new j t ≡ count_of old j t

-- how often one thread shares a lock changes, and nothing else
pub record SetsCount (old new : LockTable) (lock t n : ℕ) : Type 0 where
  pub threads : new.threads ≡ old.threads
  pub locks : locks_of new ≡ locks_of old
  pub here : count_of new lock t ≡ n
  pub elsewhere : (j u : ℕ) → u < old.threads → (j ≡ lock → u ≡ t → ⊥) → count_of new j u ≡ count_of old j u
  pub owners : (j : ℕ) → owner_in new j ≡ owner_in old j

abbrev pub owned : (thread depth : ℕ) → Option Owner
owned t n = Some (record { thread = t; depth = n })

-- a lock is taken alone exactly where nobody has it
abbrev pub TakeAnswers : LockTable → ℕ → ℕ → Taking → LockTable → Type 0
TakeAnswers old lock t Done new = IsFree old lock × SetsOwner old new lock (owned t 1)
TakeAnswers old lock t (Waits h) new = IsHolder old lock h × (new ≡ old)

-- nobody has a lock, or the thread itself has it alone so often
abbrev pub CanTakeAgain : LockTable → ℕ → ℕ → Type 0
CanTakeAgain table lock t = IsFree table lock ⊎ (owner_of table lock ≡ Some t)

-- and again exactly where nobody else has it, and the thread doesn't share it: who is in the way isn't the thread alone
abbrev pub TakeAgainAnswers : LockTable → ℕ → ℕ → Taking → LockTable → Type 0
TakeAgainAnswers old lock t Done new = CanTakeAgain old lock t × SetsOwner old new lock (owned t (depth_of old lock t + 1))
TakeAgainAnswers old lock t (Waits h) new = IsHolder old lock h × (depth_of old lock t ≡ 0) × (new ≡ old)

-- and together with others exactly where nobody has it alone
abbrev pub ShareAnswers : LockTable → ℕ → ℕ → Taking → LockTable → Type 0
ShareAnswers old lock t Done new = (owner_in old lock ≡ None) × SetsCount old new lock t (count_of old lock t + 1)
ShareAnswers old lock t (Waits h) new = (owner_of old lock ≡ Some h) × (new ≡ old)

-- a try takes exactly where a taking wouldn't wait
abbrev pub TryAnswers : LockTable → ℕ → ℕ → Bool → LockTable → Type 0
TryAnswers old lock t true new = TakeAnswers old lock t Done new
TryAnswers old lock t false new = (h : ℕ) × TakeAnswers old lock t (Waits h) new

abbrev pub TryAgainAnswers : LockTable → ℕ → ℕ → Bool → LockTable → Type 0
TryAgainAnswers old lock t true new = TakeAgainAnswers old lock t Done new
TryAgainAnswers old lock t false new = (h : ℕ) × TakeAgainAnswers old lock t (Waits h) new

abbrev pub TryShareAnswers : LockTable → ℕ → ℕ → Bool → LockTable → Type 0
TryShareAnswers old lock t true new = ShareAnswers old lock t Done new
TryShareAnswers old lock t false new = (h : ℕ) × ShareAnswers old lock t (Waits h) new

-- one hold less: at the last one the lock is free
abbrev pub less : ℕ → ℕ → Option Owner
less t zero = None
less t (suc zero) = None
less t (suc (suc n)) = owned t (suc n)

abbrev pub GiveAnswers : LockTable → ℕ → ℕ → Giving → LockTable → Type 0
GiveAnswers old lock t giving.Done new = (0 < depth_of old lock t) × SetsOwner old new lock (less t (depth_of old lock t))
GiveAnswers old lock t giving.NotHeld new = (depth_of old lock t ≡ 0) × (new ≡ old)

abbrev pub GiveSharedAnswers : LockTable → ℕ → ℕ → Giving → LockTable → Type 0
GiveSharedAnswers old lock t giving.Done new = (n : ℕ) × (count_of old lock t ≡ n + 1) × SetsCount old new lock t n
GiveSharedAnswers old lock t giving.NotHeld new = (count_of old lock t ≡ 0) × (new ≡ old)

-- one hold less in whichever mode the thread has: alone, else shared
abbrev pub GiveAnyAnswers : LockTable → ℕ → ℕ → Option Mode → LockTable → Type 0
GiveAnyAnswers old lock t (Some Exclusive) new = GiveAnswers old lock t giving.Done new
GiveAnyAnswers old lock t (Some Shared) new = (depth_of old lock t ≡ 0) × GiveSharedAnswers old lock t giving.Done new
GiveAnyAnswers old lock t None new = (depth_of old lock t ≡ 0) × GiveSharedAnswers old lock t giving.NotHeld new
