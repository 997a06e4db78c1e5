-- Room for turns with locks.
use Rattle.std.specs.Prelude.{◌≡◌, ℕ, ◌+◌, ◌-◌, ◌^◌, ◌<◌}
use Rattle.tsa_locks.specs.Tables.{IsFree, locks_of}
use Rattle.tsa_locks.specs.declared.table.LockTable.{LockTable}
use Rattle.tsa_exec_locks.specs.Changes.{HasRoom, HoldsAtMost, OneMoreAtMost}

-- A table of free locks is held by nobody, a turn adds one hold at most, and where no lock is held too often there is room.
pub record RoomLasts : Type 0 where
  pub new_table : (table : LockTable) → ((lock : ℕ) → lock < locks_of table → IsFree table lock) → HoldsAtMost table 0
  pub turn : (old new : LockTable) (n : ℕ) → OneMoreAtMost old new → HoldsAtMost old n → HoldsAtMost new (n + 1)
  pub room : (table : LockTable) (n lock thread : ℕ) → HoldsAtMost table n → n < 2 ^ 32 - 1 → thread < table.threads → HasRoom table lock thread
