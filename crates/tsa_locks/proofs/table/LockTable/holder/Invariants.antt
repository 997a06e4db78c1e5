use Rattle.std.proofs.Common.{◌≡◌, ℕ, ◌<◌, None}
use Rattle.tsa_locks.specs.Tables.{owner_in, count_of}
use Rattle.tsa_locks.proofs.table.LockTable.holder.Given as goal

abbrev pub invariant-threads : goal.invariant-threads
invariant-threads l = record { unowned : owner_in l.self l.lock ≡ None; none : (t : ℕ) → t < l.thread → count_of l.self l.lock t ≡ 0 }
