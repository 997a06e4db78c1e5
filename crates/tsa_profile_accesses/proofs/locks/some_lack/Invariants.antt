use Rattle.std.proofs.Common.{◌≡◌, drop}
use Rattle.std.specs.List.{list_any}
use Rattle.tsa_profile_accesses.specs.Locks.{lacks_path}
use Rattle.tsa_profile_accesses.proofs.locks.some_lack.Given as goal

-- those from here on tell
abbrev pub invariant-each : goal.invariant-each
invariant-each l = list_any (lacks_path l.ways) (drop l.lock-index l.locks) ≡ list_any (lacks_path l.ways) l.locks
