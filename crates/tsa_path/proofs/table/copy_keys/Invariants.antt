use Rattle.std.proofs.Common.{◌≡◌, take}
use Rattle.tsa_path.proofs.table.copy_keys.Given as goal

-- the first keys are copied
abbrev pub invariant-each : goal.invariant-each
invariant-each l = l.copy.keys ≡ take l.key-index l.keys.keys
