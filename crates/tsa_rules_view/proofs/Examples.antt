-- Structs and paths, worked out.
use Rattle.std.proofs.Common.{refl}
use Rattle.tsa_core.proofs.BodyExamples.{worked}
use Rattle.tsa_rules_view.specs.Examples.{LockKindsAreAsWritten}

pub lock_kinds_are_as_written : LockKindsAreAsWritten
unfolding worked
lock_kinds_are_as_written = record {
  kinds = refl;
  global = refl;
  pointer = refl;
  element = refl;
  lock = refl;
  number = refl;
  behind_pointer = refl;
  owner = refl;
  deep = refl;
  flat = refl;
  node = refl;
  no_struct = refl;
}
