-- Locks worked out.
use Rattle.std.proofs.Common.{refl}
use Rattle.tsa_locks.specs.Examples.{TakingsAreAsWritten}
use Rattle.tsa_locks.specs.Locks.{count_of, one_less, one_more, sharer_from}

pub as_written : TakingsAreAsWritten
unfolding count_of one_less one_more sharer_from
as_written = record {
  first = refl;
  second = refl;
  by_itself = refl;
  beside_readers = refl;
  upgrade = refl;
  reader = refl;
  reader_again = refl;
  reader_beside_owner = refl;
  again = refl;
  again_by_other = refl;
  inner = refl;
  outer = refl;
  by_other = refl;
  in_other_mode = refl;
  reader_goes = refl;
  twice = refl;
  alone = refl;
  together = refl;
}
