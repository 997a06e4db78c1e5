-- Courses worked out.
use Rattle.std.proofs.Common.{refl}
use Rattle.tsa_mean.proofs.RunExamples.{turned}
use Rattle.tsa_lower_going.specs.Examples.{ReadsComeInTurn}

pub reads_come_in_turn : ReadsComeInTurn
unfolding turned
reads_come_in_turn = record {
  both_sides = refl;
  left_side_alone = refl;
  right_side_traps = refl;
  nothing_read = refl;
  both_read = refl;
  old_value = refl;
  no_element = refl;
  lock_taken = refl;
  no_lock = refl;
}
