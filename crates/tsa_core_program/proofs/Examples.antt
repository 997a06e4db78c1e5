-- What is found along rows, worked out.
use Rattle.std.proofs.Common.{refl}
use Rattle.tsa_core_rows.proofs.RowExamples.{worked}
use Rattle.tsa_core_program.specs.Examples.{BodiesAreFoundAsWritten}

pub bodies_are_found_as_written : BodiesAreFoundAsWritten
unfolding worked
bodies_are_found_as_written = record { changed_parameter = refl; nameless_parameter = refl }
