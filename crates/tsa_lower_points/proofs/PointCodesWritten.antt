-- The code of points, worked out.
use Rattle.std.proofs.Common.{refl}
use Rattle.tsa_core_rows.proofs.RowExamples.{worked}
use Rattle.tsa_mean.proofs.RunExamples.{turned}
use Rattle.tsa_lower_points.specs.Examples.{PointsHaveCodeAsWritten}

pub points_have_code_as_written : PointsHaveCodeAsWritten
unfolding worked turned
points_have_code_as_written = record {
  early = refl;
  local_joined = refl;
  cell_joined = refl;
  high = refl;
  lock = refl;
  behind_lock = refl;
  body = refl;
  declared = refl;
  zero = refl;
  tested = refl;
  untested = refl;
  jump = refl;
  end = refl;
}
