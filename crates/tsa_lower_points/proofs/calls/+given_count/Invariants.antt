use Rattle.std.proofs.Common.{length}
use Rattle.tsa_lower_points.proofs.calls.+given_count.Given as goal

abbrev pub decreases-given_count : goal.decreases-given_count
decreases-given_count l = length l.params.now
