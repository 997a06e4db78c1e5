use Rattle.std.proofs.Common.{length}
use Rattle.tsa_lower_pools.proofs.reads.+first_case.Given as goal

abbrev pub decreases-first_case : goal.decreases-first_case
decreases-first_case l = length l.cases.now
