use Rattle.std.proofs.Common.{◌+◌, ◌-◌, ◌*◌, length}
use Rattle.tsa_lower_terms.proofs.find.Source.+reaching.Given as goal

abbrev pub decreases-reach : goal.decreases-reach
decreases-reach l = 2 * (length l.self.now.row - l.job.at)

abbrev pub decreases-reach_of_both : goal.decreases-reach_of_both
decreases-reach_of_both l = 2 * (length l.self.now.row - l.job.at) + 1

abbrev pub decreases-reach_of_compared : goal.decreases-reach_of_compared
decreases-reach_of_compared l = 2 * (length l.self.now.row - l.job.at) + 1
