use Rattle.std.proofs.Common.{◌+◌, ◌-◌, ◌*◌, length}
use Rattle.tsa_lower_terms.proofs.find.Source.+lowering.Given as goal

abbrev pub decreases-put_place : goal.decreases-put_place
decreases-put_place l = 5 * (length l.self.now.row - l.job.at)

abbrev pub decreases-put_cell : goal.decreases-put_cell
decreases-put_cell l = 5 * (length l.self.now.row - l.spot.at) + 1

abbrev pub decreases-put_value : goal.decreases-put_value
decreases-put_value l = 5 * (length l.self.now.row - l.job.at) + 2

abbrev pub decreases-put_base : goal.decreases-put_base
decreases-put_base l = 5 * (length l.self.now.row - l.job.at) + 3

abbrev pub decreases-put_element : goal.decreases-put_element
decreases-put_element l = 5 * (length l.self.now.row - l.job.at) + 3

abbrev pub decreases-put_left : goal.decreases-put_left
decreases-put_left l = 5 * (length l.self.now.row - l.job.at) + 3

abbrev pub decreases-put_beside : goal.decreases-put_beside
decreases-put_beside l = 5 * (length l.self.now.row - l.job.at) + 3

abbrev pub decreases-put_early : goal.decreases-put_early
decreases-put_early l = 5 * (length l.self.now.row - l.job.at) + 4

abbrev pub decreases-put_late : goal.decreases-put_late
decreases-put_late l = 5 * (length l.self.now.row - l.job.at) + 4

abbrev pub decreases-put_compared : goal.decreases-put_compared
decreases-put_compared l = 5 * (length l.self.now.row - l.job.at) + 4

abbrev pub decreases-put_joined : goal.decreases-put_joined
decreases-put_joined l = 5 * (length l.self.now.row - l.job.at) + 5
