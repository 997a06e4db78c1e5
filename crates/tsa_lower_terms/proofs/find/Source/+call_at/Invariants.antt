use Rattle.std.proofs.Common.{◌-◌, length}
use Rattle.tsa_lower_terms.proofs.find.Source.+call_at.Given as goal

abbrev pub decreases-call_at : goal.decreases-call_at
decreases-call_at l = length l.self.now.row - l.at
