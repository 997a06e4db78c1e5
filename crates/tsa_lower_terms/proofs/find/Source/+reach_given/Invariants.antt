use Rattle.std.proofs.Common.{length}
use Rattle.tsa_lower_terms.proofs.find.Source.+reach_given.Given as goal

abbrev pub decreases-reach_given : goal.decreases-reach_given
decreases-reach_given l = length l.params.now
