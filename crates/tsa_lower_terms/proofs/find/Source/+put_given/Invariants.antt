use Rattle.std.proofs.Common.{length}
use Rattle.tsa_lower_terms.proofs.find.Source.+put_given.Given as goal

abbrev pub decreases-put_given : goal.decreases-put_given
decreases-put_given l = length l.params.now
