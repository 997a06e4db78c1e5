use Rattle.tsa_base.specs.Places.{AreStarts}
use Rattle.tsa_base.proofs.places.line_starts.Given as goal

abbrev pub invariant-bytes : goal.invariant-bytes
invariant-bytes l = AreStarts l.bytes l.at l.starts.items
