use Rattle.tsa_tree.proofs.units.SpansLie.{spans_lie_in_text}
use Rattle.tsa_tree.proofs.laws.spans_lie_in_text.Goals as goal

pub returns : goal.returns
returns c = spans_lie_in_text
