use Rattle.tsa_tree.proofs.units.Laws.{pieces_begin}
use Rattle.tsa_tree.proofs.laws.first_pieces_begin_units.Goals as goal

pub returns : goal.returns
returns c = pieces_begin
