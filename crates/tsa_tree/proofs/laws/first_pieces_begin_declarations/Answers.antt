use Rattle.tsa_tree.proofs.declarations.Laws.{pieces_begin}
use Rattle.tsa_tree.proofs.laws.first_pieces_begin_declarations.Goals as goal

pub returns : goal.returns
returns c = pieces_begin
