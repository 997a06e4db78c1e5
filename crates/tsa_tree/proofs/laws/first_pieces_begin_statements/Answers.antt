use Rattle.tsa_tree.proofs.statements.Laws.{pieces_begin}
use Rattle.tsa_tree.proofs.laws.first_pieces_begin_statements.Goals as goal

pub returns : goal.returns
returns c = pieces_begin
