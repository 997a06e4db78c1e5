use Rattle.tsa_tree.specs.Rows as rows
use Rattle.tsa_tree.specs.expressions.Laws.{call_of}
use Rattle.tsa_tree.proofs.RowsRead.{piece_begins}
use Rattle.tsa_tree.proofs.expressions.RowEquality.{spell_the_same, begin_the_same}
use Rattle.tsa_tree.proofs.laws.first_pieces_begin.Goals as goal

pub returns : goal.returns
returns c = λ tokens aliases fits p d t a b i le le' h.
    (begin_the_same tokens aliases fits p d a i).1
    (piece_begins tokens fits rows.an_expression (call_of aliases p d) t a b i le le' ((spell_the_same tokens aliases fits p d t a b).0 h))
