-- The laws of the grammar of statements.
use Rattle.std.proofs.Common.{ap, length, arith}
use Rattle.tsa_tree.specs.declared.sign.Keyword.TheVariants as key
use Rattle.tsa_tree.specs.Rows.{a_statement, statement, is_keyword}
use Rattle.tsa_tree.specs.statements.Laws.{SpellTheSame, OneStatement, PiecesBegin}
use Rattle.tsa_tree.proofs.statements.BlocksToRows.{statement_rows}
use Rattle.tsa_tree.proofs.expressions.OneTree.{ends_there}
use Rattle.tsa_tree.proofs.RowsRead.{one_reading, piece_begins}
use Rattle.tsa_tree.proofs.declarations.RowsToProductions.{declaration_of}
use Rattle.tsa_grammar.specs.Reading.{all}

pub spell_the_same : SpellTheSame
spell_the_same tokens aliases fits d x a b = ((λ i. statement_rows tokens aliases fits i), (λ sp. declaration_of tokens fits sp))

pub one_statement : OneStatement
one_statement tokens aliases d x y a i j =
    let over = ap (is_keyword key.Else) (ends_there tokens aliases (length tokens) (omega arith)) in
    one_reading tokens a_statement (statement aliases d) x y a (length tokens)
    (statement_rows tokens aliases all i) (statement_rows tokens aliases all j) (λ q. over) (λ q. over)

pub pieces_begin : PiecesBegin
pieces_begin tokens aliases fits d x a b i le le' h =
    piece_begins tokens fits a_statement (statement aliases d) x a b i le le' (statement_rows tokens aliases fits h)
