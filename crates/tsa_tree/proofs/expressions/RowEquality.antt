-- The rows of expressions spell what the productions spell, and the same lists begin them.
use Rattle.std.proofs.Common.{arith}
use Rattle.tsa_tree.specs.expressions.Answers.{an_expression, a_unary}
use Rattle.tsa_tree.specs.expressions.Laws.{SpellTheSame, BeginTheSame}
use Rattle.tsa_tree.proofs.expressions.ToRows.{expression_rows, operand_rows}
use Rattle.tsa_tree.proofs.expressions.RowsToProductions.{production_of}
use Rattle.tsa_tree.proofs.expressions.BeginningsToRows.{expression_begins, operand_begins}
use Rattle.tsa_tree.proofs.expressions.RowsToBeginnings.{beginning_of}

pub spell_the_same : SpellTheSame
spell_the_same tokens aliases fits an_expression depth tree a b =
    ((λ i. expression_rows tokens aliases fits i (omega arith)), (λ sp. production_of tokens fits sp tt))
spell_the_same tokens aliases fits a_unary depth tree a b = ((λ u. operand_rows tokens aliases fits u), (λ sp. production_of tokens fits sp tt))

pub begin_the_same : BeginTheSame
begin_the_same tokens aliases fits an_expression depth a b =
    ((λ i. expression_begins tokens aliases fits i (omega arith)), (λ g. beginning_of tokens fits g tt))
begin_the_same tokens aliases fits a_unary depth a b = ((λ u. operand_begins tokens aliases fits u), (λ g. beginning_of tokens fits g tt))
