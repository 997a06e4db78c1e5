use Rattle.std.proofs.Common.{◌∙◌, ap}
use Rattle.tsa_tree.specs.statements.Syntax.{block}
use Rattle.tsa_tree.specs.statements.Shapes.{stmt_shapes}
use Rattle.tsa_unit_statements.proofs.ClosingLaws.{block_shaped, block_pointed}
use Rattle.tsa_unit_statements.proofs.closings.block_of.Goals as goal

pub returns-clause-is : goal.returns-clause-is
returns-clause-is c = ap (λ x. (x, c.args.next)) (block_shaped c.args.items c.over-span.result ∙ ap (block (stmt_shapes c.args.items.now)) c.over-span.ensures)

pub returns-clause-pointed : goal.returns-clause-pointed
returns-clause-pointed c = λ first last h. block_pointed first last c.args.items c.over-span.result h
