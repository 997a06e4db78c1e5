use Rattle.tsa_tree.specs.declarations.Shapes.{base_shape}
use Rattle.tsa_expr.proofs.Answering.{gives_same}
use Rattle.tsa_decl_declarators.specs.Readings.{row_type}
use Rattle.tsa_decl.proofs.ItemLaws.{alias_of_same}
use Rattle.tsa_decl.proofs.items.alias_of.Goals as goal

pub returns-clause-gives : goal.returns-clause-gives
returns-clause-gives c =
    gives_same _ _ _ _
    (alias_of_same _ _ c.args.list.now.items (base_shape c.args.base) c.args.at (row_type c.specified_at-specified.result) c.specified_at-specified.result.next
    c.specified_at-specified.ensures.is)
    c.plain_alias.ensures.gives
