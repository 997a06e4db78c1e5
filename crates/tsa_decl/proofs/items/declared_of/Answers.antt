use Rattle.tsa_tree.specs.declarations.Shapes.{base_shape}
use Rattle.tsa_decl_declarators.specs.Readings.{row_type}
use Rattle.tsa_decl.proofs.BegunLaws.{leads_same}
use Rattle.tsa_decl.proofs.ItemLaws.{declared_of_same}
use Rattle.tsa_decl.proofs.items.declared_of.Goals as goal

pub returns-clause-leads : goal.returns-clause-leads
returns-clause-leads c =
    λ bodies.
    leads_same _ _ _ _ _
    (declared_of_same _ _ bodies c.args.list.now.items (base_shape c.args.base) c.args.at (row_type c.specified_at-specified.result)
    c.specified_at-specified.result.next c.specified_at-specified.ensures.is)
    (c.globals_or_head.ensures.leads bodies)
