use Rattle.std.proofs.Common.{ap}
use Rattle.tsa_tree.specs.declarations.Shapes.{enumerator_shapes}
use Rattle.tsa_decl.proofs.EnumeratorLaws.{body_goes}
use Rattle.tsa_decl.proofs.constants.enum_body.Goals as goal

pub returns-clause-gives : goal.returns-clause-gives
returns-clause-gives c =
    body_goes _ _ c.args.at c.in_ok-inside.inside c.new-list.result.items _ _ _ c.in_ok-inside.ensures.gives c.in_ok-inside.ensures.ends.0
    c.new-list.ensures.items c.in_ok-next.ensures.gives (ap enumerator_shapes c.listed-list.ensures)
