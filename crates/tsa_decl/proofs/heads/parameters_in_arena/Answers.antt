use Rattle.std.proofs.Common.{ap}
use Rattle.tsa_tree.specs.declarations.Shapes.{param_shapes}
use Rattle.tsa_decl.proofs.ParameterLaws.{new_goes}
use Rattle.tsa_decl.proofs.heads.parameters_in_arena.Goals as goal

pub returns-clause-gives : goal.returns-clause-gives
returns-clause-gives c =
    new_goes _ _ c.args.at c.new-list.result.items _ _ _ c.new-list.ensures.items c.in_ok-next.ensures.gives (ap param_shapes c.listed.ensures)
