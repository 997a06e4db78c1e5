use Rattle.std.proofs.Common.{◌∙◌}
use Rattle.tsa_tree.specs.units.Shapes.{item_shapes}
use Rattle.tsa_core_environment.proofs.BodyLists.{has_body_is}
use Rattle.tsa_core_environment.proofs.bodies.Bodies.has_body.Goals as goal

pub returns : goal.returns
returns c = c.has.ensures ∙ has_body_is c.args.name.now c.args.self.now.table (item_shapes c.args.self.now.items.now) c.args.self.now.kept
