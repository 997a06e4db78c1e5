use Rattle.std.proofs.Common.{◌∙◌, length, ap}
use Rattle.std.proofs.lemmas.Result.{IfOk-weaker}
use Rattle.tsa_tree.specs.declarations.Shapes.{head_shape}
use Rattle.tsa_tree.specs.types.Scopes.{found}
use Rattle.tsa_tree.specs.units.Shapes.{item_shapes}
use Rattle.tsa_core_environment.specs.Bodies.{stable_or}
use Rattle.tsa_core_environment.proofs.BodyLists.{stable_is}
use Rattle.tsa_core_environment.proofs.bodies.Bodies.stable.Goals as goal

pub returns : goal.returns
returns c =
    let b = c.args.self.now in
    let head = head_shape c.args.head.now in
    IfOk-weaker c.get.result _ _ (λ stable h. h ∙ ap (λ n. stable_or n (found b.table head.name.text)) c.params_count.ensures ∙ stable_is head.name.text b.table (item_shapes b.items.now) b.kept (length head.params)) c.get.ensures
