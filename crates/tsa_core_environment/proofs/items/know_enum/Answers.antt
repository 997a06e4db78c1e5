use Rattle.std.proofs.Common.{◌∙◌, option_map}
use Rattle.std.proofs.lemmas.Result.{on_ok_weaker}
use Rattle.tsa_tree.specs.declarations.Shapes.{enumerator_shapes}
use Rattle.tsa_tree.specs.expressions.Shapes.{name_shape}
use Rattle.tsa_core_environment.proofs.KnownItems.{enum_same}
use Rattle.tsa_core_environment.proofs.items.know_enum.Goals as goal

pub returns : goal.returns
returns c =
    let def = c.args.def.now in
    on_ok_weaker c.know_enum.result
    (λ h. h ∙ enum_same c.args.scope.now (option_map name_shape def.tag) (option_map name_shape def.alias) (enumerator_shapes def.values.now) def.span c.requires.typed)
    c.know_enum.ensures
