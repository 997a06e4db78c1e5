use Rattle.std.proofs.Common.{◌∙◌}
use Rattle.std.proofs.lemmas.Result.{on_ok_weaker}
use Rattle.tsa_tree.specs.declarations.Shapes.{type_shape}
use Rattle.tsa_tree.specs.expressions.Shapes.{name_shape}
use Rattle.tsa_core_environment.proofs.KnownItems.{alias_same}
use Rattle.tsa_core_environment.proofs.items.know_alias.Goals as goal

pub returns : goal.returns
returns c =
    let def = c.args.def.now in
    on_ok_weaker c.know_alias.result (λ h. h ∙ alias_same c.args.scope.now (name_shape def.name) (type_shape def.ctype) def.span c.requires.typed) c.know_alias.ensures
