use Rattle.tsa_tree.specs.declarations.Shapes.{param_shape, type_shape}
use Rattle.tsa_tree.specs.expressions.Shapes.{name_shape}
use Rattle.tsa_profile_declarations.proofs.HeadParts.{two_attributes}
use Rattle.tsa_profile_declarations.proofs.functions.changes_by.Goals as goal

pub returns-in_default-2 : goal.returns-in_default-2
returns-in_default-2 c =
    two_attributes c.args.scope.now (name_shape c.args.head.now.name) (type_shape c.args.head.now.result) (param_shape c.args.param.now) c.args.head.now.attrs.now c.in_default.len_at_least
