use Rattle.tsa_tree.specs.attributes.Syntax.{attr_shapes}
use Rattle.tsa_tree.specs.declarations.Shapes.{type_shape}
use Rattle.tsa_tree.specs.expressions.Shapes.{name_shape}
use Rattle.tsa_profile_declarations.proofs.HeadParts.{two_params}
use Rattle.tsa_profile_declarations.proofs.functions.is_lock_function.Goals as goal

pub returns-in_default-2 : goal.returns-in_default-2
returns-in_default-2 c =
    two_params c.args.scope.now (name_shape c.args.head.now.name) (type_shape c.args.head.now.result) c.args.head.now.params.now (attr_shapes c.args.head.now.attrs.now) c.in_default.len_at_least
