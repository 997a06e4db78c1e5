use Rattle.std.proofs.Common.{◌∙◌, ap, sym}
use Rattle.tsa_tree.specs.expressions.Shapes.{name_shape, kind_shape}
use Rattle.tsa_tree.specs.expressions.Syntax.{named}
use Rattle.tsa_core.specs.Meanings.{meaning}
use Rattle.tsa_core_points.specs.Stable.{local_number}
use Rattle.tsa_core_points.proofs.LocalNames.{number_of, other_number}
use Rattle.tsa_core_points.proofs.stable.local_of.Goals as goal

pub returns-in-Named : goal.returns-in-Named
returns-in-Named c =
    let here = c.args.scope.now in
    c.local_named.ensures
    ∙ sym (ap (λ k. local_number (meaning here (kind_shape k c.args.expr.now.span)).term) c.in-Named.is
    ∙ number_of here (named (name_shape c.in-Named.name) c.args.expr.now.span))

pub returns-in_default : goal.returns-in_default
returns-in_default c = sym (other_number c.args.scope.now c.args.expr.now.kind c.args.expr.now.span c.in_default.not-Named)
