use Rattle.std.proofs.Common.{◌∙◌, ap, arith}
use Rattle.tsa_tree.specs.expressions.Syntax.{call, height}
use Rattle.tsa_tree.specs.expressions.Shapes.{name_shape, shapes}
use Rattle.tsa_expr.proofs.Rows.{shape-call}
use Rattle.tsa_expr.proofs.source.Reader.call.Goals as goal

pub returns-clause-is : goal.returns-clause-is
returns-clause-is c =
    shape-call c.args.callee c.args.args.items c.over-span.result
    ∙ ap (call (name_shape c.args.callee) (shapes c.args.args.items.now)) c.over-span.ensures

pub invariant_of-result-clause-high : goal.invariant_of-result-clause-high
invariant_of-result-clause-high c = omega (arith, ap height (shape-call c.args.callee c.args.args.items c.over-span.result), c.args.args.high)
