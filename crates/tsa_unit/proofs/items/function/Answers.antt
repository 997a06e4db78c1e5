use Rattle.std.proofs.Common.{rules, ◌∙◌}
use Rattle.tsa_tree.specs.declarations.Shapes.{head_shape}
use Rattle.tsa_expr.specs.Source.{input, named}
use Rattle.tsa_unit.proofs.FunctionLaws.{unopened_after, bodiless_after}
use Rattle.tsa_unit.proofs.items.function.Goals as goal

pub returns-in_err-inside : goal.returns-in_err-inside
returns-in_err-inside c =
    let failed = unopened_after (input c.args.source.reader) (named c.args.source.reader) c.args.list.now.items (head_shape c.args.head.now) c.args.at _ (λ e. c.in_default.not-Semicolon (c.sign.ensures.is ∙ e)) c.in_err-inside.ensures.gives in
    search rules

pub returns-in_err-body : goal.returns-in_err-body
returns-in_err-body c =
    let failed = bodiless_after (input c.args.source.reader) (named c.args.source.reader) c.args.list.now.items (head_shape c.args.head.now) c.args.at _ _ (λ e. c.in_default.not-Semicolon (c.sign.ensures.is ∙ e)) c.in_ok-inside.ensures.gives c.in_err-body.ensures.gives in
    search rules
