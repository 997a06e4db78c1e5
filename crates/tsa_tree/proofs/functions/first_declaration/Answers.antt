use Rattle.std.proofs.Common.{rules, ◌∙◌, sym}
use Rattle.tsa_tree.proofs.units.FunctionLaws.{first_other, first_left}
use Rattle.tsa_tree.proofs.functions.first_declaration.Goals as goal

pub items-preserved-in_default : goal.items-preserved-in_default
items-preserved-in_default c =
    c.items.invariant
    ∙ first_other c.args.items.now c.items.at c.index-items-at.result c.items.left c.items-test.true
    (λ f e. c.in_default.not-Function f (c.index-items-at.is ∙ e))

pub items-preserved : goal.items-preserved
items-preserved c =
    c.items.invariant
    ∙ first_left c.args.items.now c.items.at c.index-items-at.result c.in-Function.function c.items.left c.items-test.true
    (sym c.index-items-at.is ∙ c.in-Function.is) (search rules) (search rules)
