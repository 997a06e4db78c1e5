use Rattle.std.proofs.Common.{◌∙◌, sym}
use Rattle.tsa_attr.proofs.Balancing.{fails_deep, balance_deep}
use Rattle.tsa_attr.proofs.balance.+skip_balanced.Goals as goal

pub returns-then-depth-ge-NESTING_LIMIT-clause-gives :
    goal.returns-then-depth-ge-NESTING_LIMIT-clause-gives
returns-then-depth-ge-NESTING_LIMIT-clause-gives t c =
    fails_deep c.refuse.result _ c.tokens.next c.refuse.ensures
    (c.tokens.invariant.1
    ∙ balance_deep _ _ c.args.depth c.args.closer c.tokens.next c.in-Some.inner c.sign-sign.result c.sign-sign.ensures.is
    (sym c.closes.ensures ∙ c.if-closes.false) (sym c.closer_of.ensures ∙ c.in-Some.is) c.if-depth-ge-NESTING_LIMIT.true)
