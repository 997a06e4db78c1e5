use Rattle.std.proofs.Common.{◌∙◌, Err, refl, ap, subst}
use Rattle.tsa_expr.specs.Gives.{IsOfExpressions}
use Rattle.tsa_tree.specs.expressions.Shapes.{shape}
use Rattle.tsa_tree.specs.tokens.Signs.{lexemes}
use Rattle.tsa_tool_starts.proofs.WholeWords.{at_all, not_all, refused}
use Rattle.tsa_tool_starts.proofs.expression.whole.Goals as goal

pub returns-then-next-tokens-clause-whole : goal.returns-then-next-tokens-clause-whole
returns-then-next-tokens-clause-whole c = at_all c.args.tokens.now (shape c.in-Ok.expr) c.in-Ok.next c.if-next-tokens.true c.in-Ok.ensures.found

pub returns-else-next-tokens-clause-none : goal.returns-else-next-tokens-clause-none
returns-else-next-tokens-clause-none c = λ none e h. not_all c.args.tokens.now (shape c.in-Ok.expr) e c.in-Ok.next c.if-next-tokens.false c.in-Ok.ensures.found h

pub returns-in-Err-At-clause-none : goal.returns-in-Err-At-clause-none
returns-in-Err-At-clause-none c = λ none e h.
    let w = c.in-Err-At in
    refused (lexemes c.args.tokens.now) w.field-0-0 w.field-0-1 (subst IsOfExpressions w.field-0-is (w.ensures.no_other w.field-0 refl))
    (λ i same. w.ensures.broken i (ap Err (w.field-0-is ∙ same))) (λ i same. w.ensures.too_deep i (ap Err (w.field-0-is ∙ same))) e h

pub returns-in-Err-Function-clause-none : goal.returns-in-Err-Function-clause-none
returns-in-Err-Function-clause-none c = λ none e h. absurd (subst IsOfExpressions c.in-Err-Function.field-0-is (c.in-Err-Function.ensures.no_other c.in-Err-Function.field-0 refl))
