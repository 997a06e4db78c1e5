use Rattle.tsa_tree.specs.tokens.Signs.{span_at}
use Rattle.tsa_expr.specs.Source.{input}
use Rattle.tsa_unit_heads.proofs.HeadLaws.{for_opened}
use Rattle.tsa_unit_heads.proofs.text.TextReader.for_head.Goals as goal

pub returns-clause-opened : goal.returns-clause-opened
returns-clause-opened c =
    for_opened (span_at (input c.args.self.reader) c.args.start) _ _ _ _ c.in_ok-init.init.stmt c.in_ok-test.test.tree _ c.in_ok-step.step.stmt _ _
    c.for_parts.ensures.is c.in_ok-init.ensures.pointed c.in_ok-number.ensures.number c.in_ok-number.ensures.pointed c.in_ok-step.ensures.pointed
