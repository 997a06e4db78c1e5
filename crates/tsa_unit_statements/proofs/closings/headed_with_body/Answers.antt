use Rattle.tsa_expr.specs.Source.{input}
use Rattle.std.proofs.Common.{◌∙◌, ap}
use Rattle.tsa_tree.specs.tokens.Signs.{span_at}
use Rattle.tsa_unit_heads.specs.Heads.{ended}
use Rattle.tsa_unit_statements.proofs.ClosingLaws.{ended_pointed, ended_shaped, over_from}
use Rattle.tsa_unit_statements.proofs.closings.headed_with_body.Goals as goal

pub returns-clause-is : goal.returns-clause-is
returns-clause-is c =
    ap (λ x. (x, c.args.body.next))
    (ended_shaped c.args.head c.args.body.stmt c.over-span.result _ c.ended_with.ensures
    ∙ ap (ended c.args.head _) c.over-span.ensures)

pub returns-clause-pointed : goal.returns-clause-pointed
returns-clause-pointed c = λ first middle last o k.
    ended_pointed first middle last c.args.head c.args.body.stmt (span_at (input c.args.reader) c.args.start) c.over-span.result _
    (over_from _ _ _ c.over-span.result c.over-span.ensures) c.ended_with.ensures o k
