use Rattle.tsa_profile_context.proofs.Sequences.{alone_fails, alone_holds}
use Rattle.tsa_profile_items.proofs.bodies.limit.Goals as goal

pub returns-then-passes : goal.returns-then-passes
returns-then-passes c = alone_fails c.args.code c.args.name c.args.passes c.if-passes.true

pub returns-else-passes : goal.returns-else-passes
returns-else-passes c = alone_holds c.args.code c.args.name c.args.passes c.if-passes.false
