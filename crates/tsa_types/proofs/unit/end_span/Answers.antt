use Rattle.std.proofs.Common.{sym}
use Rattle.tsa_types.proofs.UnitLaws.{last_closes}
use Rattle.tsa_types.proofs.unit.end_span.Goals as goal

pub returns-in-Some : goal.returns-in-Some
returns-in-Some c = last_closes c.args.points.now c.in-Some.point.now (sym c.in-Some.ensures.value)
