use Rattle.std.proofs.Common.{sym}
use Rattle.tsa_flow_solver.specs.Rows.{flags_of}
use Rattle.tsa_flow_solver.proofs.Meeting.{agrees_behind, agrees_here, no_point}
use Rattle.tsa_flow_solver.proofs.sets.Reached.all_agree.Goals as goal

pub returns-then-place-gt0 : goal.returns-then-place-gt0
returns-then-place-gt0 c n es count enters cases lane are reached within less all =
    agrees_behind n es (enters lane) (cases lane) c.args.blocks.now are c.args.point c.in-Some.place (sym c.in-Some.ensures.is) c.if-place-gt0.true

pub returns-else-place-gt0 : goal.returns-else-place-gt0
returns-else-place-gt0 c n es count enters cases lane are reached within less all =
    (agrees_here n es (enters lane) (cases lane) c.args.blocks.now are (flags_of c.args.self.now.joins.agreeing.items lane) (reached.joins lane less).agrees c.args.point c.in-Some.place
    (sym c.in-Some.ensures.is) c.if-place-gt0.false).0 (c.flags_hold.ensures all lane)

pub returns-in-None : goal.returns-in-None
returns-in-None c n es count enters cases lane are reached within less all = absurd (no_point n es (enters lane) (cases lane) c.args.blocks.now are c.args.point within (sym c.in-None.ensures.is))
