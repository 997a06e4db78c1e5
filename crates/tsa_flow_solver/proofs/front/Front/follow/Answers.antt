use Rattle.tsa_flow_solver.proofs.Evenly.{both}
use Rattle.std.proofs.lemmas.Result.{on_ok_weaker}
use Rattle.tsa_flow_solver.proofs.front.Front.follow.Goals as goal

pub returns-then-last : goal.returns-then-last
returns-then-last g c = on_ok_weaker c.take_in.result (λ h. record {
  row = c.args.last.row.now;
  left = λ l are less. c.requires.stays c.if-last.true l c.args.exit.outcome are less;
  taken = h.0;
  even = h.1;
}) (both _ _ c.take_in.result c.take_in.ensures.taken c.take_in.ensures.even)
