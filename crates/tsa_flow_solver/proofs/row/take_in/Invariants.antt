use Rattle.tsa_flow_solver.proofs.Taking.{Taking}
use Rattle.tsa_flow_solver.proofs.row.take_in.Given as goal

-- the first lanes are taken in
abbrev pub invariant-lanes : goal.invariant-lanes
invariant-lanes l = Taking l.fn.sets l.others l.sets l.lane l.grown
