use Rattle.std.proofs.Common.{◌∙◌}
use Rattle.tsa_flow_solver.proofs.Grids.{flag_in}
use Rattle.tsa_flow_solver.proofs.edges.all_agreeing.Goals as goal

pub returns-clause-all : goal.returns-clause-all
returns-clause-all c k b = flag_in c.each.grid.items k b ∙ c.each.invariant.all k b
