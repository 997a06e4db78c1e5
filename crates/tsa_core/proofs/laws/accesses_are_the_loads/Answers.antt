use Rattle.tsa_core.proofs.UsesOfCells.{uses_are_of_cells, points_load_cells, points_load_just}
use Rattle.tsa_core.proofs.laws.accesses_are_the_loads.Goals as goal

pub returns-clause-cells : goal.returns-clause-cells
returns-clause-cells c = uses_are_of_cells

pub returns-clause-loads : goal.returns-clause-loads
returns-clause-loads c = points_load_cells

pub returns-clause-just : goal.returns-clause-just
returns-clause-just c = points_load_just
