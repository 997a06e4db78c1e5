use Rattle.tsa_flow_function.specs.Lanes.{AreIdle}
use Rattle.tsa_flow_function.proofs.Assigning.{AreGathered}
use Rattle.tsa_flow_function.proofs.table.lane_table.Given as goal

-- the first paths have their lanes
abbrev pub invariant-each : goal.invariant-each
invariant-each l = AreIdle l.view l.claims → AreGathered l.view l.table l.cap
