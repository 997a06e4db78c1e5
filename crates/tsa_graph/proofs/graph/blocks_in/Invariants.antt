use Rattle.std.proofs.Common.{take}
use Rattle.tsa_graph.specs.BlocksOfRuns.{AreMade}
use Rattle.tsa_graph.proofs.graph.blocks_in.Given as goal

abbrev pub invariant-each : goal.invariant-each
invariant-each l = AreMade l.ins l.blocks.items (take l.number l.runs)
