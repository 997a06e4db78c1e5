use Rattle.std.proofs.Common.{take}
use Rattle.tsa_graph.specs.Placing.{ArePut}
use Rattle.tsa_graph.proofs.places.place_block.Given as goal

abbrev pub invariant-each : goal.invariant-each
invariant-each l = ArePut l.number l.block.points.items (take l.index l.block.points.items) l.fn.places.items l.places.items
