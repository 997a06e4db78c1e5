use Rattle.std.proofs.Common.{take}
use Rattle.tsa_graph.specs.Noting.{AreNoted}
use Rattle.tsa_graph.proofs.exits.note_into.Given as goal

abbrev pub invariant-each : goal.invariant-each
invariant-each l = AreNoted l.places (take l.edge-index l.into) l.to l.fn.exits l.exits
