use Rattle.tsa_graph.specs.Noting.{AreExits}
use Rattle.tsa_graph.proofs.exits.exits_of.Given as goal

abbrev pub invariant-each : goal.invariant-each
invariant-each l = AreExits l.blocks l.places l.number l.exits
