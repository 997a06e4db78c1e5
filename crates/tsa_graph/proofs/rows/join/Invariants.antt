use Rattle.std.proofs.Common.{◌≡◌, length}
use Rattle.tsa_graph.proofs.Joins.{Follows}
use Rattle.tsa_graph.proofs.rows.join.Given as goal

abbrev pub invariant-each : goal.invariant-each
invariant-each l = record {
  size : length l.exits ≡ length l.blocks.items;
  joined : Follows l.fn.blocks.items l.blocks.items l.fn.exits l.exits l.rows.items;
}

abbrev pub decreases-each : goal.decreases-each
decreases-each l = length l.blocks.items
