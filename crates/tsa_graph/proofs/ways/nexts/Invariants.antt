use Rattle.std.proofs.Common.{◌≡◌, ℕ, ◌<◌, None, length, get_or}
use Rattle.tsa_graph.specs.Arcs.{next_in}
use Rattle.tsa_graph.proofs.ways.nexts.Given as goal

abbrev pub invariant-each : goal.invariant-each
invariant-each l = record {
  len : length l.ways.items ≡ l.point;
  each : (p : ℕ) → p < l.point → get_or l.ways.items p None ≡ next_in l.arcs.outs.items l.arcs.ins p;
}
