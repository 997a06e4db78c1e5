use Rattle.std.proofs.Common.{◌≡◌, take, length, All}
use Rattle.tsa_graph.specs.Placing.{IsPlaced}
use Rattle.tsa_graph.proofs.places.places_of.Given as goal

abbrev pub invariant-each : goal.invariant-each
invariant-each l = record {
  size : length l.places.items ≡ l.points;
  placed : All (λ b. All (IsPlaced l.blocks l.places.items) b.points.items) (take l.number l.blocks);
}
