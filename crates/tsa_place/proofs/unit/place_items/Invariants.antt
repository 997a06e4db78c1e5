use Rattle.std.proofs.Common.{◌≡◌, drop, length}
use Rattle.tsa_tree.specs.units.Shapes.{item_shapes}
use Rattle.tsa_place_model.specs.Units.{placed_behind}
use Rattle.tsa_place.proofs.unit.place_items.Given as goal

abbrev pub invariant-each : goal.invariant-each
invariant-each l = record {
  same : length l.scope.structs ≡ length l.globals.structs;
  found : placed_behind l.scope l.globals (item_shapes (drop l.item-index l.items)) ≡ placed_behind l.fn.scope l.fn.globals (item_shapes l.items);
}
