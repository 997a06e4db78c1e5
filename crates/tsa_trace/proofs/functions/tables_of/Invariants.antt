use Rattle.std.proofs.Common.{◌≡◌, [], drop}
use Rattle.tsa_tree.specs.units.Shapes.{HaveTheirPoints, item_shapes}
use Rattle.tsa_trace.specs.Tables.{bodies_behind, functions_behind}
use Rattle.tsa_trace.proofs.functions.tables_of.Given as goal

abbrev pub invariant-each : goal.invariant-each
invariant-each l = record {
  points : HaveTheirPoints (drop l.item-index l.items);
  functions : functions_behind (item_shapes (drop l.item-index l.items)) l.tables.functions ≡ functions_behind (item_shapes l.items) [];
  bodies : bodies_behind (item_shapes (drop l.item-index l.items)) l.tables.bodies ≡ bodies_behind (item_shapes l.items) [];
}
