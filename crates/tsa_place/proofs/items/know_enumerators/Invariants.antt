use Rattle.std.proofs.Common.{◌≡◌, pos, drop}
use Rattle.tsa_tree.specs.declarations.Shapes.{enumerator_shapes}
use Rattle.tsa_tree.specs.types.Enums.{next_after}
use Rattle.tsa_place_model.specs.Items.{enumerators_behind}
use Rattle.tsa_place.proofs.items.know_enumerators.Given as goal

abbrev pub invariant-each : goal.invariant-each
invariant-each l = record {
  behind : enumerators_behind l.scope (next_after l.last) (enumerator_shapes (drop l.enumerator-index l.values)) ≡ enumerators_behind l.fn.scope (pos 0) (enumerator_shapes l.values);
}
