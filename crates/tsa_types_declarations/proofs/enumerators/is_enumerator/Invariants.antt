use Rattle.std.proofs.Common.{◌≡◌, drop}
use Rattle.tsa_tree.specs.declarations.Shapes.{enumerator_shapes}
use Rattle.tsa_tree.specs.types.Enums.{is_enumerator}
use Rattle.tsa_types_declarations.proofs.enumerators.is_enumerator.Given as goal

abbrev pub invariant-each : goal.invariant-each
invariant-each l = is_enumerator l.name (enumerator_shapes (drop l.value-index l.values)) ≡ is_enumerator l.name (enumerator_shapes l.values)
