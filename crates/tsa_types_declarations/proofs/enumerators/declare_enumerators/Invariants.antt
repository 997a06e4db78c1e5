use Rattle.std.proofs.Common.{◌≡◌, drop, pos}
use Rattle.tsa_tree.specs.declarations.Shapes.{enumerator_shapes}
use Rattle.tsa_tree.specs.types.Enums.{next_after, enumerator_premises, behind_enumerators}
use Rattle.tsa_tree.specs.types.Premises.{first}
use Rattle.tsa_types_row.specs.ItemRows.{row_in_enumerators}
use Rattle.tsa_types_expressions.proofs.RowLaws.{noted}
use Rattle.tsa_types_declarations.proofs.enumerators.declare_enumerators.Given as goal

-- what is left to judge is what decides, and what is known behind it is what is known behind all
abbrev pub invariant-each : goal.invariant-each
invariant-each l = record {
  judged : first (enumerator_premises l.scope (next_after l.last) (enumerator_shapes (drop l.enumerator-index l.values)))
      ≡ first (enumerator_premises l.fn.scope (pos 0) (enumerator_shapes l.values));
  behind : behind_enumerators l.scope (next_after l.last) (enumerator_shapes (drop l.enumerator-index l.values))
      ≡ behind_enumerators l.fn.scope (pos 0) (enumerator_shapes l.values);
  nodes : noted l.row (row_in_enumerators l.scope (next_after l.last) (enumerator_shapes (drop l.enumerator-index l.values)))
      ≡ noted l.fn.row (row_in_enumerators l.fn.scope (pos 0) (enumerator_shapes l.values));
}
