use Rattle.std.proofs.Common.{◌≡◌, drop}
use Rattle.tsa_tree.specs.statements.Shapes.{stmt_shapes}
use Rattle.tsa_tree.specs.types.Targets.{labels_behind_all}
use Rattle.tsa_types_simple.proofs.targets.+labelling.Given as goal

abbrev pub invariant-collect_all_labels-each : goal.invariant-collect_all_labels-each
invariant-collect_all_labels-each l =
    labels_behind_all l.labels (stmt_shapes (drop l.stmt-index l.items)) ≡ labels_behind_all l.fn.labels (stmt_shapes l.items)
