use Rattle.std.proofs.Common.{◌≡◌, drop}
use Rattle.tsa_tree.specs.statements.Shapes.{stmt_shapes}
use Rattle.tsa_tree.specs.types.Targets.{default_in_all}
use Rattle.tsa_types_simple.proofs.targets.+defaulting.Given as goal

abbrev pub invariant-first_of_defaults-each : goal.invariant-first_of_defaults-each
invariant-first_of_defaults-each l = default_in_all (stmt_shapes (drop l.stmt-index l.items)) ≡ default_in_all (stmt_shapes l.items)
