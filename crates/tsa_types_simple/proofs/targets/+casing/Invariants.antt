use Rattle.std.proofs.Common.{◌≡◌, drop}
use Rattle.tsa_tree.specs.statements.Shapes.{stmt_shapes}
use Rattle.tsa_tree.specs.types.DeclaredTypes.{value_in}
use Rattle.tsa_tree.specs.types.Scopes.{context_of}
use Rattle.tsa_tree.specs.types.Targets.{cases_behind_all}
use Rattle.tsa_types_simple.proofs.targets.+casing.Given as goal

abbrev pub invariant-collect_all_cases-each : goal.invariant-collect_all_cases-each
invariant-collect_all_cases-each l =
    cases_behind_all (value_in (context_of l.view.scope.now)) l.cases (stmt_shapes (drop l.stmt-index l.items))
    ≡ cases_behind_all (value_in (context_of l.view.scope.now)) l.fn.cases (stmt_shapes l.items)
