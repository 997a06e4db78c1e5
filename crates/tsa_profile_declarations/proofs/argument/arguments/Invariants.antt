use Rattle.std.proofs.Common.{◌≡◌, drop}
use Rattle.tsa_tree.specs.expressions.Shapes.{shapes}
use Rattle.tsa_profile_accesses.specs.Premises.{first}
use Rattle.tsa_profile_accesses.specs.NodeAnswers.{view_of}
use Rattle.tsa_profile_declarations.specs.Declarations.{attribute_arguments, ways_behind}
use Rattle.tsa_profile_declarations.proofs.argument.arguments.Given as goal

-- nothing fails so far, so the arguments from here on tell, beside the paths that were named
abbrev pub invariant-each : goal.invariant-each
invariant-each l = record {
  fails : first (attribute_arguments (view_of l.body) l.kind l.paths (shapes (drop l.arg-index l.args))) ≡ first (attribute_arguments (view_of l.body) l.kind l.fn.paths (shapes l.args));
  named : ways_behind (view_of l.body) l.kind l.paths (shapes (drop l.arg-index l.args)) ≡ ways_behind (view_of l.body) l.kind l.fn.paths (shapes l.args);
}
