use Rattle.std.proofs.Common.{◌≡◌, drop}
use Rattle.tsa_tree.specs.attributes.Syntax.{attr_shapes}
use Rattle.tsa_profile_accesses.specs.Premises.{first}
use Rattle.tsa_profile_accesses.specs.NodeAnswers.{view_of}
use Rattle.tsa_profile_declarations.specs.Declarations.{guard_premises}
use Rattle.tsa_profile_declarations.proofs.attributes.guards_failure.Given as goal

abbrev pub invariant-each : goal.invariant-each
invariant-each l = first (guard_premises (view_of l.body) (attr_shapes (drop l.attr-index l.attrs))) ≡ first (guard_premises (view_of l.body) (attr_shapes l.attrs))
