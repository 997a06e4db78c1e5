use Rattle.std.proofs.Common.{◌≡◌, [], drop}
use Rattle.tsa_tree.specs.attributes.Syntax.{attr_shapes}
use Rattle.tsa_profile_accesses.specs.Premises.{first}
use Rattle.tsa_profile_accesses.specs.NodeAnswers.{view_of}
use Rattle.tsa_profile_declarations.specs.Declarations.{attribute_premises}
use Rattle.tsa_profile_declarations.proofs.EachAttribute.{premises_beside}
use Rattle.tsa_profile_declarations.proofs.attributes.Within.failure.Given as goal

-- nothing fails so far, so the attributes from here on tell, beside what was named
abbrev pub invariant-each : goal.invariant-each
invariant-each l =
    first (premises_beside (view_of l.self.body) l.self.has_body l.self.gives l.before.tries l.before.paths (attr_shapes (drop l.attr-index l.attrs)))
    ≡ first (attribute_premises (view_of l.self.body) l.self.has_body l.self.gives [] [] (attr_shapes l.attrs))
