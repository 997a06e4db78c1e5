use Rattle.std.proofs.Common.{◌≡◌, drop}
use Rattle.tsa_tree.specs.attributes.Syntax.{attr_shapes}
use Rattle.tsa_tree.specs.declared.premise.Bearer.TheVariants as on
use Rattle.tsa_tree.specs.types.Attributes.{attributes_premises, attributes_beside}
use Rattle.tsa_tree.specs.types.Premises.{or_else, first}
use Rattle.tsa_types_declarations.proofs.structs.beside_failure.Given as goal

-- what failed first so far, or does in the further ones, is what fails first in all of them
abbrev pub invariant-each : goal.invariant-each
invariant-each l = or_else l.failure (first (attributes_premises l.view.scope.now on.Structure (attributes_beside l.before l.place (attr_shapes (drop l.attr-index l.attrs)))))
    ≡ first (attributes_premises l.view.scope.now on.Structure (attributes_beside l.before l.place (attr_shapes l.attrs)))
