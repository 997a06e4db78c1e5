use Rattle.std.proofs.Common.{◌≡◌, drop}
use Rattle.tsa_tree.specs.attributes.Syntax.{attr_shapes}
use Rattle.tsa_tree.specs.types.Runnable.{leaves_all}
use Rattle.tsa_profile_declarations.proofs.functions.leaves_all.Given as goal

abbrev pub invariant-each : goal.invariant-each
invariant-each l = leaves_all (attr_shapes (drop l.attr-index l.attrs)) ≡ leaves_all (attr_shapes l.attrs)
