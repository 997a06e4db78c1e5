use Rattle.std.proofs.Common.{◌≡◌, drop}
use Rattle.tsa_core.specs.Programs.{lock_of}
use Rattle.tsa_tree.specs.attributes.Syntax.{attr_shapes}
use Rattle.tsa_rules_view.proofs.kind.lock_of.Given as goal

abbrev pub invariant-each : goal.invariant-each
invariant-each l = lock_of (attr_shapes (drop l.attr-index l.attrs)) ≡ lock_of (attr_shapes l.attrs)
