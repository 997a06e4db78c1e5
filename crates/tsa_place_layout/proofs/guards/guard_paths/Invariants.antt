use Rattle.std.proofs.Common.{◌≡◌, ◌++◌, drop}
use Rattle.tsa_tree.specs.attributes.Syntax.{attr_shapes}
use Rattle.tsa_place_model.specs.Parts.{guard_ways}
use Rattle.tsa_place_layout.proofs.guards.guard_paths.Given as goal

abbrev pub invariant-each : goal.invariant-each
invariant-each l = l.paths.items ++ guard_ways l.fn.scope (attr_shapes (drop l.attr-index l.attrs)) ≡ guard_ways l.fn.scope (attr_shapes l.attrs)
