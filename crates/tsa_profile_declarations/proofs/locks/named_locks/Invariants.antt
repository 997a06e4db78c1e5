use Rattle.std.proofs.Common.{◌≡◌, ◌++◌, drop}
use Rattle.tsa_core.specs.Programs.{attrs_of}
use Rattle.tsa_tree.specs.attributes.Syntax.{attr_shapes}
use Rattle.tsa_place_model.specs.LockPaths.{stable_in}
use Rattle.tsa_profile_declarations.proofs.locks.named_locks.Given as goal

abbrev pub invariant-each : goal.invariant-each
invariant-each l =
    l.locks.items ++ attrs_of (stable_in l.sight.stable.now) l.sight.scope.now (attr_shapes (drop l.attr-index l.attrs))
    ≡ attrs_of (stable_in l.sight.stable.now) l.sight.scope.now (attr_shapes l.attrs)
