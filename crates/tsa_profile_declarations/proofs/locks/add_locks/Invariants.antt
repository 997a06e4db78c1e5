use Rattle.std.proofs.Common.{◌≡◌, ◌++◌, drop}
use Rattle.tsa_core.specs.Programs.{attr_args}
use Rattle.tsa_tree.specs.attributes.Syntax.{attr_shape}
use Rattle.tsa_tree.specs.expressions.Shapes.{shapes}
use Rattle.tsa_place_model.specs.LockPaths.{stable_in}
use Rattle.tsa_profile_declarations.proofs.locks.add_locks.Given as goal

abbrev pub invariant-each : goal.invariant-each
invariant-each l =
    l.locks.items ++ attr_args (stable_in l.sight.stable.now) l.sight.scope.now (attr_shape l.attr) (shapes (drop l.arg-index l.attr.args.now))
    ≡ l.fn.locks.items ++ attr_args (stable_in l.sight.stable.now) l.sight.scope.now (attr_shape l.attr) (shapes l.attr.args.now)
