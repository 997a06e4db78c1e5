use Rattle.std.proofs.Common.{◌≡◌, ◌++◌, map}
use Rattle.std.specs.Iterator.Adapters.{zip_first, zip_second}
use Rattle.std.specs.Slice.Iter.{iter_rest}
use Rattle.tsa_path.specs.Labels.{label}
use Rattle.tsa_rules.specs.Legends.{param_labels}
use Rattle.tsa_tree.specs.declarations.Shapes.{param_shapes}
use Rattle.tsa_warn_text.proofs.parameters.param_names.Given as goal

-- the labels so far with those of the parameters that are left are all of them
abbrev pub invariant-each : goal.invariant-each
invariant-each l =
    map label l.names.items
    ++ param_labels l.scope (param_shapes (iter_rest (zip_first l.param-iterator))) (param_shapes (iter_rest (zip_second l.param-iterator)))
    ≡ param_labels l.scope (param_shapes l.in_body) (param_shapes l.first)
