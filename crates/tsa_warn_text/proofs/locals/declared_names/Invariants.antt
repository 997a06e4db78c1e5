use Rattle.std.proofs.Common.{◌≡◌, ◌++◌, map}
use Rattle.std.specs.Iterator.Adapters.{zip_first, zip_second}
use Rattle.std.specs.Slice.Iter.{iter_rest}
use Rattle.tsa_path.specs.Labels.{label}
use Rattle.tsa_tree.specs.statements.Shapes.{point_shape}
use Rattle.tsa_warn_text.specs.DeclaredNames.{declared_texts, labels_with}
use Rattle.tsa_warn_text.proofs.locals.declared_names.Given as goal

-- the labels so far with those of the names that are left are all of them
abbrev pub invariant-each : goal.invariant-each
invariant-each l =
    map label l.names.items ++ labels_with (map (λ text. text.now) (iter_rest (zip_first l.text-iterator))) (iter_rest (zip_second l.text-iterator))
    ≡ labels_with (declared_texts (map point_shape l.fn.points)) l.kinds
