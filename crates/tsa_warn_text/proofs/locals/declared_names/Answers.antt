use Rattle.std.proofs.Common.{◌∙◌, map}
use Rattle.std.proofs.lemmas.Slice.Zip.{either_empty_from_Zip}
use Rattle.std.specs.Iterator.Adapters.{zip_first, zip_second}
use Rattle.std.specs.Slice.Iter.{iter_rest}
use Rattle.tsa_tree.specs.statements.Shapes.{point_shape}
use Rattle.tsa_path.specs.Labels.{label}
use Rattle.tsa_warn_text.proofs.DeclaredLabels.{by_points}
use Rattle.tsa_warn_text.proofs.LabelEnds.{texts_end}
use Rattle.tsa_warn_text.proofs.locals.declared_names.Goals as goal

pub returns-clause-by : goal.returns-clause-by
returns-clause-by c =
    let pairs = c.each.text-iterator in
    texts_end (λ text. text.now) (map label c.each.names.items) _ (iter_rest (zip_first pairs)) (iter_rest (zip_second pairs))
    (either_empty_from_Zip pairs c.next.new.self c.next.result c.in-None.is c.next.ensures.steps) c.each.invariant

pub returns-clause-are : goal.returns-clause-are
returns-clause-are c = λ here body are. returns-clause-by c ∙ by_points (map point_shape c.args.points.now) c.args.kinds.now here body are
