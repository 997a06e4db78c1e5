use Rattle.std.proofs.Common.{map}
use Rattle.std.proofs.lemmas.Slice.Zip.{either_empty_from_Zip}
use Rattle.std.specs.Iterator.Adapters.{zip_first, zip_second}
use Rattle.std.specs.Slice.Iter.{iter_rest}
use Rattle.tsa_path.specs.Labels.{label}
use Rattle.tsa_warn_text.proofs.LabelEnds.{params_end}
use Rattle.tsa_warn_text.proofs.parameters.param_names.Goals as goal

pub returns : goal.returns
returns c =
    let pairs = c.each.param-iterator in
    params_end c.args.scope.now (map label c.each.names.items) _ (iter_rest (zip_first pairs)) (iter_rest (zip_second pairs))
    (either_empty_from_Zip pairs c.next.new.self c.next.result c.in-None.is c.next.ensures.steps) c.each.invariant
