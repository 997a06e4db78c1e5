use Rattle.std.proofs.Common.{◌∙◌, sym}
use Rattle.std.proofs.lemmas.Option.{slice_get_past}
use Rattle.tsa_types.proofs.FunctionLaws.{none_known}
use Rattle.tsa_types.proofs.functions.same_params.Goals as goal

pub returns-in-None : goal.returns-in-None
returns-in-None c =
    sym (none_known c.args.view.scope.now c.args.known.now c.each.number c.args.params.now c.each.param-index c.each-test.true
    (slice_get_past c.args.known.now c.each.number c.in-None.ensures.lookup.3))
    ∙ c.each.invariant.same
