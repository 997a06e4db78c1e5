use Rattle.std.proofs.Common.{◌∙◌, sym, ap}
use Rattle.std.proofs.Math.Seq.{drop-cons}
use Rattle.std.proofs.lemmas.List.{drop_all}
use Rattle.tsa_tree.specs.types.Runnable.{is_small}
use Rattle.tsa_profile_declarations.proofs.HeadParts.{no_param, param_passes, param_stops}
use Rattle.tsa_profile_declarations.proofs.heads.params_failure.Goals as goal

pub returns-then-not-is_small : goal.returns-then-not-is_small
returns-then-not-is_small c =
    param_stops c.args.scope.now c.args.params.now c.each.param-index _ (drop-cons c.args.params.now c.each.param-index _ c.each-test.true)
    (ap is_small (sym c.in_ok-thing.ensures) ∙ sym c.is_small.ensures ∙ c.if-not-is_small.true)
    ∙ c.each.invariant

pub each-preserved : goal.each-preserved
each-preserved c =
    param_passes c.args.scope.now c.args.params.now c.each.param-index _ (drop-cons c.args.params.now c.each.param-index _ c.each-test.true)
    (ap is_small (sym c.in_ok-thing.ensures) ∙ sym c.is_small.ensures ∙ c.if-not-is_small.false)
    ∙ c.each.invariant

pub returns : goal.returns
returns c = no_param c.args.scope.now c.args.params.now c.each.param-index (drop_all c.each.param-index c.args.params.now c.each-test.false) ∙ c.each.invariant
