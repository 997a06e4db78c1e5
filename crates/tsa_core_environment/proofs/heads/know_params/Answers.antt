use Rattle.std.proofs.Common.{◌∙◌, sym}
use Rattle.std.proofs.Math.Seq.{drop-cons}
use Rattle.std.proofs.lemmas.List.{drop_all}
use Rattle.tsa_core_environment.proofs.KnownHeads.{params_end, param_free, told_next, inside_next}
use Rattle.tsa_core_environment.proofs.heads.know_params.Goals as goal

pub each-preserved : goal.each-preserved
each-preserved c =
    let params = c.args.params.now in
    let i = c.each.param-index in
    let at_i = drop-cons params i _ c.each-test.true in
    let known = c.in_ok-know_param.ensures (param_free params i c.each.scope c.each.number _ at_i c.each.invariant.typed) in
    record {
      typed = told_next params i c.each.scope c.each.number _ at_i c.each.invariant.typed c.know_param.new.scope c.in_ok-number.number known c.in_ok-number.ensures;
      behind =
          inside_next params i c.each.scope c.each.number _ at_i c.each.invariant.typed c.know_param.new.scope c.in_ok-number.number known c.in_ok-number.ensures ∙ c.each.invariant.behind;
    }

pub returns : goal.returns
returns c =
    sym (params_end c.args.params.now c.each.param-index c.each.scope c.each.number (drop_all c.each.param-index c.args.params.now c.each-test.false)) ∙ c.each.invariant.behind
