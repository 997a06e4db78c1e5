use Rattle.std.proofs.Common.{◌∙◌, sym}
use Rattle.std.proofs.Math.Seq.{drop-cons}
use Rattle.std.proofs.lemmas.List.{drop_all}
use Rattle.std.proofs.lemmas.Result.{err_from_is_err_and}
use Rattle.tsa_types_declarations.proofs.Judging.{judges_err}
use Rattle.tsa_types.proofs.ParamLists.{params_end, params_stop, params_next, known_end, known_next, noted_end, noted_next}
use Rattle.tsa_types.proofs.heads.declare_params.Goals as goal

pub returns-in_err-declare_param-clause-judged : goal.returns-in_err-declare_param-clause-judged
returns-in_err-declare_param-clause-judged c =
    let p = err_from_is_err_and c.from_residual.result c.from_residual.ensures.1 in
    rw (p.1, p.2)
    (judges_err _ _ c.in_err-declare_param.field-0.0 c.each.invariant.judged
    (params_stop c.args.params.now c.each.param-index c.each.scope c.each.number _ (drop-cons c.args.params.now c.each.param-index _ c.each-test.true)
    c.in_err-declare_param.field-0.0 c.in_err-declare_param.ensures.judged))

pub each-preserved : goal.each-preserved
each-preserved c =
    let one = c.in_ok-declare_param.ensures in
    let count = c.in_ok-number.ensures in
    let at_i = drop-cons c.args.params.now c.each.param-index _ c.each-test.true in
    record {
      judged =
          params_next c.args.params.now c.each.param-index c.each.scope c.each.number _ at_i c.declare_param.new.scope c.in_ok-number.number one.behind count one.judged
          ∙ c.each.invariant.judged;
      behind =
          known_next c.args.params.now c.each.param-index c.each.scope c.each.number _ at_i c.declare_param.new.scope c.in_ok-number.number one.behind count
          ∙ c.each.invariant.behind;
      nodes =
          noted_next c.args.params.now c.each.param-index c.each.scope c.each.number _ at_i c.declare_param.new.scope c.in_ok-number.number one.behind count c.args.function
          c.each.row c.declare_param.new.row one.nodes
          ∙ c.each.invariant.nodes;
    }

pub returns-clause-judged : goal.returns-clause-judged
returns-clause-judged c =
    sym c.each.invariant.judged
    ∙ params_end c.args.params.now c.each.param-index c.each.scope c.each.number (drop_all c.each.param-index c.args.params.now c.each-test.false)

pub returns-clause-behind : goal.returns-clause-behind
returns-clause-behind c =
    sym (known_end c.args.params.now c.each.param-index c.each.scope c.each.number (drop_all c.each.param-index c.args.params.now c.each-test.false)) ∙ c.each.invariant.behind

pub returns-clause-nodes : goal.returns-clause-nodes
returns-clause-nodes c =
    sym (noted_end c.args.params.now c.each.param-index c.each.scope c.each.number c.args.function c.each.row
    (drop_all c.each.param-index c.args.params.now c.each-test.false))
    ∙ c.each.invariant.nodes
