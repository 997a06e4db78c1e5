use mir.Syntax.{w32}
use mir.Val.{to_z, of_z}
use Rattle.std.proofs.Common.{◌≡◌, ◌∙◌, rules, sym}
use Rattle.std.proofs.Math.Seq.{drop-cons}
use Rattle.std.proofs.lemmas.List.{drop_all}
use Rattle.std.proofs.lemmas.Result.{err_from_is_err_and}
use Rattle.tsa_tree.specs.types.Enums.{next_after}
use Rattle.tsa_types_declarations.proofs.EnumLists.{enums_end, enums_stop, enums_next, known_end, known_next, noted_end, noted_next}
use Rattle.tsa_types_declarations.proofs.Judging.{judges_err}
use Rattle.tsa_types_declarations.proofs.enumerators.declare_enumerators.Goals as goal

pub returns-in_err-declare_enumerator-clause-judged : goal.returns-in_err-declare_enumerator-clause-judged
returns-in_err-declare_enumerator-clause-judged c =
    let p = err_from_is_err_and c.from_residual.result c.from_residual.ensures.1 in
    rw (p.1, p.2)
    (judges_err _ _ c.in_err-declare_enumerator.field-0.0 c.each.invariant.judged
    (enums_stop c.args.values.now c.each.enumerator-index c.each.scope (next_after c.each.last) _ (drop-cons c.args.values.now c.each.enumerator-index _ c.each-test.true)
    c.in_err-declare_enumerator.field-0.0 c.in_err-declare_enumerator.ensures.judged))

pub each-preserved : goal.each-preserved
each-preserved c =
    let z = c.in_ok-declare_enumerator.field-0 in
    let same : to_z w32 (of_z w32 z) ≡ z = search rules in
    let one = c.in_ok-declare_enumerator.ensures in
    let at_i = drop-cons c.args.values.now c.each.enumerator-index _ c.each-test.true in
    let next = next_after c.each.last in
    record {
      judged =
          enums_next c.args.values.now c.each.enumerator-index c.each.scope next _ at_i c.declare_enumerator.new.scope z _ one.worth one.behind same one.judged
          ∙ c.each.invariant.judged;
      behind =
          known_next c.args.values.now c.each.enumerator-index c.each.scope next _ at_i c.declare_enumerator.new.scope z _ one.worth one.behind same
          ∙ c.each.invariant.behind;
      nodes =
          noted_next c.args.values.now c.each.enumerator-index c.each.scope next _ at_i c.declare_enumerator.new.scope z _ one.worth one.behind same
          c.each.row c.declare_enumerator.new.row one.nodes
          ∙ c.each.invariant.nodes;
    }

pub returns-clause-judged : goal.returns-clause-judged
returns-clause-judged c =
    sym c.each.invariant.judged
    ∙ enums_end c.args.values.now c.each.enumerator-index c.each.scope (next_after c.each.last) (drop_all c.each.enumerator-index c.args.values.now c.each-test.false)

pub returns-clause-behind : goal.returns-clause-behind
returns-clause-behind c =
    sym (known_end c.args.values.now c.each.enumerator-index c.each.scope (next_after c.each.last) (drop_all c.each.enumerator-index c.args.values.now c.each-test.false))
    ∙ c.each.invariant.behind

pub returns-clause-nodes : goal.returns-clause-nodes
returns-clause-nodes c =
    sym (noted_end c.args.values.now c.each.enumerator-index c.each.scope (next_after c.each.last) c.each.row
    (drop_all c.each.enumerator-index c.args.values.now c.each-test.false))
    ∙ c.each.invariant.nodes
