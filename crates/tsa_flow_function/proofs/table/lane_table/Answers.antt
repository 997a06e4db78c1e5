use Rattle.std.proofs.Common.{◌∙◌, ◌≡◌, ◌<◌, ap, arith, length, subst, sym}
use Rattle.tsa_rules.specs.Cases.{entry_in}
use Rattle.tsa_flow_function.proofs.Assigning.{all_gathered, AreGathered, none_gathered, one_more}
use Rattle.tsa_flow_function.proofs.table.lane_table.Goals as goal

pub each-init : goal.each-init
each-init c idle = none_gathered c.args.view.now c.new-table.result c.new-table.ensures.caps c.new-table.ensures.numbers c.new-table.ensures.idle

pub each-preserved : goal.each-preserved
each-preserved c idle =
    let inside : c.each.cap < length c.args.view.now.numbers = omega (arith, c.each-test.true, c.each.auto.cap-end, c.caps-cap-end.ensures) in
    one_more c.args.view.now c.each.cap c.at.result.now c.entry.result c.each.table c.add.new.self (c.entry.ensures.by ∙ ap entry_in c.lock.ensures) (λ none. idle c.each.cap inside (sym c.at.ensures ∙ none))
    (c.each.invariant idle) c.in_ok-add.ensures

pub returns : goal.returns
returns c idle =
    let all : c.each.cap ≡ length c.args.view.now.numbers = omega (arith, c.each-test.false, c.each.auto.cap-end, c.caps-cap-end.ensures) in
    all_gathered c.args.view.now c.each.table (subst (AreGathered c.args.view.now c.each.table) all (c.each.invariant idle))
