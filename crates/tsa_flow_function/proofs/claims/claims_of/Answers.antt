use Rattle.std.proofs.Common.{◌∙◌, ◌+◌, ◌≤◌, arith, drop, length, sym, ap}
use Rattle.std.proofs.lemmas.List.{drop_all}
use Rattle.tsa_flow_function.specs.Claims.{noted}
use Rattle.tsa_flow_function.proofs.ClaimLists.{none_left, noted_on}
use Rattle.tsa_flow_function.proofs.claims.claims_of.Goals as goal

pub each-preserved : goal.each-preserved
each-preserved c =
    ap (noted (drop (c.each.at + 1) c.args.marks.now.marks)) c.in_ok-note_at.ensures
    ∙ noted_on c.args.marks.now.marks c.each.claims c.each.at (omega (arith, c.each-test.true, c.len-at-end.ensures))
    ∙ c.each.invariant

pub returns : goal.returns
returns c =
    let past : length c.args.marks.now.marks ≤ c.each.at = omega (arith, c.each-test.false, c.len-at-end.ensures) in
    sym (none_left c.each.claims) ∙ (ap (λ es. noted es c.each.claims) (sym (drop_all c.each.at c.args.marks.now.marks past)) ∙ c.each.invariant)
