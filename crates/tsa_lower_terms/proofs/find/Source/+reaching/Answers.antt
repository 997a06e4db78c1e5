use Rattle.std.proofs.Common.{◌≡◌, ◌∙◌, ℕ, ◌+◌, IfOk, subst, ap, sym}
use Rattle.tsa_core_rows.specs.Reading.{Part, part_at}
use Rattle.tsa_lower_code.specs.Codes.{height}
use Rattle.tsa_lower_terms.specs.Heights.{both_height}
use Rattle.tsa_lower_terms.specs.Sources.{parts_at, sense_at}
use Rattle.tsa_lower_terms.proofs.Heights.{compared_done, joined_height}
use Rattle.tsa_lower_terms.proofs.NodeParts.{second_part}
use Rattle.tsa_lower_terms.proofs.find.Source.+reaching.Goals as goal

pub reach-returns-else-is_comparison-clause-top : goal.reach-returns-else-is_comparison-clause-top
reach-returns-else-is_comparison-clause-top t c =
    let same : height (sense_at c.args.self.now c.args.job.at).term ≡ both_height (parts_at c.args.self.now c.in-Some.spot.behind) =
    joined_height c.args.self.now c.args.job.at c.in-Some.spot c.in-Joined.op c.in-Some.ensures.there c.in-Some.ensures.stands c.in-Joined.is
    (sym c.is_comparison.ensures ∙ c.if-is_comparison.false) in
    subst (λ (n : ℕ). IfOk c.reach_of_both-else-is_comparison.result (λ r. r.top ≡ c.args.job.slot + n)) (sym same) c.reach_of_both-else-is_comparison.ensures.top

pub reach_of_compared-returns-clause-top : goal.reach_of_compared-returns-clause-top
reach_of_compared-returns-clause-top t c =
    let ps = parts_at c.args.self.now c.args.job.at in
    let qs = parts_at c.args.self.now c.in_ok-left.left.end in
    c.max.ensures
    ∙ compared_done (part_at 0 ps) (part_at 1 ps) (part_at 0 qs) c.args.job.slot c.in_ok-slot.slot c.in_ok-left.left.top c.in_ok-right.right.top
    c.in_ok-left_top.left_top c.in_ok-right_top.right_top c.type_at.result c.type_at-2.result c.is_null_beside.result c.is_null_beside-2.result
    (ap (λ (p : Part). p.sense) (second_part ps qs c.in_ok-left.ensures.end)) c.in_ok-slot.ensures c.in_ok-left.ensures.top c.in_ok-right.ensures.top
    c.type_at.ensures c.type_at-2.ensures c.is_null_beside.ensures c.is_null_beside-2.ensures c.in_ok-left_top.ensures c.in_ok-right_top.ensures
