use Rattle.std.proofs.Common.{◌∙◌, ◌<◌, subst, sym}
use Rattle.tsa_flow_solver.specs.Agreeing.{AreArrivalsCompared}
use Rattle.tsa_flow_solver.specs.Rows.{flags_of, lane_of, set_at}
use Rattle.tsa_flow_solver.proofs.Comparing.{entered_at, not_entered_at_all}
use Rattle.tsa_flow_solver.proofs.joins.Joins.compare_entry.Goals as goal
use Rattle.tsa_flow_solver.proofs.joins.Joins.compare_entry.Goals.{in-Some, in_default}

pub returns-clause-flags : goal.returns-clause-flags
returns-clause-flags g c lane less =
    let entry = g.L.Lanes.enters c.args.lanes.now lane in
    let cases = g.L.Lanes.cases c.args.lanes.now lane in
    let rows = lane_of c.args.self.now.rows.items lane in
    let old = flags_of c.args.self.now.agreeing.items lane in
    elim c.match-place_of.branch [
      | in-Some w ↦ subst (λ f. AreArrivalsCompared entry cases c.args.blocks.now 0 rows old (flags_of f.agreeing.items lane)) (sym w.self-is)
          (entered_at entry cases c.args.blocks.now rows w.in-Some.place (sym w.in-Some.ensures.is) (set_at c.in_ok-set.set lane) (c.in_ok-set.ensures.only lane less) old
          (flags_of w.compare.new.self.agreeing.items lane) (w.compare.ensures.flags lane (subst (λ n. lane < n) (sym w.count.ensures) less)))
      | in_default w ↦ subst (λ f. AreArrivalsCompared entry cases c.args.blocks.now 0 rows old (flags_of f.agreeing.items lane)) (sym w.self-is)
          (not_entered_at_all entry cases c.args.blocks.now rows (sym c.place_of.ensures.is ∙ w.in_default.is) old)
    ]
