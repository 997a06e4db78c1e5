use Rattle.std.proofs.Common.{◌∙◌, ◌<◌, ◌↔◌, ℕ, List, length, sym, subst}
use Rattle.tsa_graph.specs.Rows.{AreBlocksOf}
use Rattle.tsa_core.specs.Control.{Edge}
use Rattle.tsa_rules.specs.Cases.{entry_in}
use Rattle.tsa_rules.specs.Points.{edges_of}
use Rattle.tsa_rules.specs.Sets.{Has}
use Rattle.tsa_rules.specs.Walks.{ReachAt, course_of}
use Rattle.tsa_rules.specs.declared.status.Status.{Status}
use Rattle.tsa_flow_solver.specs.Courses.{course_by}
use Rattle.tsa_rules_table.specs.Rows.{rows_in}
use Rattle.tsa_rules_view.specs.Views.{case_in, lock_in}
use Rattle.tsa_rules_view.specs.declared.content.RuleView.{RuleView}
use Rattle.tsa_flow_function.specs.Flows.{AreReachedIn}
use Rattle.tsa_flow_function.specs.Lanes.{cap_of}
use Rattle.tsa_flow_function.proofs.AlikeCourses.{same_statuses}
use Rattle.tsa_flow_function.proofs.Flowing.{both, lane_alike, never_none, within}
use Rattle.tsa_flow_function.proofs.function.FunctionFlow.statuses.Goals as goal

pub returns-in-Some : goal.returns-in-Some
returns-in-Some c u f paths w is less there s =
    let v = c.args.self.now.view in
    let caps = c.args.self.now.paths.caps.items in
    let lane = c.in-Some.lane in
    let at = sym c.lane.ensures ∙ c.in-Some.is in
    let k = course_by (edges_of f) (entry_in (lock_in v (cap_of caps lane))) (λ p. case_in v p (cap_of caps lane)) in
    both (told (edges_of f) (subst (λ n. AreBlocksOf n (edges_of f) c.args.self.now.blocks) (sym is.view.rows) is.blocks) is.flows.reached (subst (λ n. c.args.point < n) (sym is.view.rows) less)
    (within u f paths c.args.self.now is c.args.cap w there lane at) s)
    (same_statuses k (course_of u f w) (lane_alike u f paths c.args.self.now is c.args.cap w there lane at) c.args.point s)
  where
    Told : RuleView → List ℕ → Type 0
    Told v caps = (es : List Edge) → AreBlocksOf (rows_in v.notes.marks) es c.args.self.now.blocks → AreReachedIn es v c.args.self.now.blocks caps c.args.self.now.paths.reached
        → c.args.point < rows_in v.notes.marks → c.in-Some.lane < length caps
        → (s : Status) → Has c.statuses.result s ↔ ReachAt (course_by es (entry_in (lock_in v (cap_of caps c.in-Some.lane))) (λ p. case_in v p (cap_of caps c.in-Some.lane))) c.args.point s

    told : Told c.args.self.now.view c.args.self.now.paths.caps.items
    told = subst (Told c.args.self.now.view) c.lanes.ensures.caps (subst (λ v. Told v c.lanes.result.caps.now) c.lanes.ensures.view c.statuses.ensures)

pub returns-in-None : goal.returns-in-None
returns-in-None c u f paths w is less there s = absurd (never_none u f paths c.args.self.now is c.args.cap w there (sym c.lane.ensures ∙ c.in-None.is))
