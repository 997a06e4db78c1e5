use Rattle.std.proofs.Common.{◌∙◌, length, sym}
use Rattle.tsa_rules.specs.Cases.{entry_in}
use Rattle.tsa_rules.specs.Points.{edges_of, points_of}
use Rattle.tsa_rules.specs.Walks.{course_of}
use Rattle.tsa_flow_solver.specs.Courses.{course_by}
use Rattle.tsa_rules_view.specs.Views.{case_in, lock_in}
use Rattle.tsa_flow_function.specs.Lanes.{cap_of}
use Rattle.tsa_flow_function.proofs.AlikeCourses.{disagree_on, same_agreement}
use Rattle.tsa_flow_function.proofs.Flowing.{both, lane_alike, never_none, within}
use Rattle.tsa_flow_function.proofs.function.FunctionFlow.agree.Goals as goal

pub returns-in-Some-clause-is : goal.returns-in-Some-clause-is
returns-in-Some-clause-is c u f paths w is less there =
    let v = c.args.self.now.view in
    let caps = c.args.self.now.paths.caps.items in
    let lane = c.in-Some.lane in
    let at = sym c.lane.ensures ∙ c.in-Some.is in
    let k = course_by (edges_of f) (entry_in (lock_in v (cap_of caps lane))) (λ p. case_in v p (cap_of caps lane)) in
    both (c.agree.ensures.is (length (points_of f)) (edges_of f) (length caps) (λ l. entry_in (lock_in v (cap_of caps l))) (λ l p. case_in v p (cap_of caps l)) is.blocks is.flows.reached less
    (within u f paths c.args.self.now is c.args.cap w there lane at))
    (same_agreement k (course_of u f w) (lane_alike u f paths c.args.self.now is c.args.cap w there lane at) c.args.point)

pub returns-in-Some-clause-differ : goal.returns-in-Some-clause-differ
returns-in-Some-clause-differ c u f paths w is less there differ =
    let v = c.args.self.now.view in
    let caps = c.args.self.now.paths.caps.items in
    let lane = c.in-Some.lane in
    let at = sym c.lane.ensures ∙ c.in-Some.is in
    let k = course_by (edges_of f) (entry_in (lock_in v (cap_of caps lane))) (λ p. case_in v p (cap_of caps lane)) in
    disagree_on k (course_of u f w) (lane_alike u f paths c.args.self.now is c.args.cap w there lane at) c.args.point
    (c.agree.ensures.differ (length (points_of f)) (edges_of f) (length caps) (λ l. entry_in (lock_in v (cap_of caps l))) (λ l p. case_in v p (cap_of caps l)) is.blocks is.flows.reached less
    (within u f paths c.args.self.now is c.args.cap w there lane at) differ)

pub returns-in-None-clause-is : goal.returns-in-None-clause-is
returns-in-None-clause-is c u f paths w is less there = absurd (never_none u f paths c.args.self.now is c.args.cap w there (sym c.lane.ensures ∙ c.in-None.is))

pub returns-in-None-clause-differ : goal.returns-in-None-clause-differ
returns-in-None-clause-differ c u f paths w is less there differ = absurd (never_none u f paths c.args.self.now is c.args.cap w there (sym c.lane.ensures ∙ c.in-None.is))
