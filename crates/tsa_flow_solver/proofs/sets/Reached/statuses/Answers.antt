use Rattle.std.proofs.Common.{◌≡◌, ◌≤◌, ◌<◌, ◌↔◌, length, refl, sym, subst, [], slice_index_or}
use Rattle.std.proofs.lemmas.Option.{slice_get_read}
use Rattle.tsa_graph.specs.Rows.{last_in}
use Rattle.tsa_rules.specs.Sets.{Has}
use Rattle.tsa_flow_solver.specs.Courses.{Carried}
use Rattle.tsa_flow_solver.specs.Passing.{ArePoints, IsCarried}
use Rattle.tsa_flow_solver.specs.Rows.{lane_of, set_at}
use Rattle.tsa_flow_solver.specs.Stages.{AreStages}
use Rattle.tsa_flow_solver.proofs.Grids.{lane_at}
use Rattle.tsa_flow_solver.proofs.Meeting.{no_point}
use Rattle.tsa_flow_solver.proofs.Settling.{points_of_blocks}
use Rattle.tsa_flow_solver.proofs.Slots.{all_there, one_there}
use Rattle.tsa_flow_solver.proofs.Standing.{exact_at}
use Rattle.tsa_flow_solver.proofs.sets.Reached.statuses.Goals as goal

pub returns-in-Some : goal.returns-in-Some
returns-in-Some g c es are reached within less s =
    exact_at (g.L.Lanes.points c.args.lanes.now) es c.args.blocks.now are (g.L.Lanes.enters c.args.lanes.now c.args.spot.lane) (g.L.Lanes.cases c.args.lanes.now c.args.spot.lane)
    (lane_of c.args.self.now.joins.rows.items c.args.spot.lane) (reached.joins c.args.spot.lane less).sets c.args.spot.point c.in-Some.place c.walk.result (sym c.in-Some.ensures.is) (λ b there far t.
    let lane = c.args.spot.lane in
    let cases = g.L.Lanes.cases c.args.lanes.now lane in
    let rows = lane_of c.args.self.now.joins.rows.items lane in
    let at = c.in-Some.place in
    let block = c.index.result.now in
    let here = slice_get_read c.args.blocks.now.blocks.items (length c.args.blocks.now.blocks.items) at.block block refl c.in-Some.ensures.inside c.index.ensures in
    let same : block ≡ b = one_there c.args.blocks.now.blocks.items at.block block b here there in
    let points = all_there (ArePoints (g.L.Lanes.points c.args.lanes.now)) c.args.blocks.now.blocks.items at.block block (points_of_blocks (g.L.Lanes.points c.args.lanes.now) es c.args.blocks.now are) here in
    let stages = subst (λ x. AreStages cases block x lane (slice_index_or c.args.self.now.stages at.block [])) (sym (lane_at c.args.self.now.joins.rows.items lane at.block)) (reached.stages lane less at.block block here) in
    let begun = c.stand.ensures.set cases block stages in
    let gone = c.walk.ensures (set_at rows at.block) points (subst (λ l. l < g.L.Lanes.count c.args.lanes.now) (sym c.stand.ensures.lane) less) c.stand.ensures.before
    (subst (λ y. at.index ≤ last_in y) (sym same) far) (subst (λ l. IsCarried (g.L.Lanes.cases c.args.lanes.now l) block (set_at rows at.block) c.stand.result.at c.stand.result.set) (sym c.stand.ensures.lane) begun) in
    subst (λ y. Has c.walk.result t ↔ Carried cases y (set_at rows at.block) at.index t) same
    (subst (λ l. Has c.walk.result t ↔ Carried (g.L.Lanes.cases c.args.lanes.now l) block (set_at rows at.block) at.index t) c.stand.ensures.lane (gone t))) s

pub returns-in-None : goal.returns-in-None
returns-in-None g c es are reached within less s =
    absurd (no_point (g.L.Lanes.points c.args.lanes.now) es (g.L.Lanes.enters c.args.lanes.now c.args.spot.lane) (g.L.Lanes.cases c.args.lanes.now c.args.spot.lane) c.args.blocks.now are c.args.spot.point within (sym c.in-None.ensures.is))
