use Rattle.std.proofs.Common.{◌≡◌, ℕ, Bool, List, length, subst, sym, refl, true}
use Rattle.tsa_flow_solver.specs.Courses.{course_by}
use Rattle.tsa_flow_solver.specs.Joining.{AreJoined}
use Rattle.tsa_flow_solver.specs.Rows.{flag_at, flags_of, lane_of}
use Rattle.tsa_flow_solver.proofs.Complete.{exact_first}
use Rattle.tsa_flow_solver.proofs.Evenly.{even_compared}
use Rattle.tsa_flow_solver.proofs.Meeting.{all_joined}
use Rattle.tsa_flow_solver.proofs.Settling.{points_of_blocks}
use Rattle.tsa_flow_solver.proofs.joins.join.Goals as goal

pub returns-then-front-clause-joined : goal.returns-then-front-clause-joined
returns-then-front-clause-joined g c es lane are less =
    let n = g.L.Lanes.points c.args.lanes.now in
    let entry = g.L.Lanes.enters c.args.lanes.now lane in
    let cases = g.L.Lanes.cases c.args.lanes.now lane in
    let blocks = c.args.blocks.now in
    let rows = lane_of c.settle.new.self.rows.items lane in
    let begun = c.in_ok-front.ensures.begun lane less in
    let flags = flags_of c.new-then-front.result.items lane in
    let all : (i : ℕ) → flag_at flags i ≡ true = subst (λ (xs : List (List Bool)). (i : ℕ) → flag_at (flags_of xs lane) i ≡ true) (sym c.new-then-front.ensures.items) (λ i. refl) in
    let exact = exact_first n es entry cases blocks rows are (c.in_ok-settle.ensures.closed es lane are less)
    (λ at e. c.in_ok-settle.ensures.more es lane are less at.block entry (begun.begins at e)) (c.in_ok-settle.ensures.sound es lane are less) in
    all_joined n es entry cases blocks are rows exact flags flags all (even_compared entry cases blocks rows (length blocks.blocks.items) flags (c.in_ok-settle.ensures.even es lane are less c.if-front.true))

pub returns-clause-joined : goal.returns-clause-joined
returns-clause-joined g c es lane are less =
    let n = g.L.Lanes.points c.args.lanes.now in
    let entry = g.L.Lanes.enters c.args.lanes.now lane in
    let cases = g.L.Lanes.cases c.args.lanes.now lane in
    let blocks = c.args.blocks.now in
    let grid = c.settle.new.self.rows.items in
    let begun = c.in_ok-front.ensures.begun lane less in
    let exact = exact_first n es entry cases blocks (lane_of grid lane) are (c.in_ok-settle.ensures.closed es lane are less)
    (λ at e. c.in_ok-settle.ensures.more es lane are less at.block entry (begun.begins at e)) (c.in_ok-settle.ensures.sound es lane are less) in
    subst (λ xs. AreJoined (course_by es entry cases) blocks (lane_of xs lane) (flags_of c.compare_all.new.self.agreeing.items lane)) (sym c.in_ok-compare_all.ensures.rows)
    (all_joined n es entry cases blocks are (lane_of grid lane) exact (flags_of c.compare_all.new.self.agreeing.items lane) (flags_of c.in_ok-agreeing.agreeing.items lane) (c.in_ok-agreeing.ensures.all lane)
    (c.in_ok-compare_all.ensures.flags lane (points_of_blocks n es blocks are) less))
