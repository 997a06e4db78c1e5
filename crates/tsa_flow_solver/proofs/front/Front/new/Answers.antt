use Rattle.std.proofs.Common.{◌∙◌, ◌<◌, ap, length, subst, sym, if◌then◌else◌, [], ◌∷◌, ◌++◌}
use Rattle.tsa_flow_solver.specs.Rows.{lane_of}
use Rattle.tsa_flow_solver.specs.Turns.{HaveBegun}
use Rattle.tsa_flow_solver.proofs.Begun.{begun_none, begun_some}
use Rattle.tsa_flow_solver.proofs.Grids.{lane_long, row_long}
use Rattle.tsa_flow_solver.proofs.front.Front.new.Goals as goal
use Rattle.tsa_flow_solver.proofs.front.Front.new.Goals.{in-Some+in_ok-entry+in_ok-take_in, in_default}

pub returns-clause-begun : goal.returns-clause-begun
returns-clause-begun g c lane less =
    let long = c.in_ok-empty_rows.ensures.long in
    let none = c.in_ok-empty_rows.ensures.none in
    let grid = c.in_ok-empty_rows.field-0.items in
    elim c.match-place_of.branch [
      | in-Some+in_ok-entry+in_ok-take_in w ↦ (
          let at = w.in-Some.place in
          let h = w.in_ok-take_in.ensures.taken in
          let inside : at.block < length grid = subst (λ n. at.block < n) (sym long) w.in-Some.ensures.inside in
          subst (λ f. HaveBegun (g.L.Lanes.enters c.args.lanes.now lane) c.args.blocks.now (lane_of f.rows.items lane) f.work.items) (sym w.front-is)
          (begun_some (g.L.Lanes.enters c.args.lanes.now lane) c.args.blocks.now grid lane none at (sym w.in-Some.ensures.is) (subst (λ n. at.block < n) (sym (lane_long grid lane)) inside) w.in_ok-entry.entry h.taken
          (subst (λ n. lane < n) (sym (row_long c.count.result grid at.block c.in_ok-empty_rows.ensures.wide inside ∙ c.count.ensures)) less) (w.in_ok-entry.ensures.only lane less) h.grown h.is
          w.take_in.new.self.rows.items w.take_in.new.self.work.items h.rows (h.waits ∙ ap (λ xs. if h.grown then xs ++ at.block ∷ [] else xs) c.new.ensures.items)))
      | in_default w ↦ subst (λ f. HaveBegun (g.L.Lanes.enters c.args.lanes.now lane) c.args.blocks.now (lane_of f.rows.items lane) f.work.items) (sym w.front-is)
          (begun_none (g.L.Lanes.enters c.args.lanes.now lane) c.args.blocks.now grid lane none (sym c.place_of.ensures.is ∙ w.in_default.is) c.new.result.items)
    ]
