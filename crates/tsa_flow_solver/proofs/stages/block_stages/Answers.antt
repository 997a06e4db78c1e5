use Rattle.std.proofs.Common.{◌∙◌, ◌<◌, ap, arith, length, subst, sym}
use Rattle.tsa_graph.specs.Rows.{last_in}
use Rattle.tsa_flow_solver.specs.Passing.{IsCarried}
use Rattle.tsa_flow_solver.specs.Rows.{set_at}
use Rattle.tsa_flow_solver.specs.Stages.{AreStages}
use Rattle.tsa_flow_solver.proofs.Carrying.{carried_first, carried_on, no_stages, stages_on}
use Rattle.tsa_flow_solver.proofs.stages.block_stages.Goals as goal

pub places-init : goal.places-init
places-init g c = record {
  long = ap length c.in_ok-row.ensures;
  each = λ lane are less. subst (λ r. IsCarried (g.L.Lanes.cases c.args.lanes.now lane) c.args.block.now (set_at c.args.from.now lane) 0 (set_at r lane)) (sym c.in_ok-row.ensures)
      (carried_first (g.L.Lanes.cases c.args.lanes.now lane) c.args.block.now (set_at c.args.from.now lane));
  stages = λ lane are less. subst (AreStages (g.L.Lanes.cases c.args.lanes.now lane) c.args.block.now (set_at c.args.from.now lane) lane) (sym c.new-stages.ensures.items)
      (no_stages (g.L.Lanes.cases c.args.lanes.now lane) c.args.block.now (set_at c.args.from.now lane) lane);
}

pub places-preserved : goal.places-preserved
places-preserved g c =
    let inside : c.places.index < last_in c.args.block.now = omega (arith, c.places-test.true, c.len-index-end.ensures, c.args.block.now.inner.ok.0, c.places.auto.index-end) in
    record {
      long = c.step.ensures.long ∙ c.places.invariant.long;
      each = λ lane are less.
          carried_on (g.L.Lanes.cases c.args.lanes.now lane) c.args.block.now (set_at c.args.from.now lane) (set_at c.places.row lane) (set_at c.step.new.row lane) c.places.index
          (c.places.invariant.each lane are less) (c.step.ensures.each lane (are c.places.index (omega (arith, inside))) less);
      stages = λ lane are less.
          stages_on (g.L.Lanes.cases c.args.lanes.now lane) c.args.block.now (set_at c.args.from.now lane) lane c.places.index c.places.row c.places.stages.items c.note.new.stages.items inside
          (c.places.invariant.each lane are less) (c.places.invariant.stages lane are less) c.in_ok-note.ensures;
    }
