use Rattle.std.proofs.Common.{◌∙◌, ◌≡◌, ◌≤◌, arith, refl, subst}
use Rattle.tsa_graph.specs.Rows.{last_in}
use Rattle.tsa_flow_solver.specs.Passing.{IsCarried}
use Rattle.tsa_flow_solver.specs.Rows.{set_at}
use Rattle.tsa_flow_solver.proofs.Carrying.{carried_first, carried_on}
use Rattle.tsa_flow_solver.proofs.passing.along.Goals as goal

pub places-init : goal.places-init
places-init g c = record {
  long = refl;
  each = λ lane are less. carried_first (g.L.Lanes.cases c.args.lanes.now lane) c.args.block.now (set_at c.args.row.now lane);
}

pub places-preserved : goal.places-preserved
places-preserved g c =
    let low : c.places.index ≤ last_in c.args.block.now = omega (arith, c.places-test.true, c.len-index-end.ensures, c.args.block.now.inner.ok.0, c.places.auto.index-end) in
    record {
      long = c.step.ensures.long ∙ c.places.invariant.long;
      each = λ lane are less.
          carried_on (g.L.Lanes.cases c.args.lanes.now lane) c.args.block.now (set_at c.args.row.now lane) (set_at c.places.row lane) (set_at c.step.new.row lane) c.places.index
          (c.places.invariant.each lane are less) (c.step.ensures.each lane (are c.places.index low) less);
    }

pub returns-clause-each : goal.returns-clause-each
returns-clause-each g c lane are less =
    let all : c.places.index ≡ last_in c.args.block.now = omega (arith, c.places-test.false, c.places.auto.index-end, c.len-index-end.ensures, c.args.block.now.inner.ok.0) in
    subst (λ n. IsCarried (g.L.Lanes.cases c.args.lanes.now lane) c.args.block.now (set_at c.args.row.now lane) n (set_at c.places.row lane)) all (c.places.invariant.each lane are less)
