use Rattle.std.proofs.Common.{◌≡◌, ◌≤◌, ◌<◌, ◌+◌, arith, subst, sym}
use Rattle.tsa_graph.specs.Rows.{last_in}
use Rattle.tsa_flow_solver.specs.Passing.{IsCarried}
use Rattle.tsa_flow_solver.proofs.Carrying.{carried_on, step_of}
use Rattle.tsa_flow_solver.proofs.sets.walk.Goals as goal
use Rattle.tsa_flow_solver.proofs.sets.walk.Goals.{then-index-len, else-index-len}

pub places-preserved : goal.places-preserved
places-preserved g c first are less far from =
    let b = c.args.block.now in
    let cases = g.L.Lanes.cases c.args.lanes.now c.args.from.lane in
    let i = c.places.index in
    elim c.if-index-len.branch [
      | then-index-len w ↦
          let low : i ≤ last_in b = omega (arith, w.if-index-len.true, c.len.ensures, b.inner.ok.0) in
          subst (IsCarried cases b first (i + 1)) (sym w.set-is)
          (carried_on cases b first c.places.set w.step_in-set.result i (c.places.invariant first are less far from)
          (step_of cases b i w.pass_at.result.point w.pass_at.result.outcome c.places.set w.step_in-set.result w.pass_at.ensures.point w.pass_at.ensures.outcome
          (w.step_in-set.ensures (subst (λ p. p < g.L.Lanes.points c.args.lanes.now) (sym w.pass_at.ensures.point) (are i low)) less)))
      | else-index-len w ↦ absurd (omega (arith, w.if-index-len.false, c.len.ensures, b.inner.ok.0, c.places-test.true, far))
    ]

pub returns : goal.returns
returns g c first are less near far from =
    let b = c.args.block.now in
    let end : c.places.index ≡ c.args.to = omega (arith, near, c.places-test.false, c.places.auto.index-end near) in
    subst (λ n. IsCarried (g.L.Lanes.cases c.args.lanes.now c.args.from.lane) b first n c.places.set) end (c.places.invariant first are less far from)
