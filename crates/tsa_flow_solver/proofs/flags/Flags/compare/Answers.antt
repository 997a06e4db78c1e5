use Rattle.std.proofs.Common.{◌∙◌, ◌≡◌, ◌<◌, ℕ, ◌^◌, false, ap, arith, length, length-set, get_or-set_same, get_or-set_other, subst, true}
use Rattle.tsa_rules.specs.Sets.{Has}
use Rattle.tsa_flow_solver.specs.Agreeing.{Differs, goes, IsAlike, IsLaneCompared, stays}
use Rattle.tsa_flow_solver.specs.Rows.{flag_at, set_at}
use Rattle.tsa_flow_solver.proofs.EdgeComparisons.{apart_differs, lanes_done, lanes_rest}
use Rattle.tsa_flow_solver.proofs.flags.Flags.compare.Goals as goal
use Rattle.tsa_flow_solver.proofs.flags.Flags.compare.Goals.{then-differs, else-differs}

pub lanes-preserved : goal.lanes-preserved
lanes-preserved c = record {
  long = long ∙ c.lanes.invariant.long;
  done = lanes_done c.args.set.now c.args.brought.now c.args.self.now c.lanes.self c.if-differs.self c.lanes.lane c.lanes.invariant.done c.lanes.invariant.rest elsewhere here;
  rest = lanes_rest c.args.set.now c.args.brought.now c.args.self.now c.lanes.self c.if-differs.self c.lanes.lane c.lanes.invariant.done c.lanes.invariant.rest elsewhere here;
}
  where
    inside : c.lanes.lane < length c.lanes.self
    inside = let wide = c.requires in let same = c.lanes.invariant.long in omega (arith, wide, same, c.lanes-test.true)

    long : length c.if-differs.self ≡ length c.lanes.self
    long = elim c.if-differs.branch [ then-differs w ↦ ap length (w.self-is ∙ w.lose.ensures) ∙ length-set c.lanes.self c.lanes.lane false | else-differs w ↦ ap length w.self-is ]

    elsewhere : (l : ℕ) → (l ≡ c.lanes.lane → ⊥) → flag_at c.if-differs.self l ≡ flag_at c.lanes.self l
    elsewhere l other = elim c.if-differs.branch [
      | then-differs w ↦ ap (λ r. flag_at r l) (w.self-is ∙ w.lose.ensures) ∙ get_or-set_other c.lanes.self c.lanes.lane l false true other
      | else-differs w ↦ ap (λ r. flag_at r l) w.self-is
    ]

    fits : c.at-mine.result.bits < 2 ^ 64
    fits = omega arith

    fits' : c.at-all.result.bits < 2 ^ 64
    fits' = omega arith

    here : IsLaneCompared (set_at c.args.set.now c.lanes.lane) (set_at c.args.brought.now c.lanes.lane) (flag_at c.args.self.now c.lanes.lane) (flag_at c.if-differs.self c.lanes.lane)
    here = elim c.if-differs.branch [
      | then-differs w ↦ goes
          (subst (λ s. Differs (set_at c.args.brought.now c.lanes.lane) (Has s)) c.at-mine.ensures (subst (λ s. Differs s (Has c.at-mine.result)) c.at-all.ensures (apart_differs c.at-mine.result c.at-all.result fits fits' (c.differs.ensures.yes w.if-differs.true))))
          (ap (λ r. flag_at r c.lanes.lane) (w.self-is ∙ w.lose.ensures) ∙ get_or-set_same c.lanes.self c.lanes.lane false true inside)
      | else-differs w ↦ stays (subst (λ s. IsAlike s (set_at c.args.brought.now c.lanes.lane)) c.at-mine.ensures (subst (IsAlike c.at-mine.result) c.at-all.ensures (c.differs.ensures.no w.if-differs.false)))
          (ap (λ r. flag_at r c.lanes.lane) w.self-is ∙ c.lanes.invariant.rest c.lanes.lane (omega arith))
    ]
