use Rattle.std.proofs.Common.{◌∙◌, ◌≡◌, ◌<◌, ◌+◌, ◌++◌, ◌∷◌, [], ℕ, List, ap, arith, length, length-append, refl, subst, sym, Some}
use Rattle.std.proofs.Common.{slice_get, slice_index_or}
use Rattle.std.proofs.Math.Decide.{ℕ_discrete}
use Rattle.std.proofs.Math.Seq.{get_or-append_seam}
use Rattle.std.proofs.lemmas.List.{get_or_append_left, get_or_default}
use Rattle.std.proofs.lemmas.Option.{slice_get_read, slice_get_within}
use Rattle.tsa_graph.specs.declared.sequence.Block.{Block}
use Rattle.tsa_rules.specs.declared.statuses.Statuses.{Statuses}
use Rattle.tsa_flow_solver.specs.Rows.{row_at, set_at}
use Rattle.tsa_flow_solver.specs.Stages.{AreStages}
use Rattle.tsa_flow_solver.proofs.Slots.{all_there, one_there}
use Rattle.tsa_flow_solver.specs.Passing.{ArePoints}
use Rattle.tsa_flow_solver.proofs.stages.stages_of.Goals as goal

pub each-init : goal.each-init
each-init g c = record {
  long = ap length c.new-stages.ensures;
  staged = λ lane are less k b low. absurd (omega (arith, low));
}

pub each-preserved : goal.each-preserved
each-preserved g c = record {
  long = ap length c.in_ok-add.ensures ∙ (length-append c.each.stages (new ∷ []) ∙ ap (λ n. n + 1) c.each.invariant.long);
  staged = λ lane are less k b low at. elim (ℕ_discrete k c.each.number) [
    | yes e ↦ subst (λ n. AreStages (g.L.Lanes.cases c.args.lanes.now lane) b (set_at (row_at c.args.rows.now n) lane) lane (slice_index_or c.add.new.self n [])) (sym e)
        (subst (AreStages (g.L.Lanes.cases c.args.lanes.now lane) b (set_at (row_at c.args.rows.now c.each.number) lane) lane) (sym last)
        (subst (λ y. AreStages (g.L.Lanes.cases c.args.lanes.now lane) y (set_at (row_at c.args.rows.now c.each.number) lane) lane new) (same b (subst (λ n. slice_get c.args.blocks.now.blocks.items n ≡ Some b) e at))
        (subst (λ r. AreStages (g.L.Lanes.cases c.args.lanes.now lane) block (set_at r lane) lane new) row_is
        (c.in_ok-block_stages.ensures lane (all_there (ArePoints (g.L.Lanes.points c.args.lanes.now)) c.args.blocks.now.blocks.items c.each.number block are there) less))))
    | no other ↦ subst (AreStages (g.L.Lanes.cases c.args.lanes.now lane) b (set_at (row_at c.args.rows.now k) lane) lane) (sym (kept k (omega (arith, low, other))))
        (c.each.invariant.staged lane are less k b (omega (arith, low, other)) at)
  ];
}
  where
    new : List (List Statuses)
    new = c.in_ok-block_stages.field-0.items

    block : Block
    block = c.index-block.result.now

    within : c.each.number < length c.args.blocks.now.blocks.items
    within = omega (arith, c.each-test.true, c.len-number-end.ensures, c.args.blocks.now.blocks.ok.0, c.each.auto.number-end)

    there : slice_get c.args.blocks.now.blocks.items c.each.number ≡ Some block
    there = slice_get_read c.args.blocks.now.blocks.items (length c.args.blocks.now.blocks.items) c.each.number block refl within c.index-block.ensures

    same : (b : Block) → slice_get c.args.blocks.now.blocks.items c.each.number ≡ Some b → block ≡ b
    same b at = one_there c.args.blocks.now.blocks.items c.each.number block b there at

    row_is : c.index-rows-number.result ≡ row_at c.args.rows.now c.each.number
    row_is = c.index-rows-number.is ∙ get_or_default c.args.rows.now c.each.number c.index-rows-number.result [] (subst (λ n. c.each.number < n) (sym c.requires.long) within)

    last : slice_index_or c.add.new.self c.each.number [] ≡ new
    last = ap (λ xs. slice_index_or xs c.each.number []) c.in_ok-add.ensures ∙ subst (λ n. slice_index_or (c.each.stages ++ new ∷ []) n [] ≡ new) c.each.invariant.long (get_or-append_seam c.each.stages new [] [])

    kept : (k : ℕ) → k < c.each.number → slice_index_or c.add.new.self k [] ≡ slice_index_or c.each.stages k []
    kept k low = ap (λ xs. slice_index_or xs k []) c.in_ok-add.ensures ∙ get_or_append_left c.each.stages (new ∷ []) [] k (subst (λ n. k < n) (sym c.each.invariant.long) low)

pub returns : goal.returns
returns g c lane are less k b at =
    let within = slice_get_within c.args.blocks.now.blocks.items k b at in
    c.each.invariant.staged lane are less k b (omega (arith, within, c.each-test.false, c.len-number-end.ensures, c.args.blocks.now.blocks.ok.0, c.each.auto.number-end)) at
