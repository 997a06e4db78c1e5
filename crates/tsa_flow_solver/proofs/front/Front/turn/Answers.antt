use Rattle.std.proofs.Common.{◌<◌, ◌≡◌, ◌∙◌, ap, arith, length, [], refl, sym, subst, Some, slice_get}
use Rattle.std.proofs.lemmas.List.{get_or_default}
use Rattle.std.proofs.lemmas.Option.{slice_get_read}
use Rattle.std.proofs.lemmas.Result.{on_ok_weaker}
use Rattle.tsa_graph.specs.declared.sequence.Block.{Block}
use Rattle.tsa_graph.specs.Rows.{last_in}
use Rattle.tsa_flow_solver.specs.Passing.{ArePoints, IsCarried}
use Rattle.tsa_flow_solver.specs.Rows.{row_at, set_at}
use Rattle.tsa_flow_solver.proofs.Grids.{lane_at}
use Rattle.tsa_flow_solver.proofs.Slots.{all_there}
use Rattle.tsa_flow_solver.proofs.front.Front.turn.Goals as goal

pub returns-clause-turned : goal.returns-clause-turned
returns-clause-turned g c =
    on_ok_weaker c.spread.result (λ out. record {
      paid = out.paid;
      lanes = λ l are less. record {
        block = b;
        is_there = there;
        last = set_at c.along.new.row l;
        gets = subst (λ s. IsCarried (g.L.Lanes.cases c.args.lanes.now l) b s (last_in b) (set_at c.along.new.row l)) (ap (λ r. set_at r l) first ∙ sym (lane_at c.args.self.now.rows.items l c.args.number))
            (c.along.ensures.each l (all_there (ArePoints (g.L.Lanes.points c.args.lanes.now)) c.args.blocks.now.blocks.items c.args.number b are there) less);
        out = out.lanes l (all_there (ArePoints (g.L.Lanes.points c.args.lanes.now)) c.args.blocks.now.blocks.items c.args.number b are there) less;
      };
    }) c.spread.ensures.spread
  where
    b : Block
    b = c.index-block.result.now

    there : slice_get c.args.blocks.now.blocks.items c.args.number ≡ Some b
    there = slice_get_read c.args.blocks.now.blocks.items (length c.args.blocks.now.blocks.items) c.args.number b refl c.requires.number c.index-block.ensures

    inside : c.args.number < length c.args.self.now.rows.items
    inside = let long = c.requires.long in let within = c.requires.number in omega (arith, long, within)

    first : c.in_ok-last.last ≡ row_at c.args.self.now.rows.items c.args.number
    first = c.in_ok-last.ensures ∙ (c.index.ensures ∙ get_or_default c.args.self.now.rows.items c.args.number c.index.result.now [] inside)

pub returns-clause-even : goal.returns-clause-even
returns-clause-even g c =
    on_ok_weaker c.spread.result (λ out l are less. record {
      block = b;
      is_there = there;
      last = set_at c.along.new.row l;
      gets = subst (λ s. IsCarried (g.L.Lanes.cases c.args.lanes.now l) b s (last_in b) (set_at c.along.new.row l)) (ap (λ r. set_at r l) first ∙ sym (lane_at c.args.self.now.rows.items l c.args.number))
          (c.along.ensures.each l (all_there (ArePoints (g.L.Lanes.points c.args.lanes.now)) c.args.blocks.now.blocks.items c.args.number b are there) less);
      out = out l (all_there (ArePoints (g.L.Lanes.points c.args.lanes.now)) c.args.blocks.now.blocks.items c.args.number b are there) less;
    }) c.spread.ensures.even
  where
    b : Block
    b = c.index-block.result.now

    there : slice_get c.args.blocks.now.blocks.items c.args.number ≡ Some b
    there = slice_get_read c.args.blocks.now.blocks.items (length c.args.blocks.now.blocks.items) c.args.number b refl c.requires.number c.index-block.ensures

    inside : c.args.number < length c.args.self.now.rows.items
    inside = let long = c.requires.long in let within = c.requires.number in omega (arith, long, within)

    first : c.in_ok-last.last ≡ row_at c.args.self.now.rows.items c.args.number
    first = c.in_ok-last.ensures ∙ (c.index.ensures ∙ get_or_default c.args.self.now.rows.items c.args.number c.index.result.now [] inside)
