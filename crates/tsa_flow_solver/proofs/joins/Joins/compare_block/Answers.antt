use Rattle.std.proofs.Common.{◌<◌, ◌≡◌, ◌∙◌, [], ap, length, arith, refl, sym, subst, true≢false, Some, slice_get}
use Rattle.std.proofs.lemmas.List.{get_or_default}
use Rattle.std.proofs.lemmas.Option.{slice_get_read}
use Rattle.std.proofs.lemmas.Result.{on_ok_weaker}
use Rattle.tsa_graph.specs.declared.sequence.Block.{Block}
use Rattle.tsa_graph.specs.Rows.{last_in}
use Rattle.tsa_flow_solver.specs.Passing.{ArePoints, IsCarried}
use Rattle.tsa_flow_solver.specs.Rows.{flags_of, lane_of, row_at, set_at}
use Rattle.tsa_flow_solver.proofs.Comparing.{block_compared, none_of_it}
use Rattle.tsa_flow_solver.proofs.Grids.{lane_at}
use Rattle.tsa_flow_solver.proofs.Slots.{all_there}
use Rattle.tsa_flow_solver.proofs.joins.Joins.compare_block.Goals as goal

pub returns-clause-flags : goal.returns-clause-flags
returns-clause-flags g c =
    on_ok_weaker c.compare_exits.result (λ compared lane are less.
    block_compared (g.L.Lanes.cases c.args.lanes.now lane) c.args.blocks.now c.args.number (lane_of c.args.self.now.rows.items lane) b
    (record { is_there = there; stands = (c.is_in_place.ensures b there).0 c.if-not-is_in_place.false }) (set_at c.along.new.row lane)
    (subst (λ s. IsCarried (g.L.Lanes.cases c.args.lanes.now lane) b s (last_in b) (set_at c.along.new.row lane)) (ap (λ r. set_at r lane) first ∙ sym (lane_at c.args.self.now.rows.items lane c.args.number))
    (c.along.ensures.each lane (all_there (ArePoints (g.L.Lanes.points c.args.lanes.now)) c.args.blocks.now.blocks.items c.args.number b are there) less))
    (flags_of c.args.self.now.agreeing.items lane) (flags_of c.compare_exits.new.self.agreeing.items lane)
    (compared lane (all_there (ArePoints (g.L.Lanes.points c.args.lanes.now)) c.args.blocks.now.blocks.items c.args.number b are there) less)) c.compare_exits.ensures.flags
  where
    b : Block
    b = c.index-block.result.now

    there : slice_get c.args.blocks.now.blocks.items c.args.number ≡ Some b
    there = slice_get_read c.args.blocks.now.blocks.items (length c.args.blocks.now.blocks.items) c.args.number b refl c.requires.number c.index-block.ensures

    inside : c.args.number < length c.args.self.now.rows.items
    inside = let long = c.requires.sized.many_rows in let within = c.requires.number in omega (arith, long, within)

    first : c.in_ok-last.last ≡ row_at c.args.self.now.rows.items c.args.number
    first = c.in_ok-last.ensures ∙ (c.index.ensures ∙ get_or_default c.args.self.now.rows.items c.args.number c.index.result.now [] inside)

pub returns-then-not-is_in_place-clause-flags : goal.returns-then-not-is_in_place-clause-flags
returns-then-not-is_in_place-clause-flags g c lane are less =
    none_of_it (g.L.Lanes.cases c.args.lanes.now lane) c.args.blocks.now c.args.number (lane_of c.args.self.now.rows.items lane)
    (λ b there stands. true≢false (sym ((c.is_in_place.ensures b there).1 stands) ∙ c.if-not-is_in_place.true)) (flags_of c.args.self.now.agreeing.items lane)
