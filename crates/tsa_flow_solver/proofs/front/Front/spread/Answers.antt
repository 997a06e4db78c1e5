use Rattle.std.proofs.Common.{◌<◌, arith, get_or, length, subst}
use Rattle.std.proofs.lemmas.List.Elements.{All-get_or}
use Rattle.tsa_graph.specs.declared.sequence.Exit.{Exit}
use Rattle.tsa_graph_edges.specs.declared.link.Outcome.TheVariants.{Next}
use Rattle.tsa_flow_solver.specs.Courses.{leaving}
use Rattle.tsa_flow_solver.specs.Evenness.{HasFollowed}
use Rattle.tsa_flow_solver.specs.Rows.{lane_of, set_at}
use Rattle.tsa_flow_solver.proofs.Evenly.{none_evenly}
use Rattle.tsa_flow_solver.proofs.Spreading.{exit_evenly_spread, exit_spread, none_spread}
use Rattle.tsa_flow_solver.proofs.front.Front.spread.Goals as goal

-- what is read where nothing stands
abbrev absent : Exit
absent = record { outcome = Next; to = 0 }

pub exits-init : goal.exits-init
exits-init g c = record {
  spread = none_spread (g.L.Lanes.count c.args.lanes.now) (g.L.Lanes.points c.args.lanes.now) (g.L.Lanes.cases c.args.lanes.now) c.args.block.now c.args.last.now c.args.self.now.rows.items
      c.args.self.now.work.items c.requires.wide;
  even = λ lane are less. none_evenly (leaving (g.L.Lanes.cases c.args.lanes.now lane) c.args.block.now) (set_at c.args.last.now lane) (lane_of c.args.self.now.rows.items lane) c.args.self.now.is_even;
}

pub exits-preserved : goal.exits-preserved
exits-preserved g c =
    let n = g.L.Lanes.count c.args.lanes.now in
    let points = g.L.Lanes.points c.args.lanes.now in
    let cases = g.L.Lanes.cases c.args.lanes.now in
    let block = c.args.block.now in
    let exits = block.exits.items in
    let i = c.exits.exit-index in
    let last = c.args.last.now in
    let old = c.args.self.now in
    let now = c.exits.self in
    let new = c.follow.new.self in
    let there : i < length exits = subst (λ xs. i < length xs) c.deref-exit-items.ensures.value c.exits-test.true in
    let within = All-get_or (λ x. x.to < length old.rows.items) exits i absent there c.requires.exits in
    let long = c.exits.invariant.spread.paid.long in
    let inside : (get_or exits i absent).to < length now.rows.items = omega (arith, within, long) in
    let followed : HasFollowed n points cases block (get_or exits i absent).outcome (get_or exits i absent).to last now.rows.items new.rows.items now.work.items new.work.items now.is_even new.is_even =
    subst (λ xs. HasFollowed n points cases block (get_or xs i absent).outcome (get_or xs i absent).to last now.rows.items new.rows.items now.work.items new.work.items now.is_even new.is_even)
    c.deref-exit-items.ensures.value c.in_ok-follow.ensures in
    record {
      spread = exit_spread n points cases block exits i absent there last old.rows.items now.rows.items new.rows.items old.work.items now.work.items new.work.items c.exits.invariant.spread inside followed.row
          followed.left followed.taken;
      even = exit_evenly_spread n points cases block exits i absent there last old.rows.items now.rows.items new.rows.items old.work.items now.work.items new.work.items c.exits.invariant.spread old.is_even
          now.is_even new.is_even c.exits.invariant.even inside followed;
    }
