use Rattle.std.proofs.Common.{◌∙◌, ◌<◌, List, get_or, length, subst, sym}
use Rattle.tsa_graph.specs.declared.sequence.Exit.{Exit}
use Rattle.tsa_graph_edges.specs.declared.link.Outcome.TheVariants.{Next}
use Rattle.tsa_rules.specs.declared.statuses.Statuses.{Statuses}
use Rattle.tsa_flow_solver.specs.Agreeing.{AreFlagged, IsOneCompared}
use Rattle.tsa_flow_solver.specs.Courses.{leaving}
use Rattle.tsa_flow_solver.specs.Passing.{IsLeft}
use Rattle.tsa_flow_solver.specs.Rows.{flags_of, lane_of, set_at}
use Rattle.tsa_flow_solver.proofs.Comparing.{exit_compared}
use Rattle.tsa_flow_solver.proofs.joins.Joins.compare_exits.Goals as goal

-- what is read where nothing stands
abbrev absent : Exit
absent = record { outcome = Next; to = 0 }

pub exits-preserved : goal.exits-preserved
exits-preserved g c =
    let wide : AreFlagged (g.L.Lanes.count c.args.lanes.now) c.exits.self.agreeing.items c.compare.new.self.agreeing.items =
    subst (λ n. AreFlagged n c.exits.self.agreeing.items c.compare.new.self.agreeing.items) c.count.ensures c.compare.ensures.wide in
    let there : c.exits.exit-index < length c.args.block.now.exits.items = subst (λ xs. c.exits.exit-index < length xs) c.deref-exit-items.ensures.value c.exits-test.true in
    record {
      rows = ◌∙◌ {A = List (List Statuses)} c.compare.ensures.rows c.exits.invariant.rows;
      wide = record { long = wide.long ∙ c.exits.invariant.wide.long; wide = wide.wide };
      flags = λ lane are less.
          exit_compared (leaving (g.L.Lanes.cases c.args.lanes.now lane) c.args.block.now) (set_at c.args.last.now lane) c.args.block.now.exits.items c.exits.exit-index absent there
          (set_at c.in_ok-set.set lane)
          (subst (λ xs. IsLeft (g.L.Lanes.cases c.args.lanes.now lane) c.args.block.now (get_or xs c.exits.exit-index absent).outcome (set_at c.args.last.now lane) (set_at c.in_ok-set.set lane)) c.deref-exit-items.ensures.value
          (c.in_ok-set.ensures.each lane are less)) (lane_of c.args.self.now.rows.items lane) (flags_of c.args.self.now.agreeing.items lane)
          (flags_of c.exits.self.agreeing.items lane) (flags_of c.compare.new.self.agreeing.items lane) (c.exits.invariant.flags lane are less)
          (subst (λ xs. IsOneCompared (get_or xs c.exits.exit-index absent).to (set_at c.in_ok-set.set lane) (lane_of c.args.self.now.rows.items lane) (flags_of c.exits.self.agreeing.items lane) (flags_of c.compare.new.self.agreeing.items lane))
          c.deref-exit-items.ensures.value
          (subst (λ ys. IsOneCompared (get_or c.deref-exit-items.result.now c.exits.exit-index absent).to (set_at c.in_ok-set.set lane) (lane_of ys lane) (flags_of c.exits.self.agreeing.items lane) (flags_of c.compare.new.self.agreeing.items lane))
          c.exits.invariant.rows (c.compare.ensures.flags lane (subst (λ n. lane < n) (sym c.count.ensures) less))));
    }
