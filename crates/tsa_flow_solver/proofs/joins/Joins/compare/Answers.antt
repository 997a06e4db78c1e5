use Rattle.std.proofs.Common.{◌∙◌, ◌≡◌, ◌<◌, ap, arith, get_or, subst, sym, set, [], List, Bool}
use Rattle.std.proofs.lemmas.List.{get_or_default}
use Rattle.tsa_rules.specs.declared.statuses.Statuses.{Statuses}
use Rattle.tsa_flow_solver.specs.Agreeing.{IsLaneCompared, IsOneCompared}
use Rattle.tsa_flow_solver.specs.Rows.{flag_at, flags_of, lane_of, row_at, set_at}
use Rattle.tsa_flow_solver.proofs.EdgeComparisons.{one_compared}
use Rattle.tsa_flow_solver.proofs.Grids.{flag_in, flags_long, flags_set, lane_at}
use Rattle.tsa_flow_solver.proofs.joins.Joins.compare.Goals as goal

pub returns-clause-flags : goal.returns-clause-flags
returns-clause-flags c lane less =
    subst (IsOneCompared c.args.block (set_at c.args.set.now lane) (lane_of rows lane) (flags_of old lane)) (sym made)
    (one_compared (lane_of rows lane) c.args.block (set_at c.args.set.now lane) (flags_of old lane) (subst (λ n. c.args.block < n) (sym (flags_long old lane)) c.requires.block) (flag_at c.compare.new.self lane) compared)
  where
    rows : List (List Statuses)
    rows = c.args.self.now.rows.items

    old : List (List Bool)
    old = c.args.self.now.agreeing.items

    before : c.index_mut.result.now ≡ get_or old c.args.block []
    before = c.index_mut.ensures.value ∙ get_or_default old c.args.block c.index_mut.result.now [] c.requires.block

    brought : c.index.result.now ≡ row_at rows c.args.block
    brought = c.index.ensures ∙ get_or_default rows c.args.block c.index.result.now []
        (let long = c.requires.sized.1.many_rows in let many = c.requires.sized.1.many_flags in let within = c.requires.block in omega (arith, long, many, within))

    made : flags_of (set old c.args.block c.compare.new.self) lane ≡ set (flags_of old lane) c.args.block (flag_at c.compare.new.self lane)
    made = flags_set old lane c.args.block c.compare.new.self

    compared : IsLaneCompared (set_at c.args.set.now lane) (set_at (lane_of rows lane) c.args.block) (flag_at (flags_of old lane) c.args.block) (flag_at c.compare.new.self lane)
    compared =
        subst (λ s. IsLaneCompared (set_at c.args.set.now lane) s (flag_at (flags_of old lane) c.args.block) (flag_at c.compare.new.self lane)) (ap (λ r. set_at r lane) brought ∙ sym (lane_at rows lane c.args.block))
        (subst (λ f. IsLaneCompared (set_at c.args.set.now lane) (set_at c.index.result.now lane) f (flag_at c.compare.new.self lane)) (ap (λ r. flag_at r lane) before ∙ sym (flag_in old lane c.args.block))
        (c.compare.ensures.each lane less))
