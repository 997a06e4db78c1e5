use Rattle.std.proofs.Common.{◌∙◌, ◌≡◌, None, length, slice_get, sym, ap, subst}
use Rattle.std.proofs.lemmas.Result.{IfOk-weaker}
use Rattle.tsa_tree.specs.units.Shapes.{item_shapes}
use Rattle.tsa_core.specs.Programs.{program_of}
use Rattle.tsa_graph.specs.Rows.{AreBlocksOf}
use Rattle.tsa_profile_context.specs.Units.{refusal_with}
use Rattle.tsa_rules.specs.Points.{edges_of, points_of}
use Rattle.tsa_rules_bodies.proofs.GraphsOfFunctions.{controlled}
use Rattle.tsa_flow_function.proofs.FunctionNumbers.{flow_there, is_between, is_graph}
use Rattle.tsa_rules_table.specs.Rows.{rows_in}
use Rattle.tsa_flow.proofs.Passing.{both_found, different, few_here}
use Rattle.tsa_flow.proofs.passage.Pass.flow_in.Goals as goal

pub view-requires : goal.view-requires
view-requires c =
    let s = c.args.self.now in
    record {
      few =
          few_here (item_shapes s.ground.items.now) s.ground.typed c.args.inside.now.number c.args.paths.now c.args.known.now c.args.inside.now c.requires.stands _ s.fit.now.outside.items
          (subst (λ xs. refusal_with s.fit.now.outside.items (item_shapes xs.now) ≡ None) (s.fits ∙ sym s.judged) s.fit.now.profiled) s.ground.laid;
    }

pub blocks_of-requires : goal.blocks_of-requires
blocks_of-requires c =
    let items = item_shapes c.args.self.now.ground.items.now in
    let u = program_of items in
    let i = c.args.inside.now in
    let n = i.number in
    let is = c.requires.stands in
    let viewed = c.in_ok-view.ensures.view items n is.function is.site c.args.self.now.ground.laid c.args.self.now.locks is.is_of is.stands (different items n c.args.paths.now c.args.known.now i is) in
    let x = both_found items n c.args.paths.now c.args.known.now i is c.in_ok-view.view c.in_ok-graph.graph viewed
    (controlled items n is.function is.site is.stands c.args.known.now i is.is_of c.in_ok-graph.graph c.in_ok-graph.ensures) in
    let counted : c.rows-points.result ≡ length (points_of x.function) = c.rows-points.ensures ∙ ap rows_in c.marks.ensures ∙ x.viewed.rows in (
      edges_of x.function,
      is_graph u (slice_get u.functions n) c.in_ok-view.view c.in_ok-graph.graph x c.rows-points.result counted,
      is_between u (slice_get u.functions n) c.in_ok-view.view c.in_ok-graph.graph x c.rows-points.result counted,
    )

pub returns-clause-flow : goal.returns-clause-flow
returns-clause-flow c =
    let items = item_shapes c.args.self.now.ground.items.now in
    let u = program_of items in
    let i = c.args.inside.now in
    let n = i.number in
    let is = c.requires.stands in
    let viewed = c.in_ok-view.ensures.view items n is.function is.site c.args.self.now.ground.laid c.args.self.now.locks is.is_of is.stands (different items n c.args.paths.now c.args.known.now i is) in
    let x = both_found items n c.args.paths.now c.args.known.now i is c.in_ok-view.view c.in_ok-graph.graph viewed
    (controlled items n is.function is.site is.stands c.args.known.now i is.is_of c.in_ok-graph.graph c.in_ok-graph.ensures) in
    let counted : c.rows-points.result ≡ length (points_of x.function) = c.rows-points.ensures ∙ ap rows_in c.marks.ensures ∙ x.viewed.rows in
    IfOk-weaker c.new.result _ _
    (λ w h. flow_there u (slice_get u.functions n) c.in_ok-view.view c.in_ok-graph.graph x w
    (h u x.function x.paths x.viewed
    (subst (λ m. AreBlocksOf m (edges_of x.function) c.in_ok-blocks.blocks) counted
    (c.in_ok-blocks.ensures (edges_of x.function) (is_graph u (slice_get u.functions n) c.in_ok-view.view c.in_ok-graph.graph x c.rows-points.result counted)
    (is_between u (slice_get u.functions n) c.in_ok-view.view c.in_ok-graph.graph x c.rows-points.result counted)))))
    c.new.ensures
