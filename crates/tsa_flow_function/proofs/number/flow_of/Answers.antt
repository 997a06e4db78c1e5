use Rattle.std.proofs.Common.{◌∙◌, ◌≡◌, length, slice_get, subst, ap}
use Rattle.tsa_graph.specs.Rows.{AreBlocksOf}
use Rattle.tsa_core.specs.Programs.{program_of}
use Rattle.tsa_rules_table.specs.Rows.{rows_in}
use Rattle.tsa_rules.specs.Points.{edges_of, points_of}
use Rattle.tsa_tree.specs.units.Shapes.{item_shapes}
use Rattle.tsa_rules_view.specs.Controls.{IsGraphIn}
use Rattle.tsa_rules_view.specs.Views.{IsViewIn}
use Rattle.tsa_flow_function.proofs.FunctionNumbers.{flow_there, found, is_between, is_graph}
use Rattle.tsa_flow_function.proofs.number.flow_of.Goals as goal

pub blocks_of-requires : goal.blocks_of-requires
blocks_of-requires c =
    let u = program_of (item_shapes c.args.unit.now.typed.unit.now.items.now) in
    let n = c.args.function in
    let x = found u c.in-Some.view c.in-Some-2.graph (slice_get u.functions n) (subst (IsViewIn u (slice_get u.functions n)) c.in-Some.is c.in_ok-view.ensures)
    (subst (IsGraphIn (slice_get u.functions n)) c.in-Some-2.is
    (subst (λ t. IsGraphIn (slice_get (program_of (item_shapes t.unit.now.items.now)).functions n) c.in_ok-graph.field-0) c.typed.ensures c.in_ok-graph.ensures))
    in
    let counted : c.rows-points.result ≡ length (points_of x.function) = c.rows-points.ensures ∙ ap rows_in c.marks.ensures ∙ x.viewed.rows in (
      edges_of x.function,
      is_graph u (slice_get u.functions n) c.in-Some.view c.in-Some-2.graph x c.rows-points.result counted,
      is_between u (slice_get u.functions n) c.in-Some.view c.in-Some-2.graph x c.rows-points.result counted,
    )

pub returns : goal.returns
returns c =
    let u = program_of (item_shapes c.args.unit.now.typed.unit.now.items.now) in
    let n = c.args.function in
    let x = found u c.in-Some.view c.in-Some-2.graph (slice_get u.functions n) (subst (IsViewIn u (slice_get u.functions n)) c.in-Some.is c.in_ok-view.ensures)
    (subst (IsGraphIn (slice_get u.functions n)) c.in-Some-2.is
    (subst (λ t. IsGraphIn (slice_get (program_of (item_shapes t.unit.now.items.now)).functions n) c.in_ok-graph.field-0) c.typed.ensures c.in_ok-graph.ensures))
    in
    let counted : c.rows-points.result ≡ length (points_of x.function) = c.rows-points.ensures ∙ ap rows_in c.marks.ensures ∙ x.viewed.rows in
    flow_there u (slice_get u.functions n) c.in-Some.view c.in-Some-2.graph x c.in_ok-new.field-0
    (c.in_ok-new.ensures u x.function x.paths x.viewed
    (subst (λ m. AreBlocksOf m (edges_of x.function) c.in_ok-blocks.blocks) counted
    (c.in_ok-blocks.ensures (edges_of x.function) (is_graph u (slice_get u.functions n) c.in-Some.view c.in-Some-2.graph x c.rows-points.result counted)
    (is_between u (slice_get u.functions n) c.in-Some.view c.in-Some-2.graph x c.rows-points.result counted))))
