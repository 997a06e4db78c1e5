use Rattle.std.proofs.Common.{arith, ◌≡◌, ◌∙◌, ◌+◌, ◌-◌, ◌<◌, [], ◌∷◌, None, IfOk, drop, length, map, reverse, get_or, refl, sym, ap, subst}
use Rattle.std.specs.Option.{option_map}
use Rattle.std.proofs.lemmas.List.{drop_all}
use Rattle.std.proofs.lemmas.Result.{IfOk-weaker}
use Rattle.tsa_core.specs.Control.{edge, Next}
use Rattle.tsa_tree.specs.declarations.Shapes.{decl_shape}
use Rattle.tsa_tree.specs.expressions.Shapes.{shape, name_shape}
use Rattle.tsa_tree.specs.declared.stmt.Stmt.{Stmt, roll-Stmt}
use Rattle.tsa_tree.specs.declared.stmt.StmtKind.TheVariants as kind
use Rattle.tsa_tree.specs.statements.Shapes.{stmt_shape, stmt_shapes, init_given, step_given, counted}
use Rattle.tsa_tree.specs.statements.Syntax.{evaluation, assignment, block, empty, local, simple, for_loop, break, continue, goto}
use Rattle.tsa_tree.specs.points.Syntax.{points_of_step}
use Rattle.tsa_tree.proofs.statements.Trees.{tall, shape_of, block_at, for_at}
use Rattle.tsa_graph_edges.specs.Links.{edge_of}
use Rattle.tsa_graph_edges.specs.Marks.{case_of}
use Rattle.tsa_graph_edges.specs.Successors.{with_edges}
use Rattle.tsa_graph_edges.specs.PointNumbers.{IsNumberedTo}
use Rattle.tsa_graph_edges.specs.Spots.{IsPut, ArePut}
use Rattle.tsa_graph_edges.proofs.PartNumbers.{while_test, while_body, for_test, for_body, block_part, item_part, to_part, ahead_part}
use Rattle.tsa_graph_edges.proofs.PartNumbers.{one_before, arm_before, body_next, body_behind}
use Rattle.tsa_graph_edges.proofs.Putting as lemmas
use Rattle.tsa_graph_edges.proofs.Putting.{spot_at, start}
use Rattle.tsa_graph_edges.proofs.walk.Spot.+putting.Goals as goal

-- what is read where nothing stands
abbrev absent : Stmt
absent = roll-Stmt (record { kind = kind.Block (record { ref_ptr = (0, 0); now = [] }); point = None; span = record { from = 0; to = 0 } })

pub put_if-returns : goal.put_if-returns
put_if-returns t c = λ span. lemmas.put_if _ _ _ _ _ _ _ _ span c.in_ok-inner.ensures (one_before _ _ _ c.requires c.in_ok-inner.ensures.ends) c.in_ok-put_test.ensures

pub put_both-returns : goal.put_both-returns
put_both-returns t c =
    λ span. lemmas.put_both _ _ _ _ _ _ _ _ _ _ _ span _ c.in_ok-other.ensures c.ending.ensures c.in_ok-inner.ensures
    (arm_before c.args.arms.0.now c.args.arms.1.now c.args.self.end c.in_ok-other.other.at c.in_ok-inner.inner.at c.requires.yes c.in_ok-other.ensures.ends (c.in_ok-inner.ensures.ends ∙ ap (λ s. s.end) c.ending.ensures)) c.in_ok-put_test.ensures

pub put_while-returns : goal.put_while-returns
put_while-returns t c =
    λ span. lemmas.put_while _ _ _ _ _ _ _ _ span _ c.in_loop.ensures c.in_ok-inner.ensures (body_next c.args.head.point c.args.self.end c.unwrap-at.result (counted c.args.body.now.kind c.args.body.now.span) c.in_ok-inner.inner.at c.unwrap-at.ensures
    c.requires.test (c.in_ok-inner.ensures.ends ∙ ap (λ s. s.end) c.in_loop.ensures)) c.in_ok-put_test.ensures

pub put_do-returns : goal.put_do-returns
put_do-returns t c =
    λ span. lemmas.put_do _ _ _ _ _ _ _ _ _ _ _ _ _ _ span _ (let e = c.requires.ends in omega (arith, e)) c.swap_links.ensures.inside (ap (λ xs. reverse (map edge_of xs)) c.new-links.ensures.items)
    (c.in_loop.ensures ∙ ap (λ s. spot_at s s.end (c.args.self.end - 1) s.follow (c.args.self.end - 1)) c.ending.ensures) c.in_ok-inner.ensures c.swap_links.ensures.outside
    c.swap_links-2.ensures.inside (ap (λ xs. reverse (map edge_of xs)) c.deref.ensures.value ∙ c.swap_links-2.ensures.outside) c.in_ok-put_test.ensures c.in_ok-put_all.ensures

pub put_for-returns : goal.put_for-returns
put_for-returns t c =
    λ span. lemmas.put_for _ _ _ _ _ _ _ _ _ _ _ _ _ _ _ span _ refl c.step_points-steps.ensures c.or_follow-back.ensures c.in_loop.ensures c.in_ok-inner.ensures
    refl
    (body_behind _ c.args.head.point c.args.self.end c.unwrap-test_at.result c.unwrap-test_at.ensures (length (points_of_step (step_given c.args.head.step)))
    (counted c.args.body.now.kind c.args.body.now.span) c.in_ok-inner.inner.at c.requires.test (c.in_ok-inner.ensures.ends ∙ ap (λ s. s.end) c.in_loop.ensures)
    ∙ ap (λ n. c.unwrap-test_at.result + 1 + n) (sym c.step_points-steps.ensures))
    c.in_ok-at.ensures.at c.in_ok-at.ensures.put

pub put_switch-returns : goal.put_switch-returns
put_switch-returns t c =
    λ key span. lemmas.put_switch _ _ _ _ _ _ _ _ _ _ key _ span _ c.swap_cases.ensures.inside (ap (λ xs. reverse (map case_of xs)) c.new-cases.ensures.items)
    c.in_switch.ensures c.in_ok-inner.ensures (one_before _ _ _ c.requires (c.in_ok-inner.ensures.ends ∙ ap (λ s. s.end) c.in_switch.ensures)) c.in_ok-put_switch.ensures c.swap_cases.ensures.outside c.swap_cases-2.ensures.inside

pub put_all-each-init : goal.put_all-each-init
put_all-each-init t c =
    let items = c.args.items.now in
    record {
      within = omega arith;
      put = subst (λ xs. ArePut c.args.self (stmt_shapes xs) (start c.args.self.end c.args.self.follow) c.args.ahead.now c.args.ahead.now)
          (sym (drop_all (length items) items (omega arith))) (lemmas.put_none c.args.self c.args.ahead.now);
    }

pub put_all-each-preserved : goal.put_all-each-preserved
put_all-each-preserved t c =
    let items = c.args.items.now in
    let n = c.each.left in
    record {
      within = omega (arith, c.each.invariant.within);
      put = subst (λ xs. ArePut c.args.self (stmt_shapes xs) c.in_ok-start.start c.args.ahead.now c.put.new.ahead)
          (sym (lemmas.item_before items n _ c.each-test.true c.each.invariant.within))
          (lemmas.put_more c.args.self c.args.ahead.now c.put.new.ahead c.each.ahead c.in_ok-start.start c.each.start _ (stmt_shapes (drop n items)) _
          c.each.invariant.put c.ahead_of.ensures c.in_ok-start.ensures);
    }

pub put_all-put-requires : goal.put_all-put-requires
put_all-put-requires t c =
    let within : c.each.left - 1 < length c.args.items.now = omega (arith, c.each-test.true, c.each.invariant.within) in
    let inner : c.ahead_of.result.end ≡ c.each.start.at = ap (λ s. s.end) c.ahead_of.ensures in (
      omega (arith, lemmas.item_falls c.args.items.now (c.each.left - 1) absent within),
      subst (λ n. IsNumberedTo (get_or c.args.items.now (c.each.left - 1) absent) n) (sym inner)
          (item_part c.args.items.now c.each.left absent c.args.self.end c.each.start.at c.each-test.true c.each.invariant.within c.requires c.each.invariant.put.ends),
    )

pub put-put_all-requires : goal.put-put_all-requires
put-put_all-requires t c = (omega (arith, ap tall (block_at c.args.stmt.now c.in-Block.items c.in-Block.is)), block_part c.args.stmt.now c.in-Block.items c.args.self.end c.in-Block.is c.requires)

pub put-returns-in-Block : goal.put-returns-in-Block
put-returns-in-Block t c =
    lemmas.whole_for c.args.self (shape_of c.args.stmt.now) (block (stmt_shapes c.in-Block.items.now) c.args.stmt.now.span) c.put_all.result c.args.ahead.now c.put_all.new.ahead
    (block_at c.args.stmt.now c.in-Block.items c.in-Block.is)
    (lemmas.whole_block c.args.self (stmt_shapes c.in-Block.items.now) c.args.stmt.now.span c.put_all.result c.args.ahead.now c.put_all.new.ahead c.put_all.ensures)

pub put-returns-in-For : goal.put-returns-in-For
put-returns-in-For t c =
    let span = c.args.stmt.now.span in
    lemmas.whole_for c.args.self (shape_of c.args.stmt.now)
    (for_loop (init_given c.in-For.init) (option_map (λ x. shape x.now) c.in-For.test) (step_given c.in-For.step) (shape_of c.in-For.body.now) span)
    c.put_for.result c.args.ahead.now c.put_for.new.ahead
    (for_at c.args.stmt.now c.in-For.init c.in-For.test c.in-For.step c.in-For.body c.in-For.is)
    (IfOk-weaker c.put_for.result _ _ (λ s h. h span) c.put_for.ensures)

pub put-returns-in_ok-put_case-in-Case : goal.put-returns-in_ok-put_case-in-Case
put-returns-in_ok-put_case-in-Case t c =
    subst (λ k. IsPut c.args.self (stmt_shape k c.args.stmt.now.span) c.in_ok-inner-in-Case.inner c.args.ahead.now c.put_case.new.ahead) (sym c.in-Case.is)
    (lemmas.put_case _ _ _ _ _ _ _ _ c.in_ok-inner-in-Case.ensures c.in_ok-put_case-in-Case.ensures)

pub put-returns-in_ok-put_case-in-Otherwise : goal.put-returns-in_ok-put_case-in-Otherwise
put-returns-in_ok-put_case-in-Otherwise t c =
    subst (λ k. IsPut c.args.self (stmt_shape k c.args.stmt.now.span) c.in_ok-inner-in-Otherwise.inner c.args.ahead.now c.put_case-in-Otherwise.new.self) (sym c.in-Otherwise.is)
    (lemmas.put_otherwise _ _ _ _ _ _ _ c.in_ok-inner-in-Otherwise.ensures c.in_ok-put_case-in-Otherwise.ensures)

pub put-returns-in_ok-put_label-in-Label : goal.put-returns-in_ok-put_label-in-Label
put-returns-in_ok-put_label-in-Label t c =
    subst (λ k. IsPut c.args.self (stmt_shape k c.args.stmt.now.span) c.in_ok-inner-in-Label.inner c.args.ahead.now c.put_label.new.self) (sym c.in-Label.is)
    (lemmas.put_label _ _ _ _ _ (name_shape c.in-Label.name) _ _ c.in_ok-inner-in-Label.ensures c.in_ok-put_label-in-Label.ensures)

pub put-returns-in-Empty : goal.put-returns-in-Empty
put-returns-in-Empty t c =
    let new = c.put_next.new.ahead in
    subst (λ k. IfOk c.put_next.result (λ s. IsPut c.args.self (stmt_shape k c.args.stmt.now.span) s c.args.ahead.now new)) (sym c.in-Empty.is)
    (lemmas.leaf c.args.self (empty c.args.stmt.now.span) c.put_next.result c.args.self.follow c.args.ahead.now new
    (λ s a f q. lemmas.put_empty c.args.self c.args.ahead.now new s a f _ q) c.put_next.ensures.at c.put_next.ensures.first c.put_next.ensures.put)

pub put-returns-in-Local : goal.put-returns-in-Local
put-returns-in-Local t c =
    let new = c.put_next-in-Local.new.ahead in
    subst (λ k. IfOk c.put_next-in-Local.result (λ s. IsPut c.args.self (stmt_shape k c.args.stmt.now.span) s c.args.ahead.now new)) (sym c.in-Local.is)
    (lemmas.leaf c.args.self (local (decl_shape c.in-Local.field-0.now)) c.put_next-in-Local.result c.args.self.follow c.args.ahead.now new
    (λ s a f q. lemmas.put_local c.args.self c.args.ahead.now new s a f _ q) c.put_next-in-Local.ensures.at c.put_next-in-Local.ensures.first c.put_next-in-Local.ensures.put)

pub put-returns-in-Eval : goal.put-returns-in-Eval
put-returns-in-Eval t c =
    let new = c.put_next-in-Eval.new.ahead in
    subst (λ k. IfOk c.put_next-in-Eval.result (λ s. IsPut c.args.self (stmt_shape k c.args.stmt.now.span) s c.args.ahead.now new)) (sym c.in-Eval.is)
    (lemmas.leaf c.args.self (simple (evaluation (shape c.in-Eval.field-0.now) c.args.stmt.now.span)) c.put_next-in-Eval.result c.args.self.follow c.args.ahead.now new
    (λ s a f q. lemmas.put_simple c.args.self c.args.ahead.now new s a f _ q) c.put_next-in-Eval.ensures.at c.put_next-in-Eval.ensures.first c.put_next-in-Eval.ensures.put)

pub put-returns-in-Assign : goal.put-returns-in-Assign
put-returns-in-Assign t c =
    let new = c.put_next-in-Assign.new.ahead in
    subst (λ k. IfOk c.put_next-in-Assign.result (λ s. IsPut c.args.self (stmt_shape k c.args.stmt.now.span) s c.args.ahead.now new)) (sym c.in-Assign.is)
    (lemmas.leaf c.args.self (simple (assignment (shape c.in-Assign.left.now) c.in-Assign.op (shape c.in-Assign.right.now) c.args.stmt.now.span)) c.put_next-in-Assign.result c.args.self.follow c.args.ahead.now new
    (λ s a f q. lemmas.put_simple c.args.self c.args.ahead.now new s a f _ q) c.put_next-in-Assign.ensures.at c.put_next-in-Assign.ensures.first c.put_next-in-Assign.ensures.put)

pub put-returns-in-Break : goal.put-returns-in-Break
put-returns-in-Break t c =
    let new = c.put_next-in-Break.new.ahead in
    subst (λ k. IfOk c.put_next-in-Break.result (λ s. IsPut c.args.self (stmt_shape k c.args.stmt.now.span) s c.args.ahead.now new)) (sym c.in-Break.is)
    (lemmas.leaf c.args.self (break c.args.stmt.now.span) c.put_next-in-Break.result c.args.self.break_to c.args.ahead.now new
    (λ s a f q. lemmas.put_break c.args.self c.args.ahead.now new s a f _ q) c.put_next-in-Break.ensures.at c.put_next-in-Break.ensures.first c.put_next-in-Break.ensures.put)

pub put-returns-in-Continue : goal.put-returns-in-Continue
put-returns-in-Continue t c =
    let new = c.put_next-in-Continue.new.ahead in
    subst (λ k. IfOk c.put_next-in-Continue.result (λ s. IsPut c.args.self (stmt_shape k c.args.stmt.now.span) s c.args.ahead.now new)) (sym c.in-Continue.is)
    (lemmas.leaf c.args.self (continue c.args.stmt.now.span) c.put_next-in-Continue.result c.args.self.continue_to c.args.ahead.now new
    (λ s a f q. lemmas.put_continue c.args.self c.args.ahead.now new s a f _ q) c.put_next-in-Continue.ensures.at c.put_next-in-Continue.ensures.first c.put_next-in-Continue.ensures.put)

pub put-returns-in-Goto : goal.put-returns-in-Goto
put-returns-in-Goto t c =
    let new = c.put_next-in-Goto.new.ahead in
    let old = c.args.ahead.now in
    let name = name_shape c.in-Goto.name in
    subst (λ k. IfOk c.put_next-in-Goto.result (λ s. IsPut c.args.self (stmt_shape k c.args.stmt.now.span) s old new)) (sym c.in-Goto.is)
    (lemmas.leaf c.args.self (goto name c.args.stmt.now.span) c.put_next-in-Goto.result c.label.result old new
    (λ s a f q. lemmas.put_goto c.args.self old new s a f name _ (q ∙ ap (λ n. with_edges (edge s.at Next n ∷ []) old) c.label.ensures)) c.put_next-in-Goto.ensures.at
    c.put_next-in-Goto.ensures.first c.put_next-in-Goto.ensures.put)

pub put-returns-in-Return : goal.put-returns-in-Return
put-returns-in-Return t c =
    let old = c.args.ahead.now in
    subst (λ k. IsPut c.args.self (stmt_shape k c.args.stmt.now.span) c.one_point.result old old) (sym c.in-Return.is)
    (lemmas.put_return c.args.self old old c.one_point.result c.one_point.ensures.at c.one_point.ensures.first _ _ refl)

pub put_both-put-requires : goal.put_both-put-requires
put_both-put-requires t c = (omega arith, to_part _ _ _ c.requires.no)

pub put_both-put-requires-2 : goal.put_both-put-requires-2
put_both-put-requires-2 t c =
    let arms = c.args.arms in
    let inner : c.ending.result.end ≡ c.in_ok-other.other.at = ap (λ s. s.end) c.ending.ensures in (
      omega arith,
      subst (λ n. IsNumberedTo arms.0.now n) (sym inner) (ahead_part arms.0.now arms.1.now c.args.self.end c.in_ok-other.other.at c.requires.yes c.in_ok-other.ensures.ends),
    )

pub put_if-put-requires : goal.put_if-put-requires
put_if-put-requires t c = (omega arith, to_part _ _ _ c.requires)

pub put_switch-put-requires : goal.put_switch-put-requires
put_switch-put-requires t c =
    let inner : c.in_switch.result.end ≡ c.args.self.end = ap (λ s. s.end) c.in_switch.ensures in
    (omega arith, subst (λ n. IsNumberedTo c.args.body.now n) (sym inner) (to_part _ _ _ c.requires))

pub put-put_while-requires : goal.put-put_while-requires
put-put_while-requires t c =
    let s = c.args.stmt.now in
    let l = c.in-While in (
      omega (arith, ap (λ k. tall (stmt_shape k s.span)) l.is),
      (while_test s l.test l.body c.args.self.end c.requires l.is, while_body s l.test l.body c.args.self.end c.requires l.is),
    )

pub put-put_for-requires : goal.put-put_for-requires
put-put_for-requires t c =
    let s = c.args.stmt.now in
    let l = c.in-For in (
      omega (arith, ap tall (for_at s l.init l.test l.step l.body l.is)),
      (for_test s l.init l.test l.step l.body c.args.self.end l.is c.requires, for_body s l.init l.test l.step l.body c.args.self.end l.is c.requires),
    )
