use Rattle.std.proofs.Common.{arith, ◌≡◌, ◌∙◌, OnOk, Err, option_map, drop, sym, ap, subst}
use Rattle.std.proofs.Math.Seq.{drop-cons}
use Rattle.std.proofs.lemmas.List.{drop_all}
use Rattle.tsa_tree.specs.expressions.Shapes.{shape}
use Rattle.tsa_tree.specs.statements.Shapes.{stmt_shapes, init_given, step_given}
use Rattle.tsa_types_row.specs.BodyRows.{row_in_statement, row_in_test}
use Rattle.tsa_types_expressions.proofs.RowLaws.{noted, noted_append}
use Rattle.tsa_types_statements.proofs.StatementRows as rows
use Rattle.tsa_types_statements.proofs.StatementRows.{block_row, test_kept}
use Rattle.tsa_types_expressions.specs.Judgements.{Judges}
use Rattle.tsa_tree.specs.types.Premises.{first}
use Rattle.tsa_tree.specs.types.Statements.{statement_premises, behind}
use Rattle.tsa_tree.specs.types.Targets.{declared_in}
use Rattle.tsa_types_statements.proofs.StatementLaws.{block_wrong, block_behind, do_stops, do_goes, for_goes, statements_end, behind_end}
use Rattle.tsa_types_statements.proofs.StatementLaws.{statements_stop, statements_next, behind_next}
use Rattle.tsa_tree.proofs.statements.Trees.{tall, talls, shape_of, block_at}
use Rattle.tsa_types_statements.proofs.walk.Walk.+stating.Goals as goal
use Rattle.tsa_base.proofs.Numbers.{plus_one}

pub statement-returns-in-Block-clause-judged : goal.statement-returns-in-Block-clause-judged
statement-returns-in-Block-clause-judged t c =
    subst (λ o. Judges o c.block.result)
    (sym (ap (λ s. first (statement_premises c.args.around.now c.args.self.now.scope s)) (block_at c.args.stmt.now c.in-Block.items c.in-Block.is)
    ∙ block_wrong c.args.around.now c.args.self.now.scope _ _))
    c.block.ensures.judged

pub statement-returns-in-Block-clause-behind : goal.statement-returns-in-Block-clause-behind
statement-returns-in-Block-clause-behind t c =
    subst (λ x. OnOk c.block.result (c.block.new.self.scope ≡ x))
    (sym (ap (behind c.args.self.now.scope) (block_at c.args.stmt.now c.in-Block.items c.in-Block.is) ∙ block_behind c.args.self.now.scope _ _))
    c.block.ensures.behind

pub statements-returns-in-Err-clause-judged : goal.statements-returns-in-Err-clause-judged
statements-returns-in-Err-clause-judged t c =
    subst (λ o. Judges o (Err c.in-Err.refusal)) c.each.invariant.judged
    (statements_stop c.args.around.now c.each.self.scope c.args.items.now c.each.stmt-index _ (drop-cons c.args.items.now c.each.stmt-index _ c.each-test.true)
    c.in-Err.refusal c.in-Err.ensures.judged)

pub statements-each-preserved : goal.statements-each-preserved
statements-each-preserved t c =
    let at = drop-cons c.args.items.now c.each.stmt-index _ c.each-test.true in
    record {
      judged =
          statements_next c.args.around.now c.each.self.scope c.args.items.now c.each.stmt-index _ at c.statement.new.self.scope c.in_default.ensures.judged
          c.in_default.ensures.behind
          ∙ c.each.invariant.judged;
      behind =
          behind_next c.args.around.now c.each.self.scope c.args.items.now c.each.stmt-index _ at c.statement.new.self.scope c.in_default.ensures.behind
          ∙ c.each.invariant.behind;
      nodes =
          rows.statements_next c.each.self.row c.each.self.scope c.args.around.now.function c.args.items.now c.each.stmt-index _ at c.statement.new.self.scope
          c.statement.new.self.row c.in_default.ensures.behind c.in_default.ensures.nodes
          ∙ c.each.invariant.nodes;
      low = omega (arith, ap (λ xs. talls (stmt_shapes xs)) at, c.each.invariant.low, ap (λ j. talls (stmt_shapes (drop j c.args.items.now))) (plus_one c.each.stmt-index));
    }

pub statements-returns-clause-judged : goal.statements-returns-clause-judged
statements-returns-clause-judged t c =
    sym c.each.invariant.judged
    ∙ statements_end c.args.around.now c.each.self.scope c.args.items.now c.each.stmt-index (drop_all c.each.stmt-index c.args.items.now c.each-test.false)

pub statements-returns-clause-behind : goal.statements-returns-clause-behind
statements-returns-clause-behind t c =
    sym (behind_end c.args.around.now c.each.self.scope c.args.items.now c.each.stmt-index (drop_all c.each.stmt-index c.args.items.now c.each-test.false))
    ∙ c.each.invariant.behind

pub statements-returns-clause-nodes : goal.statements-returns-clause-nodes
statements-returns-clause-nodes t c =
    sym (rows.statements_end c.each.self.row c.each.self.scope c.args.around.now.function c.args.items.now c.each.stmt-index
    (drop_all c.each.stmt-index c.args.items.now c.each-test.false))
    ∙ c.each.invariant.nodes

pub statement-returns-in-Block-clause-nodes : goal.statement-returns-in-Block-clause-nodes
statement-returns-in-Block-clause-nodes t c =
    subst (λ x. OnOk c.block.result (c.block.new.self.row ≡ x))
    (sym (ap (λ s. noted c.args.self.now.row (row_in_statement c.args.self.now.scope c.args.around.now.function s)) (block_at c.args.stmt.now c.in-Block.items c.in-Block.is)
    ∙ ap (noted c.args.self.now.row) (block_row c.args.self.now.scope c.args.around.now.function _ _)))
    c.block.ensures.nodes

pub statement-block-requires : goal.statement-block-requires
statement-block-requires t c = (omega (arith, ap tall (block_at c.args.stmt.now c.in-Block.items c.in-Block.is)), tt)

pub for_loop-returns-clause-judged : goal.for_loop-returns-clause-judged
for_loop-returns-clause-judged t c =
    sym (for_goes c.args.around.now c.args.self.now.scope (init_given c.args.head.now.init) (option_map (λ x. shape x.now) c.args.head.now.test) (step_given c.args.head.now.step)
    c.args.head.now.span (shape_of c.args.body.now) c.for_head.new.scope c.in_a_loop.result c.in_ok-wrong.wrong c.in_ok-wrong.ensures.judged c.in_ok-wrong.ensures.behind
    c.in_a_loop.ensures)
    ∙ c.in_default.ensures.judged

pub do_loop-returns-in-Err-clause-judged : goal.do_loop-returns-in-Err-clause-judged
do_loop-returns-in-Err-clause-judged t c =
    do_stops c.args.around.now c.args.self.now.scope (shape_of c.args.body.now) (shape c.args.tail.test.now) c.args.tail.span c.in_ok-wrong.wrong c.in_a_loop.result
    c.in_ok-wrong.ensures.judged c.in_a_loop.ensures c.in-Err.refusal c.in-Err.ensures.judged

pub do_loop-returns-clause-judged : goal.do_loop-returns-clause-judged
do_loop-returns-clause-judged t c =
    do_goes c.args.around.now c.args.self.now.scope (shape_of c.args.body.now) (shape c.args.tail.test.now) c.args.tail.span c.in_ok-wrong.wrong c.in_a_loop.result
    c.in_ok-wrong.ensures.judged c.in_a_loop.ensures c.in_default.ensures.judged c.after.new.self.scope (declared_in (shape_of c.args.body.now)) c.in_default.ensures.behind
    c.evaluate.result c.evaluate.ensures.judged

pub do_loop-returns-clause-nodes : goal.do_loop-returns-clause-nodes
do_loop-returns-clause-nodes t c =
    let here = c.args.self.now.scope in
    let function = c.args.around.now.function in
    let inside = row_in_test here function (shape c.args.tail.test.now) in
    subst (λ n. OnOk c.evaluate.result (c.evaluate.new.self.row ≡ n))
    (ap (λ a. noted c.after.new.self.row (row_in_test c.after.new.self.scope a.function (shape c.args.tail.test.now))) c.around.view_is
    ∙ ap (λ s. noted c.after.new.self.row (row_in_test s function (shape c.args.tail.test.now))) c.in_default.ensures.behind
    ∙ ap (noted c.after.new.self.row) (test_kept here function (declared_in (shape_of c.args.body.now)) (shape c.args.tail.test.now))
    ∙ ap (λ n. noted n inside) c.in_default.ensures.nodes
    ∙ ap (λ b. noted (noted c.args.self.now.row (row_in_statement here b.function (shape_of c.args.body.now))) inside) c.in_a_loop.ensures
    ∙ sym (noted_append c.args.self.now.row (row_in_statement here function (shape_of c.args.body.now)) inside))
    c.evaluate.ensures.nodes
