use Rattle.std.proofs.Common.{◌∙◌, ◌||◌, ◌+◌, ◌++◌, [], ap, sym, drop, not, nat_eq, length}
use Rattle.std.proofs.Math.Seq.{drop-cons}
use Rattle.std.proofs.lemmas.List.{drop_all}
use Rattle.tsa_tree.proofs.expressions.Trees.{call_at}
use Rattle.tsa_tree.specs.expressions.Shapes.{kind_shape, name_shape, shape, shapes}
use Rattle.tsa_tree.specs.types.Expressions.{types_of, arguments_break}
use Rattle.tsa_tree.specs.types.Premises.{or_else}
use Rattle.tsa_tree.specs.types.Scopes.{context_of, known_in}
use Rattle.tsa_types_expressions.specs.Found.{found_in}
use Rattle.tsa_types_row.specs.ExpressionRows.{call_op, callee_node, member_op, member_of, op_in, row_in_all}
use Rattle.tsa_types_row.specs.Rows.{framed}
use Rattle.tsa_types_expressions.specs.Parts.{found_thing, worse}
use Rattle.tsa_types_expressions.specs.RowParts.{parts_in}
use Rattle.tsa_types_expressions.specs.Verdicts.{failure_of_all}
use Rattle.tsa_types_expressions.proofs.FoundLaws.{call_found, worse_next, err_next}
use Rattle.tsa_types_expressions.proofs.RowLaws.{all_end, all_next, closed_is, count_is, node_is, noted, noted_call, type_is, whole_row}
use Rattle.tsa_types_expressions.proofs.Walk.{breaks_end, failure_end}
use Rattle.tsa_types_expressions.proofs.expressions.View.+typing.Goals as goal

pub arguments-each-preserved : goal.arguments-each-preserved
arguments-each-preserved t c =
    let known = context_of c.args.self.scope.now in
    let rest = shapes (drop (c.each.arg-index + 1) c.args.args.now) in
    let at_i = drop-cons c.args.args.now c.each.arg-index _ c.each-test.true in
    record {
      number = ap (λ n. n + 1) c.each.invariant.number;
      breaks =
          ap (λ b. b || arguments_break (drop (c.each.number + 1) c.args.params.now) (types_of known rest))
          (c.worse-breaks.ensures ∙ ap (λ p. c.each.breaks || worse c.in_ok-found.found p) c.param_at.ensures)
          ∙ sym (worse_next known c.args.args.now c.each.arg-index _ c.in_ok-found.found at_i c.in_ok-found.ensures.judged c.args.params.now c.each.number c.each.breaks)
          ∙ c.each.invariant.breaks;
      failure =
          ap (λ f. or_else f (failure_of_all known rest)) (c.first_of-failure.ensures ∙ ap (or_else c.each.failure) c.err.ensures.value)
          ∙ sym (err_next known c.args.args.now c.each.arg-index _ c.in_ok-found.found at_i c.in_ok-found.ensures.judged c.each.failure)
          ∙ c.each.invariant.failure;
      nodes = all_next c.args.self.scope.now c.args.self.function c.each.row c.args.args.now c.each.arg-index _ at_i c.expression.new.row c.in_ok-found.ensures.nodes ∙ c.each.invariant.nodes;
    }

pub arguments-returns-clause-breaks : goal.arguments-returns-clause-breaks
arguments-returns-clause-breaks t c =
    sym (breaks_end (context_of c.args.self.scope.now) c.args.params.now c.args.args.now c.each.number c.each.arg-index c.each.breaks
    (drop_all c.each.arg-index c.args.args.now c.each-test.false))
    ∙ c.each.invariant.breaks

pub arguments-returns-clause-failure : goal.arguments-returns-clause-failure
arguments-returns-clause-failure t c =
    sym (failure_end (context_of c.args.self.scope.now) c.args.args.now c.each.arg-index c.each.failure (drop_all c.each.arg-index c.args.args.now c.each-test.false))
    ∙ c.each.invariant.failure

pub arguments-returns-clause-nodes : goal.arguments-returns-clause-nodes
arguments-returns-clause-nodes t c =
    sym (all_end c.args.self.scope.now c.args.self.function c.each.row c.args.args.now c.each.arg-index
    (drop_all c.each.arg-index c.args.args.now c.each-test.false))
    ∙ c.each.invariant.nodes

pub expression-returns-clause-nodes : goal.expression-returns-clause-nodes
expression-returns-clause-nodes t c =
    let here = c.args.self.scope.now in
    let f = c.args.self.function in
    let e = shape c.args.expr.now in
    let done = c.in_ok-part.ensures in
    c.in_ok-close.ensures.put
    ∙ closed_is c.args.row.now c.in_ok-place.place c.found_node.result (parts_in here f e) c.parts.new.row c.in_ok-place.ensures.number
    (done.nodes ∙ ap (λ r. r ++ parts_in here f e) c.in_ok-place.ensures.put)
    ∙ ap (λ n. noted c.args.row.now (framed n (parts_in here f e)))
    (c.found_node.ensures ∙ node_is here f c.args.expr.now _ _ _ done.op done.span done.found)
    ∙ ap (noted c.args.row.now) (sym (whole_row here f e))

pub parts-returns-in_ok-told-in-Call-clause-op : goal.parts-returns-in_ok-told-in-Call-clause-op
parts-returns-in_ok-told-in-Call-clause-op t c =
    let here = c.args.self.scope.now in
    ap (λ p. p.mark.op) c.new-in-Call.ensures
    ∙ c.call_op.ensures
    ∙ ap (λ entry. call_op entry (length c.in-Call.args.now)) c.known-entry.ensures
    ∙ ap (call_op (known_in here c.in-Call.callee.text.now)) (sym (count_is c.in-Call.args.now))
    ∙ sym (ap (op_in here c.args.self.function) (call_at c.args.expr.now c.in-Call.callee c.in-Call.args c.in-Call.is))

pub parts-returns-in_ok-told-in-Call-clause-found : goal.parts-returns-in_ok-told-in-Call-clause-found
parts-returns-in_ok-told-in-Call-clause-found t c =
    let known = context_of c.args.self.scope.now in
    let told = c.in_ok-told-in-Call in
    let params = c.params.ensures in
    ap (λ p. p.found) c.new-in-Call.ensures
    ∙ c.call_verdict-found.ensures
    ∙ sym (ap (found_in known) (call_at c.args.expr.now c.in-Call.callee c.in-Call.args c.in-Call.is)
    ∙ call_found known (name_shape c.in-Call.callee) c.in-Call.args.now c.args.expr.now.span told.told c.known-entry.result c.known-entry.ensures
    (told.ensures.breaks ∙ ap (λ ps. arguments_break ps (types_of known (shapes c.in-Call.args.now))) params)
    (told.ensures.miscounts ∙ ap (λ ps. not (nat_eq (length ps) (length c.in-Call.args.now))) params)
    told.ensures.failure)

pub parts-returns-in_ok-told-in-Call-clause-nodes : goal.parts-returns-in_ok-told-in-Call-clause-nodes
parts-returns-in_ok-told-in-Call-clause-nodes t c =
    let here = c.args.self.scope.now in
    let f = c.args.self.function in
    let rest = row_in_all here f (shapes c.in-Call.args.now) in
    c.in_ok-told-in-Call.ensures.nodes
    ∙ ap (λ r. noted r rest) c.in_ok-leaf-in-Call.ensures.put
    ∙ ap (λ n. noted (noted c.args.row.now (framed n [])) rest)
    (c.callee_node.ensures ∙ ap (callee_node f (name_shape c.in-Call.callee)) c.known-entry.ensures)
    ∙ sym (ap (λ e. noted c.args.row.now (parts_in here f e)) (call_at c.args.expr.now c.in-Call.callee c.in-Call.args c.in-Call.is)
    ∙ noted_call here f c.args.row.now (name_shape c.in-Call.callee) (shapes c.in-Call.args.now) c.args.expr.now.span)

pub parts-returns-in_ok-base-in-Field-clause-op : goal.parts-returns-in_ok-base-in-Field-clause-op
parts-returns-in_ok-base-in-Field-clause-op t c =
    let here = c.args.self.scope.now in
    c.field.ensures.op
    ∙ ap (λ base. member_op c.in-Field.arrow (member_of here c.in-Field.arrow c.in-Field.name.text.now (found_thing base))) c.in_ok-base-in-Field.ensures.judged
    ∙ ap (λ base. member_op c.in-Field.arrow (member_of here c.in-Field.arrow c.in-Field.name.text.now base)) (type_is (context_of here) (shape c.in-Field.base.now))
    ∙ sym (ap (λ k. op_in here c.args.self.function (kind_shape k c.args.expr.now.span)) c.in-Field.is)
