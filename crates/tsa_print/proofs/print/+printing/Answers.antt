use Rattle.std.proofs.Common.{◌≡◌, ◌++◌, [], drop, ap, sym, ◌∙◌, arith, rules}
use Rattle.std.proofs.lemmas.List.{append_assoc, append-nil, drop_all}
use Rattle.tsa_tree.specs.expressions.Syntax.{height}
use Rattle.tsa_tree.specs.expressions.Shapes.{shape, shapes}
use Rattle.tsa_tree.proofs.expressions.Trees.{call_at}
use Rattle.tsa_print.proofs.WrittenParts.{written_call, written_unary, written_binary, written_field, written_index, written_arguments}
use Rattle.tsa_print.proofs.WrittenParts.{listed}
use Rattle.tsa_print.proofs.print.+printing.Goals as goal

pub write_arguments-returns : goal.write_arguments-returns
write_arguments-returns t c =
    let args = c.args.args.now in
    let none : drop c.each.arg-index args ≡ [] = drop_all c.each.arg-index args c.each-test.false in
    sym (append-nil c.each.out.items)
    ∙ ap (λ es. c.each.out.items ++ listed c.each.separator.now (shapes es)) (sym none)
    ∙ c.each.invariant.text ∙ ap (λ text. c.args.out.now.items ++ text) (sym (written_arguments (shapes args)))

pub write_binary-returns : goal.write_binary-returns
write_binary-returns t c = search (rules, written_binary c.args.op (shape c.args.left.now) (shape c.args.right.now) c.args.place, append_assoc)

pub write_call-returns : goal.write_call-returns
write_call-returns t c = search (rules, written_call c.args.callee.text.now (shapes c.args.args.now), append_assoc)

pub write_expr-write_call-requires : goal.write_expr-write_call-requires
write_expr-write_call-requires t c = (omega (arith, ap height (call_at c.args.expr.now c.in-Call.callee c.in-Call.args c.in-Call.is)), tt)

pub write_expr-returns-in-Call : goal.write_expr-returns-in-Call
write_expr-returns-in-Call t c = search (rules, call_at c.args.expr.now c.in-Call.callee c.in-Call.args c.in-Call.is)

pub write_field-returns : goal.write_field-returns
write_field-returns t c = search (rules, written_field (shape c.args.base.now) c.args.name.text.now c.args.arrow, append_assoc)

pub write_index-returns : goal.write_index-returns
write_index-returns t c = search (rules, written_index (shape c.args.array.now) (shape c.args.at.now), append_assoc)

pub write_unary-returns : goal.write_unary-returns
write_unary-returns t c = search (rules, written_unary c.args.op (shape c.args.inner.now) c.args.place, append_assoc)
