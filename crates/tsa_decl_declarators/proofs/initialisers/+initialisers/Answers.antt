use Rattle.std.proofs.Common.{◌∙◌, sym, ap, Ok, rules}
use Rattle.tsa_tree.specs.declarations.Shapes.{init_shape, init_shapes}
use Rattle.tsa_decl_declarators.proofs.ValueLaws.{braces_go, values_fail, values_last, braces_fail}
use Rattle.tsa_expr.proofs.Answering.{fails_same}
use Rattle.tsa_decl_declarators.proofs.initialisers.+initialisers.Goals as goal

pub initialiser-returns-clause-gives : goal.initialiser-returns-clause-gives
initialiser-returns-clause-gives t c =
    braces_go _ _ c.args.depth c.args.at c.new-items.result.items _ _ _ c.over-span.result _ (sym c.sign.ensures.is ∙ c.in-OpenBrace.is)
    c.if-depth-ge-NESTING_LIMIT.false c.new-items.ensures.items c.in_ok-next.ensures.gives c.list_before.ensures.is (ap init_shapes c.listed.ensures)
    c.over-span.ensures
    ∙ ap (λ n. Ok (init_shape c.list_before.result.init, n)) (sym c.list_before.ensures.next_is)

pub braced_list-returns-in_err-inner-clause-gives : goal.braced_list-returns-in_err-inner-clause-gives
braced_list-returns-in_err-inner-clause-gives c = search (rules, values_fail, fails_same)

pub braced_list-returns-in-CloseBrace-clause-gives : goal.braced_list-returns-in-CloseBrace-clause-gives
braced_list-returns-in-CloseBrace-clause-gives c = search (rules, values_last)

pub initialiser-returns-in_err-next-clause-gives : goal.initialiser-returns-in_err-next-clause-gives
initialiser-returns-in_err-next-clause-gives c = search (rules, braces_fail)
