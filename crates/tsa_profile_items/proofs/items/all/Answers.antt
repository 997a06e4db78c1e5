use Rattle.std.proofs.Common.{◌∙◌, [], ◌++◌, Err}
use Rattle.std.proofs.lemmas.Result.{err_from_is_err_and}
use Rattle.tsa_tree.specs.types.Units.{outset}
use Rattle.tsa_profile_context.specs.Judging.{unit_at}
use Rattle.tsa_profile_context.specs.Units.{items_premises, paths_limits, tries_limits}
use Rattle.tsa_profile_items.proofs.AllItems.{limits_all}
use Rattle.tsa_profile_context.proofs.Sequences.{judged_fails, judged_holds, none_of_all, rest_of_both, some_of_both}
use Rattle.tsa_profile_items.proofs.items.all.Goals as goal

pub returns-in_err-each_item-clause-judged : goal.returns-in_err-each_item-clause-judged
returns-in_err-each_item-clause-judged c =
    let u = unit_at c.args.ground.now in
    let p = err_from_is_err_and c.from_residual.result c.from_residual.ensures.1 in
    rw (p.1, p.2)
    (some_of_both (items_premises u [] (outset u.items) u.items) (tries_limits u [] (outset u.items) u.items ++ paths_limits u [] (outset u.items) u.items)
    c.in_err-each_item.field-0.0 c.in_err-each_item.ensures.judged)

pub returns-in_err-answer_of-clause-judged : goal.returns-in_err-answer_of-clause-judged
returns-in_err-answer_of-clause-judged c =
    let u = unit_at c.args.ground.now in
    let p = err_from_is_err_and c.from_residual-in_err-answer_of.result c.from_residual-in_err-answer_of.ensures.1 in
    rw (p.1, p.2)
    (rest_of_both (items_premises u [] (outset u.items) u.items) (tries_limits u [] (outset u.items) u.items ++ paths_limits u [] (outset u.items) u.items)
    (Err c.in_err-answer_of.field-0.0) c.in_ok-each_item.ensures.judged
    (judged_fails _ _ _ (c.or_else.ensures ∙ limits_all u _ (c.known.view_is ∙ c.in_ok-each_item.ensures.behind)) c.answer_of.ensures c.in_err-answer_of.field-0.0 c.in_err-answer_of.was))

pub returns-clause-judged : goal.returns-clause-judged
returns-clause-judged c =
    let u = unit_at c.args.ground.now in
    none_of_all (items_premises u [] (outset u.items) u.items) (tries_limits u [] (outset u.items) u.items ++ paths_limits u [] (outset u.items) u.items)
    c.in_ok-each_item.ensures.judged
    (judged_holds _ _ _ (c.or_else.ensures ∙ limits_all u _ (c.known.view_is ∙ c.in_ok-each_item.ensures.behind)) c.answer_of.ensures _ c.in_ok-answer_of.was)
