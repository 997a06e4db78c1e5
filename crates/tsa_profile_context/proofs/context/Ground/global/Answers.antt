use Rattle.std.proofs.Common.{◌∙◌, Err, ap}
use Rattle.std.proofs.lemmas.Result.{err_from_is_err_and}
use Rattle.tsa_tree.specs.declarations.Shapes.{decl_shape}
use Rattle.tsa_tree.specs.types.Globals.{with_global}
use Rattle.tsa_profile_accesses.specs.Premises.{first}
use Rattle.tsa_profile_accesses.specs.NodeAnswers.{view_of}
use Rattle.tsa_profile_points.specs.Declarations.{given_init, guard_premises}
use Rattle.tsa_profile_context.specs.Judging.{unit_at}
use Rattle.tsa_profile_context.proofs.GlobalJudged.{given, guards, view_is}
use Rattle.tsa_profile_context.proofs.Sequences.{judged_fails, judged_holds, none_of_all, rest_of_both, some_of_both}
use Rattle.tsa_profile_context.proofs.context.Ground.global.Goals as goal

pub returns-in_err-answer_of-clause-judged : goal.returns-in_err-answer_of-clause-judged
returns-in_err-answer_of-clause-judged c =
    let u = unit_at c.args.self.now in
    let k = c.args.known.now in
    let d = decl_shape c.args.decl.now in
    let seen =
    view_is u k d (view_of c.view-body.result) c.deref.result.now c.begin_global.new.scope c.view-body.ensures
    (c.deref.ensures.value ∙ ap (λ m. m.attributes) c.known.view_is) (c.in_ok-begin_global.ensures ∙ ap (λ m. with_global m.here d) c.known.view_is) in
    let first_is = c.in_ok-guards_failure.ensures ∙ ap (λ v. first (guard_premises v d.attrs)) seen in
    let p = err_from_is_err_and c.from_residual-in_err-answer_of.result c.from_residual-in_err-answer_of.ensures.1 in
    rw (p.1, p.2)
    (some_of_both (guards u k d) (given u k d) c.in_err-answer_of.field-0.0 (judged_fails _ _ _ first_is c.answer_of.ensures c.in_err-answer_of.field-0.0 c.in_err-answer_of.was))

pub returns-in_err-answer_of-2-clause-judged : goal.returns-in_err-answer_of-2-clause-judged
returns-in_err-answer_of-2-clause-judged c =
    let u = unit_at c.args.self.now in
    let k = c.args.known.now in
    let d = decl_shape c.args.decl.now in
    let seen =
    view_is u k d (view_of c.view-body.result) c.deref.result.now c.begin_global.new.scope c.view-body.ensures
    (c.deref.ensures.value ∙ ap (λ m. m.attributes) c.known.view_is) (c.in_ok-begin_global.ensures ∙ ap (λ m. with_global m.here d) c.known.view_is) in
    let first_is = c.in_ok-guards_failure.ensures ∙ ap (λ v. first (guard_premises v d.attrs)) seen in
    let then_is = c.in_ok-given_failure.ensures ∙ ap (λ v. first (given_init v d.init)) seen in
    let p = err_from_is_err_and c.from_residual-in_err-answer_of-2.result c.from_residual-in_err-answer_of-2.ensures.1 in
    rw (p.1, p.2)
    (rest_of_both (guards u k d) (given u k d) (Err c.in_err-answer_of-2.field-0.0) (judged_holds _ _ _ first_is c.answer_of.ensures _ c.in_ok-answer_of.was)
    (judged_fails _ _ _ then_is c.answer_of-2.ensures c.in_err-answer_of-2.field-0.0 c.in_err-answer_of-2.was))

pub returns-clause-judged : goal.returns-clause-judged
returns-clause-judged c =
    let u = unit_at c.args.self.now in
    let k = c.args.known.now in
    let d = decl_shape c.args.decl.now in
    let seen =
    view_is u k d (view_of c.view-body.result) c.deref.result.now c.begin_global.new.scope c.view-body.ensures
    (c.deref.ensures.value ∙ ap (λ m. m.attributes) c.known.view_is) (c.in_ok-begin_global.ensures ∙ ap (λ m. with_global m.here d) c.known.view_is) in
    let first_is = c.in_ok-guards_failure.ensures ∙ ap (λ v. first (guard_premises v d.attrs)) seen in
    let then_is = c.in_ok-given_failure.ensures ∙ ap (λ v. first (given_init v d.init)) seen in
    none_of_all (guards u k d) (given u k d) (judged_holds _ _ _ first_is c.answer_of.ensures _ c.in_ok-answer_of.was)
    (judged_holds _ _ _ then_is c.answer_of-2.ensures _ c.in_ok-answer_of-2.was)
