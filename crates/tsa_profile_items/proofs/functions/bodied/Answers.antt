use Rattle.std.proofs.Common.{◌∙◌, Err, true, sym, ap}
use Rattle.std.proofs.lemmas.Result.{err_from_is_err_and}
use Rattle.tsa_tree.specs.declarations.Shapes.{head_shape}
use Rattle.tsa_tree.specs.statements.Shapes.{stmt_shapes}
use Rattle.tsa_tree.specs.types.Scopes.{with_locals}
use Rattle.tsa_tree.specs.types.Symbols.{number_of}
use Rattle.tsa_place_model.specs.LockPaths.{stable_in}
use Rattle.tsa_core_environment.specs.Functions.{outside_of}
use Rattle.tsa_profile_accesses.specs.Premises.{first}
use Rattle.tsa_profile_context.specs.Bodies.{points_premises}
use Rattle.tsa_profile_context.specs.Judging.{declared_attributes, entered, unit_at, with_scope}
use Rattle.tsa_profile_context.specs.Units.{around, heads_premises, points_in}
use Rattle.tsa_profile_items.proofs.Behind.{body_found, inside_still, premises_are}
use Rattle.tsa_profile_context.proofs.Sequences.{judges_err, none_of_all, rest_of_both, some_of_both}
use Rattle.tsa_profile_items.proofs.functions.bodied.Goals as goal

pub returns-in_err-outside-clause-judged : goal.returns-in_err-outside-clause-judged
returns-in_err-outside-clause-judged c =
    let u = unit_at c.args.ground.now in
    let k = c.args.known.now in
    let head = head_shape c.args.head.now in
    let p = err_from_is_err_and c.from_residual-in_err-outside.result c.from_residual-in_err-outside.ensures.1 in
    rw (p.1, p.2)
    (some_of_both (heads_premises u k.attributes k.here head true)
    (points_premises (around u (declared_attributes u k head true) k.here head) (points_in k.here head (stmt_shapes c.args.body.now))) c.in_err-outside.field-0.0
    (judges_err _ _ c.in_err-outside.field-0.0
    (ap (λ b. first (heads_premises u k.attributes k.here head b)) c.requires.body)
    c.in_err-outside.ensures.judged))

pub returns-in_err-judge_body-clause-judged : goal.returns-in_err-judge_body-clause-judged
returns-in_err-judge_body-clause-judged c =
    let u = unit_at c.args.ground.now in
    let k = c.args.known.now in
    let head = head_shape c.args.head.now in
    let body = stmt_shapes c.args.body.now in
    let number = c.in_ok-number.ensures ∙ ap (λ m. number_of m.here head) c.known.view_is in
    let stable = ap stable_in c.deref-2.ensures.value ∙ c.in_ok-stable.ensures in
    let inside = c.in_ok-outside.ensures.entered ∙ ap (entered u k head) c.requires.body in
    let none = sym (ap (λ b. first (heads_premises u k.attributes k.here head b)) c.requires.body) ∙ c.in_ok-outside.ensures.judged in
    let p = err_from_is_err_and c.from_residual-in_err-judge_body.result c.from_residual-in_err-judge_body.ensures.1 in
    rw (p.1, p.2)
    (rest_of_both (heads_premises u k.attributes k.here head true) (points_premises (around u (declared_attributes u k head true) k.here head) (points_in k.here head body))
    (Err c.in_err-judge_body.field-0.0) none
    (judges_err _ _ c.in_err-judge_body.field-0.0 (premises_are c.args.ground.now k head c.in_ok-number.number c.deref-2.result.now number stable body c.enter_head.new.known inside) c.in_err-judge_body.ensures.judged))

pub returns-clause-judged : goal.returns-clause-judged
returns-clause-judged c =
    let u = unit_at c.args.ground.now in
    let k = c.args.known.now in
    let head = head_shape c.args.head.now in
    let body = stmt_shapes c.args.body.now in
    let number = c.in_ok-number.ensures ∙ ap (λ m. number_of m.here head) c.known.view_is in
    let stable = ap stable_in c.deref-2.ensures.value ∙ c.in_ok-stable.ensures in
    let inside = c.in_ok-outside.ensures.entered ∙ ap (entered u k head) c.requires.body in
    let none = sym (ap (λ b. first (heads_premises u k.attributes k.here head b)) c.requires.body) ∙ c.in_ok-outside.ensures.judged in
    none_of_all (heads_premises u k.attributes k.here head true) (points_premises (around u (declared_attributes u k head true) k.here head) (points_in k.here head body)) none
    (sym (premises_are c.args.ground.now k head c.in_ok-number.number c.deref-2.result.now number stable body c.enter_head.new.known inside) ∙ c.in_ok-judge_body.ensures.judged)

pub returns-clause-behind : goal.returns-clause-behind
returns-clause-behind c =
    let u = unit_at c.args.ground.now in
    let k = c.args.known.now in
    let head = head_shape c.args.head.now in
    let body = stmt_shapes c.args.body.now in
    let s = c.deref-2.result.now in
    let n = c.in_ok-number.number in
    let e = c.enter_head.new.known in
    let number = c.in_ok-number.ensures ∙ ap (λ m. number_of m.here head) c.known.view_is in
    let stable = ap stable_in c.deref-2.ensures.value ∙ c.in_ok-stable.ensures in
    let inside = c.in_ok-outside.ensures.entered ∙ ap (entered u k head) c.requires.body in
    let outside = c.in_ok-outside.ensures.outside ∙ ap (outside_of k.here head) c.requires.body in
    let found = c.judge_body.new.known in
    let told = c.in_ok-judge_body.ensures.found in
    λ close. body_found c.args.ground.now k head n s number stable body e inside close found _ told
    (ap (with_scope c.leave.new.scope) c.known-2.view_is
    ∙ ap (λ h. with_scope h found)
    (c.leave.ensures.behind k.here head true outside
    (ap (λ m. with_locals 0 m.here) c.known-2.view_is ∙ inside_still c.args.ground.now k head n s number stable body e inside found told)))
