use Rattle.std.proofs.Common.{◌∙◌, ◌∷◌, [], filter, is_none, length, map, nat_lt, slice_set, ap}
use Rattle.std.proofs.lemmas.Result.{err_from_is_err_and}
use Rattle.tsa_tree.specs.statements.Shapes.{stmt_shapes}
use Rattle.tsa_tree.specs.types.Scopes.{further}
use Rattle.tsa_tree.specs.types.Targets.{declared_in_all}
use Rattle.tsa_core_points.specs.Steps.{step_shape}
use Rattle.tsa_core_points.specs.Points.{placed_all}
use Rattle.tsa_core_points.specs.Walks.{points_along, walk, walk_behind}
use Rattle.tsa_profile_accesses.specs.declared.premise.ProfileCode.TheVariants.{LM4, LM7}
use Rattle.tsa_profile_accesses.specs.Premises.{first, or_else, premise}
use Rattle.tsa_profile_accesses.specs.Expressions.{attributes_at}
use Rattle.tsa_profile_context.specs.Bodies.{is_try_variable, points_premises}
use Rattle.tsa_profile_context.specs.Ways.{function_paths}
use Rattle.tsa_profile_context.specs.Judging.{around_at}
use Rattle.tsa_profile_items.proofs.Behind.{all_found, none_told}
use Rattle.tsa_profile_context.proofs.Sequences.{judged_fails, judged_holds}
use Rattle.tsa_profile_items.proofs.WholeBodies.{failure_along, paths_along, scope_behind, tries_along}
use Rattle.tsa_profile_items.proofs.bodies.judge_body.Goals as goal

pub returns-in_err-answer_of-clause-judged : goal.returns-in_err-answer_of-clause-judged
returns-in_err-answer_of-clause-judged c =
    let k = c.args.known.now in
    let body = stmt_shapes c.args.body.now in
    let inner = c.args.inner in
    let a = around_at c.args.ground.now k inner.number inner.stable.now in
    let steps = ap (map step_shape) c.deref.ensures.value ∙ c.in_ok-steps.ensures in
    let failure =
    c.in_ok-found.ensures.failure
    ∙ ap (λ s. first (points_premises a (points_along (walk k.here []) s))) steps
    ∙ failure_along a k.here body inner.close in
    let p = err_from_is_err_and c.from_residual-in_err-answer_of.result c.from_residual-in_err-answer_of.ensures.1 in
    rw (p.1, p.2) (judged_fails _ _ _ failure c.answer_of.ensures c.in_err-answer_of.field-0.0 c.in_err-answer_of.was)

pub returns-clause-judged : goal.returns-clause-judged
returns-clause-judged c =
    let k = c.args.known.now in
    let body = stmt_shapes c.args.body.now in
    let inner = c.args.inner in
    let a = around_at c.args.ground.now k inner.number inner.stable.now in
    let steps = ap (map step_shape) c.deref.ensures.value ∙ c.in_ok-steps.ensures in
    let failure =
    c.in_ok-found.ensures.failure
    ∙ ap (λ s. first (points_premises a (points_along (walk k.here []) s))) steps
    ∙ failure_along a k.here body inner.close in
    judged_holds _ _ _ failure c.answer_of.ensures _ c.in_ok-answer_of.was

pub returns-clause-found : goal.returns-clause-found
returns-clause-found c =
    let k = c.args.known.now in
    let body = stmt_shapes c.args.body.now in
    let inner = c.args.inner in
    let a = around_at c.args.ground.now k inner.number inner.stable.now in
    let own = attributes_at k.attributes inner.number in
    let steps = ap (map step_shape) c.deref.ensures.value ∙ c.in_ok-steps.ensures in
    let known = c.known-2.view_is ∙ c.in_ok-found.ensures.known in
    let tries =
    c.in_ok-found.ensures.tries
    ∙ ap (λ s. length (filter (is_try_variable a) (points_along (walk k.here []) s))) steps
    ∙ tries_along a k.here body inner.close in
    let paths =
    c.in_ok-found.ensures.paths
    ∙ ap (λ s. function_paths a own (points_along (walk k.here []) s)) steps
    ∙ paths_along a k.here body inner.close own in
    all_found k inner.number inner.name a (further (declared_in_all body) k.here) (placed_all k.here body) _
    (ap (λ m. m.here) known ∙ ap (λ s. (walk_behind (walk k.here []) s).here) steps ∙ scope_behind a k.here body inner.close)
    (ap (λ m. m.attributes) known)
    (c.set_paths.ensures ∙ ap (λ m. slice_set m.tables inner.number c.in_ok-found.found.paths) known ∙ ap (slice_set k.tables inner.number) paths)
    (c.or_else-known-inside.ensures ∙ ap (λ m. or_else m.tries c.limit-passes_tries.result) known
    ∙ ap (or_else k.tries) (c.limit-passes_tries.ensures ∙ ap (λ n. first (premise LM7 inner.name (nat_lt 48 n) ∷ [])) tries))
    (c.or_else-known-inside-2.ensures ∙ ap (λ m. or_else m.paths c.limit-passes_paths.result) known
    ∙ ap (or_else k.paths) (c.limit-passes_paths.ensures ∙ ap (λ b. first (premise LM4 inner.name b ∷ [])) (none_told _ _ c.is_none.ensures ∙ ap is_none paths)))
