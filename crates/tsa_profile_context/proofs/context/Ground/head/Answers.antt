use Rattle.std.proofs.Common.{◌∙◌, Err, is_some, sym, ap}
use Rattle.std.proofs.lemmas.Result.{err_from_is_err_and}
use Rattle.tsa_tree.specs.declarations.Shapes.{head_shape}
use Rattle.tsa_tree.specs.types.DeclaredTypes.{thing_type}
use Rattle.tsa_tree.specs.types.Heads.{inside}
use Rattle.tsa_profile_accesses.specs.NodeAnswers.{view_of}
use Rattle.tsa_profile_context.proofs.HeadJudged.{inner, inner_is, outer, outer_is, view_is}
use Rattle.tsa_profile_context.proofs.Sequences.{judges_err, none_of_all, rest_of_both, some_of_both}
use Rattle.tsa_profile_context.proofs.context.Ground.head.Goals as goal

pub returns-in_err-outer-clause-judged : goal.returns-in_err-outer-clause-judged
returns-in_err-outer-clause-judged c =
    let g = c.args.self.now in
    let k = c.args.known.now in
    let head = head_shape c.args.head.now in
    let b = is_some c.args.head.now.body in
    let p = err_from_is_err_and c.from_residual.result c.from_residual.ensures.1 in
    rw (p.1, p.2)
    (some_of_both (outer g k head b) (inner g k head b) c.in_err-outer.field-0.0 (judges_err _ _ c.in_err-outer.field-0.0 (outer_is g k head b _ c.known.view_is) c.in_err-outer.ensures))

pub returns-in_err-inner-clause-judged : goal.returns-in_err-inner-clause-judged
returns-in_err-inner-clause-judged c =
    let g = c.args.self.now in
    let k = c.args.known.now in
    let head = head_shape c.args.head.now in
    let b = is_some c.args.head.now.body in
    let seen =
    view_is g k head b (view_of c.view-body.result) c.deref.result.now c.enter.new.scope c.args.stable.now c.view-body.ensures
    (c.deref.ensures.value ∙ ap (λ m. m.attributes) c.known.view_is) (c.in_ok-outside.ensures.inside ∙ ap (λ m. inside m.here head b) c.known.view_is) c.requires.stable in
    let within =
    inner_is g k head b (view_of c.view-body.result) seen c.in_ok-gives.field-0.kind
    (ap (λ t. t.kind) c.in_ok-gives.ensures ∙ ap (λ m. (thing_type m.here head.result).kind) c.known.view_is) in
    let none = sym (outer_is g k head b _ c.known.view_is) ∙ c.in_ok-outer.ensures in
    let p = err_from_is_err_and c.from_residual-in_err-inner.result c.from_residual-in_err-inner.ensures.1 in
    rw (p.1, p.2)
    (rest_of_both (outer g k head b) (inner g k head b) (Err c.in_err-inner.field-0.0) none
    (judges_err _ _ c.in_err-inner.field-0.0 within c.in_err-inner.ensures))

pub returns-clause-judged : goal.returns-clause-judged
returns-clause-judged c =
    let g = c.args.self.now in
    let k = c.args.known.now in
    let head = head_shape c.args.head.now in
    let b = is_some c.args.head.now.body in
    let seen =
    view_is g k head b (view_of c.view-body.result) c.deref.result.now c.enter.new.scope c.args.stable.now c.view-body.ensures
    (c.deref.ensures.value ∙ ap (λ m. m.attributes) c.known.view_is) (c.in_ok-outside.ensures.inside ∙ ap (λ m. inside m.here head b) c.known.view_is) c.requires.stable in
    let within =
    inner_is g k head b (view_of c.view-body.result) seen c.in_ok-gives.field-0.kind
    (ap (λ t. t.kind) c.in_ok-gives.ensures ∙ ap (λ m. (thing_type m.here head.result).kind) c.known.view_is) in
    let none = sym (outer_is g k head b _ c.known.view_is) ∙ c.in_ok-outer.ensures in
    none_of_all (outer g k head b) (inner g k head b) none (sym within ∙ c.in_ok-inner.ensures)
