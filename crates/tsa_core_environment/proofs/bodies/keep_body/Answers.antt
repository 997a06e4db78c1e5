use Rattle.std.proofs.Common.{◌∙◌, is_some, ap}
use Rattle.tsa_tree.specs.declarations.Shapes.{head_shape}
use Rattle.tsa_tree.specs.statements.Shapes.{stmt_shapes}
use Rattle.tsa_tree.specs.types.Scopes.{with_locals}
use Rattle.tsa_core_environment.specs.Bodies.{with_first, stable_of}
use Rattle.tsa_core_environment.proofs.bodies.keep_body.Goals as goal

pub returns-clause-behind : goal.returns-clause-behind
returns-clause-behind c =
    c.leave.ensures.behind c.args.before (head_shape c.args.function.now) (is_some c.args.function.now.body) c.in_ok-outside.ensures.outside
    (ap (with_locals 0) c.into_scope-scope.ensures ∙ c.in_ok-stable.ensures.inside ∙ ap (λ w. with_locals 0 w.here) c.new-walk.ensures ∙ ap (with_locals 0) c.in_ok-outside.ensures.inside)

pub returns-clause-kept : goal.returns-clause-kept
returns-clause-kept c =
    let head = head_shape c.args.function.now in
    let body = stmt_shapes c.args.body.now in
    c.in_ok-keep.ensures
    ∙ ap (λ s. with_first head.name.text s c.args.table.now)
    (c.in_ok-stable.ensures.stable ∙ ap (λ w. stable_of w.here head body) c.new-walk.ensures ∙ ap (λ s. stable_of s head body) c.in_ok-outside.ensures.inside)
