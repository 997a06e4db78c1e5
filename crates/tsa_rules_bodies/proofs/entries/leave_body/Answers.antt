use Rattle.std.proofs.Common.{◌∙◌, true, ap}
use Rattle.tsa_tree.specs.declarations.Shapes.{head_shape}
use Rattle.tsa_tree.specs.statements.Shapes.{stmt_shapes}
use Rattle.tsa_tree.specs.types.Scopes.{with_locals}
use Rattle.tsa_rules_bodies.specs.Knowing.{with_scope}
use Rattle.tsa_rules_bodies.proofs.Passing.{body_behind}
use Rattle.tsa_rules_bodies.proofs.entries.leave_body.Goals as goal

pub returns-clause-behind : goal.returns-clause-behind
returns-clause-behind c =
    let head = head_shape c.args.inside.now.head.now in
    let body = stmt_shapes c.args.inside.now.body.now in
    λ unit before close outside within.
    ap (with_scope c.leave.new.scope) c.known.view_is
    ∙ body_behind unit before c.args.known.now head body close c.leave.new.scope
    (c.leave.ensures.behind before.here head true outside (ap (λ m. with_locals 0 m.here) c.known.view_is ∙ within.0)) within.1
