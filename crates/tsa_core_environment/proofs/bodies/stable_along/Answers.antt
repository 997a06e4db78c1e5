use Rattle.std.proofs.Common.{◌∙◌, true, map, replicate, ap}
use Rattle.std.proofs.lemmas.Result.{on_ok_weaker, IfOk-weaker}
use Rattle.tsa_tree.specs.declarations.Shapes.{head_shape}
use Rattle.tsa_tree.specs.statements.Shapes.{stmt_shapes}
use Rattle.tsa_tree.specs.types.DeclaredTypes.{thing_type}
use Rattle.tsa_tree.specs.types.Scopes.{with_locals}
use Rattle.tsa_core_points.specs.Steps.{step_shape}
use Rattle.tsa_core_points.specs.Stable.{stable_along}
use Rattle.tsa_core_points.specs.Walks.{walk_behind}
use Rattle.tsa_core_points.proofs.PointsOfCore.{stable_is_of_the_core}
use Rattle.tsa_core_points.proofs.Passing.{body_steps_are_the_points}
use Rattle.tsa_core_environment.proofs.bodies.stable_along.Goals as goal

pub returns-clause-stable : goal.returns-clause-stable
returns-clause-stable c =
    let w = c.args.walk.now in
    let f = c.args.function.now in
    IfOk-weaker c.stable_locals.result _ _
    (λ stable h. h ∙ ap (stable_along (replicate w.here.locals true) w) (ap (map step_shape) c.deref.ensures.value ∙ c.in_ok-steps.ensures)
    ∙ stable_is_of_the_core w.here w.blocks (thing_type w.here (head_shape f).result).kind (stmt_shapes c.args.body.now) f.name.span)
    c.stable_locals.ensures.stable

pub returns-clause-inside : goal.returns-clause-inside
returns-clause-inside c =
    let w = c.args.walk.now in
    on_ok_weaker c.stable_locals.result
    (λ h. ap (λ v. with_locals 0 v.here) (h ∙ ap (walk_behind w) (ap (map step_shape) c.deref.ensures.value ∙ c.in_ok-steps.ensures) ∙ (body_steps_are_the_points w.here w.blocks (stmt_shapes c.args.body.now) c.args.function.now.name.span).1))
    c.stable_locals.ensures.behind
