-- What is known behind a body, but for the locals that were counted, is what was known in front of it.
use Rattle.std.proofs.Common.{◌≡◌, ◌∙◌, List, [], ap}
use Rattle.tsa_base.specs.declared.token.Span.{Span}
use Rattle.tsa_tree.specs.statements.Syntax.{Statements}
use Rattle.tsa_tree.specs.types.Scopes.{Scope, with_locals}
use Rattle.tsa_core_points.specs.Steps.{BodyStep, body_steps}
use Rattle.tsa_core_points.specs.Walks.{walk, walk_behind}
use Rattle.tsa_core_points.proofs.Passing.{body_steps_are_the_points}

pub same_behind : (here : Scope) (body : Statements) (close : Span) (steps : List BodyStep) → steps ≡ body_steps body close → with_locals here.locals (walk_behind (walk here []) steps).here ≡ here
same_behind here body close steps are =
    ap (λ xs. with_locals here.locals (walk_behind (walk here []) xs).here) are
    ∙ ap (λ w. with_locals here.locals w.here) (body_steps_are_the_points here [] body close).1
