use Rattle.std.proofs.Common.{◌∙◌, ℕ, Bool, List, [], filter, length, map, ap}
use Rattle.tsa_place_model.specs.LockPaths.{stable_in}
use Rattle.tsa_core.specs.Programs.{Attr}
use Rattle.tsa_core_points.specs.Steps.{step_shape}
use Rattle.tsa_core_points.specs.Walks.{points_along, walk}
use Rattle.tsa_profile_accesses.specs.Locks.{tries}
use Rattle.tsa_profile_accesses.specs.Expressions.{attributes_at}
use Rattle.tsa_profile_context.specs.Bodies.{Around, is_try_variable}
use Rattle.tsa_profile_context.specs.declared.context.Ground.{Ground}
use Rattle.tsa_profile_context.specs.Judging.{unit_at}
use Rattle.tsa_profile_items.proofs.bodies.along.Goals as goal

abbrev around_with : Ground → ℕ → List Bool → List (List Attr) → Around
around_with g n s known = record {
  layout = (unit_at g).program.layout;
  attributes = known;
  tries = tries (attributes_at known n);
  stable = stable_in s;
}

pub returns-clause-tries : goal.returns-clause-tries
returns-clause-tries c =
    let steps = map step_shape c.args.steps.now in
    let around = around_with c.args.ground.now c.args.inner.number c.args.inner.stable.now in
    c.in_ok-judged.ensures.tries
    ∙ ap (λ a. length (filter (is_try_variable a) (points_along c.new-walk.result steps)))
    (c.around-around.ensures ∙ ap around (c.deref-2.ensures.value ∙ ap (λ m. m.attributes) c.known.view_is))
    ∙ ap (λ w. length (filter (is_try_variable (around c.args.known.now.attributes)) (points_along w steps))) (c.new-walk.ensures ∙ ap (λ s. walk s []) c.in_ok-take_scope.ensures ∙ ap (λ m. walk m.here []) c.known.view_is)
