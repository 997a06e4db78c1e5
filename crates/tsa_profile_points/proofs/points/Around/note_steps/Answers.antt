use Rattle.std.proofs.Common.{◌∙◌, arith, ◌∷◌, suc, drop, sym, ap}
use Rattle.std.proofs.Math.Seq.{drop-cons}
use Rattle.std.proofs.lemmas.List.{drop_all}
use Rattle.tsa_core_points.specs.Steps.{step_shape}
use Rattle.tsa_core_points.specs.Walks.{points_at}
use Rattle.tsa_profile_points.specs.Judging.{behind_points}
use Rattle.tsa_profile_points.specs.PointAnswers.{around_of}
use Rattle.tsa_profile_points.proofs.Judges.{one_more_at_most, steps_end, steps_next, walk_next}
use Rattle.tsa_profile_points.proofs.points.Around.note_steps.Goals as goal

pub each-preserved : goal.each-preserved
each-preserved c =
    let a = around_of c.args.self in
    let steps = c.args.steps.now in
    let i = c.each.step-index in
    let x = c.step-item.result in
    let at_i = drop-cons steps i x c.each-test.true ∙ ap (λ y. y ∷ drop (suc i) steps) (sym c.step-item.is) in
    let noted = c.in_ok-note_step.ensures ∙ ap (λ s. behind_points a c.each.found (points_at s (step_shape x))) c.scope.ensures in
    let one = one_more_at_most a c.each.found c.note_step.new.found c.each.walk.here (step_shape x) noted in
    let few = c.each.invariant.few in
    record {
      found = steps_next a steps i c.each.found c.each.walk x at_i c.note_step.new.found c.pass.new.self c.in_ok-pass.ensures noted ∙ c.each.invariant.found;
      few = omega (arith, one, few);
      behind = walk_next a steps i c.each.found c.each.walk x at_i c.note_step.new.found c.pass.new.self c.in_ok-pass.ensures ∙ c.each.invariant.behind;
    }

pub returns-clause-found : goal.returns-clause-found
returns-clause-found c =
    let steps = c.args.steps.now in
    let i = c.each.step-index in
    sym (steps_end (around_of c.args.self) steps i c.each.found c.each.walk (drop_all i steps c.each-test.false)) ∙ c.each.invariant.found
