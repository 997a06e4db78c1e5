use Rattle.std.proofs.Common.{◌∙◌, [], false, Bool, List, map, ap, ap₂}
use Rattle.std.proofs.lemmas.Result.{on_ok_weaker, IfOk-weaker}
use Rattle.tsa_tree.specs.declarations.Shapes.{head_shape}
use Rattle.tsa_tree.specs.statements.Shapes.{stmt_shapes}
use Rattle.tsa_tree.specs.types.DeclaredTypes.{thing_type}
use Rattle.tsa_place_model.specs.LockPaths.{stable_in}
use Rattle.tsa_core.specs.Programs.{Attr}
use Rattle.tsa_core_points.specs.Walks.{points_along, walk}
use Rattle.tsa_core_points.specs.Steps.{step_shape}
use Rattle.tsa_profile_points.specs.Bodies.{Around}
use Rattle.tsa_profile_points.specs.PointAnswers.{around_of}
use Rattle.tsa_rules_bodies.specs.Knowing.{Knowledge, with_scope}
use Rattle.tsa_rules_view.specs.BodyViews.{around_in, points_in, result_in}
use Rattle.tsa_rules_view.proofs.Leaving.{same_behind}
use Rattle.tsa_rules_view.proofs.SameNotes.{notes_same}
use Rattle.tsa_rules_view.proofs.build.Unit.noted.Goals as goal

pub returns-clause-noted : goal.returns-clause-noted
returns-clause-noted c =
    let u = c.args.self.now in
    let k = c.args.known.now in
    let i = c.args.inside.now in
    let paths = c.args.paths.now in
    let here = ap (λ m. m.here) c.known.view_is in
    let made : List (List Attr) → List Bool → Around = λ attrs stable. record { layout = u.layout.now; attributes = attrs; tries = false; stable = stable_in stable } in
    let around = c.around-around.ensures ∙ ap₂ made (c.deref.ensures.value ∙ ap (λ m. m.attributes) c.known.view_is) c.deref-2.ensures.value in
    let kind = ap (λ t. t.kind) c.in_ok-kind.ensures ∙ ap (λ h. (thing_type h (head_shape i.head.now).result).kind) here in
    let points = ap₂ (λ h ss. points_along (walk h []) ss) here (ap (map step_shape) c.deref-3.ensures.value ∙ c.in_ok-steps.ensures) in
    IfOk-weaker c.notes_along.result _ _
    (λ noted is.
    record {
      notes =
          notes_same (around_of c.around-around.result) (around_in u k i) c.in_ok-kind.field-0.kind (result_in k i) paths
          (points_along (walk c.known.inside.scope []) (map step_shape c.deref-3.result.now)) (points_in k i) noted.notes around kind points is.notes;
      numbers = is.numbers;
    })
    c.notes_along.ensures.noted

pub returns-clause-known : goal.returns-clause-known
returns-clause-known c =
    let i = c.args.inside.now in
    let k : Knowledge = record { here = c.known.inside.scope; attributes = c.known.inside.attributes.items } in
    on_ok_weaker c.notes_along.result
    (λ h. ap (λ s. with_scope s k) (h
    ∙ same_behind c.known.inside.scope (stmt_shapes i.body.now) i.head.now.name.span (map step_shape c.deref-3.result.now) (ap (map step_shape) c.deref-3.ensures.value ∙ c.in_ok-steps.ensures))
    ∙ c.known.view_is)
    c.notes_along.ensures.scope
