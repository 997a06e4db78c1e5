use Rattle.std.proofs.Common.{◌∙◌, is_some, ap}
use Rattle.tsa_tree.specs.declarations.Shapes.{head_shape}
use Rattle.tsa_tree.specs.types.Scopes.{with_locals}
use Rattle.tsa_place_model.specs.LockPaths.{stable_in}
use Rattle.tsa_core_environment.proofs.BodyLists.{head_told}
use Rattle.tsa_profile.specs.Judging.{unit_at}
use Rattle.tsa_rules_bodies.specs.Knowing.{entered, with_scope}
use Rattle.tsa_rules_bodies.proofs.Passing.{function_behind}
use Rattle.tsa_rules_bodies.proofs.knowledge.pass_function.Goals as goal

pub enter_head-requires : goal.enter_head-requires
enter_head-requires c = record { typed = head_told c.args.known.now.here c.args.head.now c.requires.typed }

pub returns : goal.returns
returns c =
    let u = unit_at c.args.ground.now in
    let k = c.args.known.now in
    let head = head_shape c.args.head.now in
    let b = is_some c.args.head.now.body in
    let inside = c.known.view_is ∙ c.in_ok-outside.ensures.entered u (ap stable_in c.deref.ensures.value ∙ c.in_ok-stable.ensures) in
    ap (with_scope c.leave.new.scope) inside
    ∙ ap (λ h. with_scope h (entered u k head b)) (c.leave.ensures.behind k.here head b c.in_ok-outside.ensures.outside (ap (λ m. with_locals 0 m.here) inside))
    ∙ function_behind u k c.args.head.now
