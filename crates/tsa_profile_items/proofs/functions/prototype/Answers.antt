use Rattle.std.proofs.Common.{◌∙◌, false, ap}
use Rattle.tsa_tree.specs.declarations.Shapes.{head_shape}
use Rattle.tsa_tree.specs.types.Scopes.{with_locals}
use Rattle.tsa_tree.specs.types.Symbols.{number_of}
use Rattle.tsa_place_model.specs.LockPaths.{stable_in}
use Rattle.tsa_core_environment.specs.Functions.{outside_of}
use Rattle.tsa_profile_context.specs.Judging.{around_at, entered, unit_at, with_scope, without_body}
use Rattle.tsa_profile_context.specs.Units.{is_alone}
use Rattle.tsa_profile_items.proofs.Behind.{alone_found, inside_alone}
use Rattle.tsa_profile_items.proofs.functions.prototype.Goals as goal

pub returns-clause-behind : goal.returns-clause-behind
returns-clause-behind c =
    let u = unit_at c.args.ground.now in
    let k = c.args.known.now in
    let head = head_shape c.args.head.now in
    let s = c.deref-2.result.now in
    let n = c.in_ok-number.number in
    let e = c.enter_head.new.known in
    let number = c.in_ok-number.ensures ∙ ap (λ m. number_of m.here head) c.known.view_is in
    let stable = ap stable_in c.deref-2.ensures.value ∙ c.in_ok-stable.ensures in
    let inside = c.in_ok-outside.ensures.entered ∙ ap (entered u k head) c.requires.body in
    let outside = c.in_ok-outside.ensures.outside ∙ ap (outside_of k.here head) c.requires.body in
    let found = c.alone.new.known in
    let told = c.in_ok-alone.ensures ∙ ap (without_body e n head.name.span (around_at c.args.ground.now e n s)) (c.is_alone-is_alone.ensures ∙ ap (λ m. is_alone u m.here head) c.known.view_is) in
    alone_found c.args.ground.now k head n s number stable e inside found _ told
    (ap (with_scope c.leave.new.scope) c.known-2.view_is
    ∙ ap (λ h. with_scope h found)
    (c.leave.ensures.behind k.here head false outside
    (ap (λ m. with_locals 0 m.here) c.known-2.view_is ∙ inside_alone c.args.ground.now k head n s number stable e inside found told)))
