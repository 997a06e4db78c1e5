use Rattle.std.proofs.Common.{◌∙◌, sym, ap}
use Rattle.tsa_profile_context.specs.Judging.{around_at, without_body}
use Rattle.tsa_profile_items.proofs.Behind.{not_alone}
use Rattle.tsa_profile_items.proofs.bodies.alone.Goals as goal

pub returns-then-not-is_alone : goal.returns-then-not-is_alone
returns-then-not-is_alone c =
    let k = c.args.known.now in
    let a = around_at c.args.ground.now k c.args.inner.number c.args.inner.stable.now in
    not_alone k c.args.inner.number c.args.inner.name a ∙ ap (without_body k c.args.inner.number c.args.inner.name a) (sym c.if-not-is_alone.true)
