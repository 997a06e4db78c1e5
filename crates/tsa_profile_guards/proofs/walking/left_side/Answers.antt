use Rattle.std.proofs.Common.{◌∙◌, false, ap, refl}
use Rattle.tsa_profile_accesses.specs.declared.standing.Standing.TheVariants.{Inside}
use Rattle.tsa_profile_guards.proofs.Failures.{left_fails}
use Rattle.tsa_profile_guards.proofs.Operands.{joined_is, left_is}
use Rattle.tsa_profile_guards.proofs.walking.left_side.Goals as goal

pub returns-in-None-clause-cells : goal.returns-in-None-clause-cells
returns-in-None-clause-cells c =
    left_is _ _ _ false c.args.left.now c.args.op c.in_ok-seen.seen _ _ _ c.in-None.is c.in_ok-seen.ensures.seen
    (ap (λ u. u.accesses) c.within-uses.ensures ∙ c.requires.room) (c.tell.ensures.accesses ∙ c.in_ok-seen.ensures.cells) c.in_ok-put_write.ensures

pub returns-in-None-clause-failure : goal.returns-in-None-clause-failure
returns-in-None-clause-failure c =
    left_fails _ Inside false c.args.left.now c.in_ok-seen.seen _ _ _ _ refl c.in_ok-seen.ensures.seen
    c.guard_code.ensures (ap (λ u. u.failure) c.within-uses.ensures) c.in_ok-seen.ensures.failure c.tell.ensures.failure

pub returns-in_ok-loaded-in-Some-clause-cells : goal.returns-in_ok-loaded-in-Some-clause-cells
returns-in_ok-loaded-in-Some-clause-cells c =
    joined_is _ _ _ false c.args.left.now c.args.op _ c.in_ok-seen.seen _ _ _ _ c.in-Some.is c.in_ok-seen.ensures.seen
    (ap (λ u. u.accesses) c.within-uses.ensures ∙ c.requires.room) (c.tell.ensures.accesses ∙ c.in_ok-seen.ensures.cells) c.in_ok-put_write.ensures c.in_ok-loaded-in-Some.ensures.cells

pub returns-in_ok-loaded-in-Some-clause-failure : goal.returns-in_ok-loaded-in-Some-clause-failure
returns-in_ok-loaded-in-Some-clause-failure c =
    left_fails _ Inside false c.args.left.now c.in_ok-seen.seen _ _ _ _ refl c.in_ok-seen.ensures.seen
    c.guard_code.ensures (ap (λ u. u.failure) c.within-uses.ensures) c.in_ok-seen.ensures.failure c.tell.ensures.failure
