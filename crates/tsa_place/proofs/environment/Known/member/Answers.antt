use Rattle.std.proofs.Common.{arith, length, sym, ap, subst}
use Rattle.tsa_place_model.specs.Standing.{IsWithin}
use Rattle.tsa_place.proofs.Fitting.{number_small}
use Rattle.tsa_place.proofs.Putting.{on_one, member_fits, member_put, member_within}
use Rattle.tsa_place.proofs.environment.Known.member.Goals as goal

pub thing-requires-clause-within : goal.thing-requires-clause-within
thing-requires-clause-within c =
    subst (IsWithin (length c.args.self.structs.now)) (sym (ap (λ p. p.thing) c.part.view_is))
    (member_within c.args.self.structs.now c.args.members.structure c.args.members.number _ c.in-Some.ensures.ordered (sym c.in-Some.ensures.member))

pub overflow_add-others : goal.overflow_add-others
overflow_add-others c =
    let small = number_small c.args.self c.args.rows.now c.args.members c.in-Some.ensures.ordered c.requires.some.0 _ (sym c.in-Some.ensures.member) in omega (arith, small)

pub thing-requires-clause-fits : goal.thing-requires-clause-fits
thing-requires-clause-fits c =
    member_fits c.args.self c.args.rows.now c.leave.new.self c.in_ok-leave.ensures.same c.args.members c.member_of-from.result _ c.part.inside.thing (ap (λ p. p.thing) c.part.view_is)
    (sym c.in-Some.ensures.member) c.member_of-from.ensures c.in_ok-leave.ensures.left c.requires.fits

pub returns : goal.returns
returns c =
    on_one c.thing.result c.thing.ensures
    (member_put c.args.self c.args.rows.now c.leave.new.self c.in_ok-leave.ensures.same c.args.members c.member_of-from.result _ c.part.inside.thing (ap (λ p. p.thing) c.part.view_is)
    (sym c.in-Some.ensures.member) c.member_of-from.ensures c.in_ok-leave.ensures.left c.thing.new.rows)
