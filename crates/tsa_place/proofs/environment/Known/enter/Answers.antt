use Rattle.std.proofs.Common.{◌∙◌, length, ap, subst}
use Rattle.tsa_place_model.specs.Standing.{IsBelow}
use Rattle.tsa_place.proofs.Fitting.{object_small}
use Rattle.tsa_place.proofs.Putting.{on_both, enters_object}
use Rattle.tsa_place.proofs.environment.Known.enter.Goals as goal

pub leave-requires : goal.leave-requires
leave-requires c = (
  subst (IsBelow (length c.args.self.structs.now)) c.in-Structure.is c.requires.defined,
  object_small c.args.self c.args.rows.now c.args.one c.in-Structure.structure c.in-Structure.is c.requires.fits,
)

pub returns-in-Structure : goal.returns-in-Structure
returns-in-Structure c =
    let owner = c.next_place-owner.ensures ∙ ap length c.deref.ensures.value in
    on_both c.leave.result c.leave.ensures.left c.leave.ensures.same
    (λ leaves same.
    enters_object c.args.self c.args.rows.now c.leave.new.self c.requires.ready c.args.one c.in-Structure.structure c.in-Structure.is
    (subst (IsBelow (length c.args.self.structs.now)) c.in-Structure.is c.requires.defined) c.next_place-owner.result _ owner (same ∙ c.in_ok-put.ensures.put) c.in_ok-put.ensures.same leaves)
