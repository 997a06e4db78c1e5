use Rattle.std.proofs.Common.{◌≤◌, ◌+◌, length, sym, ap, subst}
use Rattle.tsa_place_model.specs.Layouts.{size_of, thing_size}
use Rattle.tsa_place_model.specs.Standing.{IsOrdered}
use Rattle.tsa_place_model.specs.Parts.{place_limit}
use Rattle.tsa_place.proofs.Fitting.{still_fits}
use Rattle.tsa_place.proofs.globals.Globals.fill.Goals as goal

pub with_thing-requires-clause-ordered : goal.with_thing-requires-clause-ordered
with_thing-requires-clause-ordered c = subst IsOrdered (ap (λ l. l.structs) (sym c.self.view_is)) c.requires.ordered

pub invariant_of-self-2 : goal.invariant_of-self-2
invariant_of-self-2 c =
    still_fits (length c.swap.new.x.items) _ _ c.in_ok-self-inside.ensures.many
    (subst (λ ps. length ps + thing_size (size_of c.self.inside.structs) c.args.thing ≤ place_limit) (sym (ap (λ v. v.items) c.swap.ensures.x_after))
    (subst (λ l. length l.places + thing_size (size_of l.structs) c.args.thing ≤ place_limit) (sym c.self.view_is) c.requires.fits))
