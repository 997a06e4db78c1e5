use Rattle.tsa_place.proofs.Putting.{on_one, element_fits, element_put}
use Rattle.tsa_place.proofs.environment.Known.element.Goals as goal

pub enter-requires-clause-fits : goal.enter-requires-clause-fits
enter-requires-clause-fits c =
    element_fits c.args.self c.args.rows.now c.leave.new.self c.in_ok-leave.ensures.same c.args.elements c.element_of.result c.requires.some.1 c.element_of.ensures c.in_ok-leave.ensures.left
    c.requires.fits

pub returns : goal.returns
returns c =
    on_one c.enter.result c.enter.ensures
    (element_put c.args.self c.args.rows.now c.leave.new.self c.in_ok-leave.ensures.same c.args.elements c.element_of.result c.requires.some.1 c.element_of.ensures c.in_ok-leave.ensures.left
    c.enter.new.rows)
