use Rattle.tsa_rules.proofs.Members.{some_fails}
use Rattle.tsa_warn_function.proofs.Notes.{on_walks}
use Rattle.tsa_warn_function.proofs.spot.Spot.breaks.Goals as goal

pub returns : goal.returns
returns c u f w is =
    let spot = c.args.self.now in
    let same = some_fails c.args.rule u f spot.point w spot.case spot.before is.is_case in
    let walks = on_walks u f w spot is c.args.rule in
    (λ t. walks.0 (same.0 (c.fails_for_some.ensures.0 t)), λ h. c.fails_for_some.ensures.1 (same.1 (walks.1 h)))
