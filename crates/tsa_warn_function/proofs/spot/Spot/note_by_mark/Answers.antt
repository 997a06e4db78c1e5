use Rattle.std.proofs.Common.{◌∙◌, sym}
use Rattle.tsa_warn_function.specs.Spots.{IsNoted}
use Rattle.tsa_warn_function.proofs.ListGrowth.{none_more}
use Rattle.tsa_warn_function.proofs.SilentPoints.{kept_on_walks}
use Rattle.tsa_warn_function.proofs.spot.Spot.note_by_mark.Goals as goal

pub returns-else-can_break : goal.returns-else-can_break
returns-else-can_break c u f w is =
    none_more (IsNoted u f w c.args.self.now c.args.rule) c.args.found.now.items
    (λ x h. kept_on_walks u f w c.args.self.now is c.args.rule (sym c.can_break.ensures ∙ c.if-can_break.false) h.1)
