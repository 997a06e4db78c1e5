use Rattle.std.proofs.Common.{take}
use Rattle.tsa_core.specs.Programs.{Function, Program}
use Rattle.tsa_place_model.specs.Ways.{Way}
use Rattle.tsa_warn_function.specs.declared.spot.TheConstants.{MARK_RULES}
use Rattle.tsa_warn_function.specs.Adding.{Adds}
use Rattle.tsa_warn_function.specs.Spots.{IsNotedBy, IsSpotOf}
use Rattle.tsa_warn_function.proofs.spot.Spot.note_rules.Given as goal

-- the first rules are noted
abbrev pub invariant-each : goal.invariant-each
invariant-each l = (u : Program) (f : Function) (c : Way) → IsSpotOf u f c l.self → Adds (IsNotedBy u f c l.self (take l.rule-index MARK_RULES)) l.fn.found.items l.found.items
