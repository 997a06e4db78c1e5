use Rattle.std.proofs.Common.{subst}
use Rattle.std.proofs.lemmas.List.{take_all}
use Rattle.tsa_warn_function.specs.declared.spot.TheConstants.{MARK_RULES}
use Rattle.tsa_warn_function.specs.Adding.{Adds}
use Rattle.tsa_warn_function.specs.Spots.{IsNotedBy}
use Rattle.tsa_warn_function.proofs.MarkRules.{asked_once}
use Rattle.tsa_warn_function.proofs.Notes.{none_noted, rule_more}
use Rattle.tsa_warn_function.proofs.spot.Spot.note_rules.Goals as goal

pub each-init : goal.each-init
each-init c u f w is = none_noted u f w c.args.self.now c.args.found.now.items

pub each-preserved : goal.each-preserved
each-preserved c u f w is =
    rule_more u f w c.args.self.now MARK_RULES asked_once c.each.rule-index _ c.each-test.true c.args.found.now.items c.each.found.items c.note_by_mark.new.found.items
    (c.each.invariant u f w is) (c.in_ok-note_by_mark.ensures u f w is)

pub returns : goal.returns
returns c u f w is = subst (λ rules. Adds (IsNotedBy u f w c.args.self.now rules) c.args.found.now.items c.each.found.items) (take_all c.each.rule-index MARK_RULES c.each-test.false) (c.each.invariant u f w is)
