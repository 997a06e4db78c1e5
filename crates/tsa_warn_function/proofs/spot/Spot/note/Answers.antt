use Rattle.std.proofs.Common.{◌∙◌, refl, sym, subst, true≢false}
use Rattle.std.proofs.lemmas.Result.{on_ok_weaker}
use Rattle.tsa_warn_function.specs.Adding.{Adds}
use Rattle.tsa_warn_function.specs.Spots.{failure_at, IsNoted}
use Rattle.tsa_warn_function.proofs.ListGrowth.{none_more, one_more}
use Rattle.tsa_warn_function.proofs.spot.Spot.note.Goals as goal

pub returns-then-breaks : goal.returns-then-breaks
returns-then-breaks c = on_ok_weaker c.put.result
    (λ e u f w is. let one = IsNoted u f w c.args.self.now c.args.rule in
    subst (Adds one c.args.found.now.items) (sym e)
    (one_more one c.args.found.now.items (failure_at c.args.self.now c.args.rule) (refl, (c.breaks.ensures u f w is).0 c.if-breaks.true) (λ x h. h.0)))
    c.put.ensures

pub returns-else-breaks : goal.returns-else-breaks
returns-else-breaks c u f w is =
    none_more (IsNoted u f w c.args.self.now c.args.rule) c.args.found.now.items (λ x h. absurd (true≢false (sym ((c.breaks.ensures u f w is).1 h.1) ∙ c.if-breaks.false)))
