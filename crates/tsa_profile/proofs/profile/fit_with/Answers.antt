use Rattle.std.proofs.Common.{◌∙◌, ap}
use Rattle.tsa_tree.specs.units.Shapes.{item_shapes}
use Rattle.tsa_profile_items.specs.Units.{refusal_with}
use Rattle.tsa_profile.proofs.profile.fit_with.Goals as goal

pub invariant_of-result-clause-profiled : goal.invariant_of-result-clause-profiled
invariant_of-result-clause-profiled c =
    ap (λ o. refusal_with o (item_shapes c.args.unit.unit.now.items.now)) c.in_ok-outside.ensures
    ∙ c.in_ok-tables.ensures.judged
