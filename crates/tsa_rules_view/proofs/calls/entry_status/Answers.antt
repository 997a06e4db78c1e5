use Rattle.std.proofs.Common.{◌∙◌}
use Rattle.tsa_rules_view.proofs.calls.entry_status.Goals as goal

pub returns : goal.returns
returns c u f paths w v at = c.entry.ensures.is u f w (c.lock.ensures ∙ v.locks c.args.cap w at)
