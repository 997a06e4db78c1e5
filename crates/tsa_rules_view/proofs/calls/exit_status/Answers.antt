use Rattle.tsa_rules_view.proofs.calls.exit_status.Goals as goal

pub returns : goal.returns
returns c u f paths w v less at = c.exit.ensures.is u f c.args.point w (c.case.ensures.is u f paths w v less at)
