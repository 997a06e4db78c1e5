use Rattle.tsa_warn_function.proofs.Pathwise.{no_meeting}
use Rattle.tsa_warn_function.proofs.edges.note_meeting.Goals as goal

pub returns-then-all_agree : goal.returns-then-all_agree
returns-then-all_agree c u f paths is less =
    no_meeting u f paths c.args.point (λ w number there d. d.lacks (c.all_agree.ensures u f paths number w is less there c.if-all_agree.true d.one d.other d.status d.brings d.reached)) c.args.found.now.items
