use Rattle.tsa_warn_function.proofs.Pathwise.{no_meeting}
use Rattle.tsa_warn_function.proofs.points.note_join.Goals as goal

pub returns-else-begins_block : goal.returns-else-begins_block
returns-else-begins_block c u f paths is less =
    no_meeting u f paths c.args.point
    (λ w number there d. d.lacks (c.begins_block.ensures.other u f paths number w is less there c.if-begins_block.false d.one d.other d.status d.brings d.reached))
    c.args.found.now.items
