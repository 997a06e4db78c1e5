use Rattle.std.proofs.Common.{◌∙◌, ap, rules, w32}
use Rattle.std.proofs.lemmas.Int.{to_z-of_z}
use Rattle.tsa_lower_pools.specs.Pools.{case_in, point_in}
use Rattle.tsa_exec_frames.proofs.AnsweredCalls.{choose_told}
use Rattle.tsa_exec_frames.proofs.answers.choose.Goals as goal

pub returns-clause-stands : goal.returns-clause-stands
returns-clause-stands c = λ u top slots stands long pauses. rw (c.beginning-frame.ensures.is)
    (choose_told u c.args.code.now top c.args.frame.now.at c.args.frame.now.locals.items slots c.args.value c.int_in.result c.case.result stands c.requires pauses
    c.int_in.ensures (c.case.ensures.is ∙ ap (λ z. case_in c.args.code.now (point_in c.args.code.now c.args.frame.now.at.point) z) (to_z-of_z w32 c.int_in.result (search rules))) c.case.ensures.inside long)
