use Rattle.tsa_tree.specs.declarations.Shapes.{head_shape}
use Rattle.tsa_profile_context.proofs.HeadJudged.{outer_told}
use Rattle.tsa_profile_context.proofs.Sequences.{judged_so}
use Rattle.tsa_profile_context.proofs.context.Ground.outer.Goals as goal

pub returns : goal.returns
returns c =
    judged_so _ _ _
    (outer_told c.args.self.now (head_shape c.args.head.now) c.has_body-has_body.result c.has_body-has_body.ensures _ c.args.scope.now c.in_ok-outer_failure.ensures)
    c.answer_of.ensures
