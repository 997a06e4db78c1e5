use Rattle.tsa_tree.specs.declarations.Shapes.{head_shape}
use Rattle.tsa_profile_accesses.specs.NodeAnswers.{view_of}
use Rattle.tsa_profile_context.proofs.HeadJudged.{inner_told}
use Rattle.tsa_profile_context.proofs.Sequences.{judged_so}
use Rattle.tsa_profile_context.proofs.context.Ground.inner.Goals as goal

pub returns : goal.returns
returns c =
    judged_so _ _ _
    (inner_told c.args.self.now (head_shape c.args.head.now) c.has_body-has_body.result c.has_body-has_body.ensures _ (view_of c.args.body) c.args.gives
    c.in_ok-attributes_failure.ensures)
    c.answer_of.ensures
