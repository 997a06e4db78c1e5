use Rattle.std.proofs.Common.{◌∙◌, sym}
use Rattle.std.proofs.lemmas.Result.{IfOk-weaker}
use Rattle.tsa_profile_accesses.specs.NodeAnswers.{view_of}
use Rattle.tsa_profile_declarations.proofs.EachArgument.{again_told, call_told, lack_told, place_told}
use Rattle.tsa_profile_declarations.proofs.argument.argument.Goals as goal

pub returns-then-is_call-clause-failure : goal.returns-then-is_call-clause-failure
returns-then-is_call-clause-failure c = call_told (view_of c.args.body) c.args.kind c.args.paths.now c.args.arg.now (sym c.is_call.ensures ∙ c.if-is_call.true)

pub returns-then-lacks_path-clause-failure : goal.returns-then-lacks_path-clause-failure
returns-then-lacks_path-clause-failure c =
    lack_told (view_of c.args.body) c.args.kind c.args.paths.now c.args.arg.now c.in_ok-path.path c.in_ok-path.ensures (sym c.is_call.ensures ∙ c.if-is_call.false)
    (sym c.lacks_path.ensures ∙ c.if-lacks_path.true)

pub returns-then-branch-clause-failure : goal.returns-then-branch-clause-failure
returns-then-branch-clause-failure c =
    IfOk-weaker c.again_failure.result _ _
    (λ failure h. h ∙ again_told (view_of c.args.body) c.args.kind c.args.paths.now c.args.arg.now c.in_ok-path.path c.in_ok-path.ensures (sym c.is_call.ensures ∙ c.if-is_call.false)
    (sym c.lacks_path.ensures ∙ c.if-lacks_path.false) (sym c.in_ok-name_again.ensures.again ∙ c.if-branch.true))
    c.again_failure.ensures

pub returns-else-branch-clause-failure : goal.returns-else-branch-clause-failure
returns-else-branch-clause-failure c =
    IfOk-weaker c.place_failure.result _ _
    (λ failure h. h ∙ place_told (view_of c.args.body) c.args.kind c.args.paths.now c.args.arg.now c.in_ok-path.path c.in_ok-path.ensures (sym c.is_call.ensures ∙ c.if-is_call.false)
    (sym c.lacks_path.ensures ∙ c.if-lacks_path.false) (sym c.in_ok-name_again.ensures.again ∙ c.if-branch.false))
    c.place_failure.ensures
