use Rattle.std.proofs.Common.{◌∙◌, option_map, ap}
use Rattle.tsa_tree.specs.expressions.Shapes.{shape}
use Rattle.tsa_tree.specs.statements.Shapes.{init_given, step_given}
use Rattle.tsa_tree.specs.types.Scopes.{context_of}
use Rattle.tsa_types_simple.specs.Loops.{for_by}
use Rattle.tsa_types_simple.proofs.LoopLaws.{for_is, seen_test}
use Rattle.tsa_types_simple.proofs.loops.for_head.Goals as goal

pub returns-clause-judged : goal.returns-clause-judged
returns-clause-judged c =
    let head = c.args.head.now in
    let there = c.first_part.new.scope in
    c.for_failure.ensures
    ∙ ap (λ t. for_by head.span c.in_ok-init.init t c.in_ok-step.step) (c.in_ok-test.ensures.found ∙ seen_test (context_of there) head.test)
    ∙ for_is c.args.scope.now there (init_given head.init) (option_map (λ x. shape x.now) head.test) (step_given head.step) head.span c.in_ok-init.init c.in_ok-step.step
    c.in_ok-init.ensures.behind c.in_ok-init.ensures.taken c.in_ok-init.ensures.judged c.in_ok-step.ensures.judged
