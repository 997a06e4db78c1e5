use Rattle.std.proofs.Common.{◌≡◌, ◌∙◌, IfOk, OnOk, subst, ap, sym}
use Rattle.tsa_tree.specs.statements.Shapes.{step_given}
use Rattle.tsa_tree.specs.types.Premises.{first}
use Rattle.tsa_tree.specs.types.Statements.{step_premises}
use Rattle.tsa_types_row.specs.BodyRows.{row_in_step}
use Rattle.tsa_types_expressions.proofs.RowLaws.{noted}
use Rattle.tsa_types_simple.proofs.SimpleLaws.{step_alone}
use Rattle.tsa_types_simple.proofs.loops.third.Goals as goal

pub returns-in-Some-clause-judged : goal.returns-in-Some-clause-judged
returns-in-Some-clause-judged c =
    subst (λ o. IfOk c.simple.result (λ failure. failure ≡ o))
    (sym (ap (λ s. first (step_premises c.args.view.scope.now (step_given s))) c.in-Some.is
    ∙ ap first (step_alone c.args.view.scope.now c.args.view.function c.in-Some.part.now.span c.in-Some.part.now.kind).0))
    c.simple.ensures.judged

pub returns-in-Some-clause-nodes : goal.returns-in-Some-clause-nodes
returns-in-Some-clause-nodes c =
    subst (λ n. OnOk c.simple.result (c.simple.new.row ≡ n))
    (sym (ap (λ s. noted c.args.row.now (row_in_step c.args.view.scope.now c.args.view.function (step_given s))) c.in-Some.is
    ∙ ap (noted c.args.row.now) (step_alone c.args.view.scope.now c.args.view.function c.in-Some.part.now.span c.in-Some.part.now.kind).1))
    c.simple.ensures.nodes
