use Rattle.std.proofs.Common.{◌∙◌, refl, ap, sym}
use Rattle.tsa_tree.specs.expressions.Shapes.{shape}
use Rattle.tsa_tree.specs.statements.Shapes.{stmt_shape}
use Rattle.tsa_tree.specs.types.Premises.{first}
use Rattle.tsa_tree.specs.types.Scopes.{context_of}
use Rattle.tsa_types_expressions.proofs.RowLaws.{noted, noted_nothing}
use Rattle.tsa_types_simple.specs.declared.verdicts.Target.{Target}
use Rattle.tsa_types_simple.specs.Leaves.{alone_premises}
use Rattle.tsa_types_simple.specs.Simple.{assigned}
use Rattle.tsa_types_simple.proofs.LoopLaws.{nothing}
use Rattle.tsa_types_simple.proofs.SimpleLaws.{assignment_is, no_simple}
use Rattle.tsa_types_simple.proofs.leaves.simple.Goals as goal

pub returns-in_ok-found-in-Assign-clause-judged : goal.returns-in_ok-found-in-Assign-clause-judged
returns-in_ok-found-in-Assign-clause-judged c =
    let known = context_of c.args.view.scope.now in
    let found = c.in_ok-found-in-Assign in
    let target : Target = record { span = c.in-Assign.left.now.span; found = found.found.left } in
    c.assignment_failure.ensures
    ∙ ap (assigned c.in-Assign.op c.args.stmt.now.span target) found.ensures.right
    ∙ assignment_is known c.in-Assign.left.now c.in-Assign.op (shape c.in-Assign.right.now) c.args.stmt.now.span target refl found.ensures.left
    ∙ sym (ap (λ k. first (alone_premises c.args.view.scope.now (stmt_shape k c.args.stmt.now.span))) c.in-Assign.is)

pub returns-in_default-clause-judged : goal.returns-in_default-clause-judged
returns-in_default-clause-judged c =
    sym (ap first (no_simple c.args.view.scope.now c.args.view.function c.args.stmt.now.span c.args.stmt.now.kind c.in_default.not-Eval c.in_default.not-Assign).0 ∙ nothing)

pub returns-in_default-clause-nodes : goal.returns-in_default-clause-nodes
returns-in_default-clause-nodes c =
    sym (ap (noted c.args.row.now) (no_simple c.args.view.scope.now c.args.view.function c.args.stmt.now.span c.args.stmt.now.kind c.in_default.not-Eval c.in_default.not-Assign).1
    ∙ noted_nothing c.args.row.now)
