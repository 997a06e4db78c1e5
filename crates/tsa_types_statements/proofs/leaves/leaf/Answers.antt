use Rattle.std.proofs.Common.{◌∙◌, option_map, ap, sym}
use Rattle.tsa_tree.specs.expressions.Shapes.{shape}
use Rattle.tsa_tree.specs.statements.Shapes.{stmt_shape}
use Rattle.tsa_tree.specs.statements.Syntax.{return}
use Rattle.tsa_tree.specs.types.Premises.{first}
use Rattle.tsa_tree.specs.types.Scopes.{context_of}
use Rattle.tsa_tree.specs.types.Statements.{leaf_premises}
use Rattle.tsa_types_simple.specs.Simple.{returned}
use Rattle.tsa_types_simple.proofs.LoopLaws.{nothing, seen_test}
use Rattle.tsa_types_simple.proofs.SimpleLaws.{return_is}
use Rattle.tsa_types_statements.proofs.leaves.leaf.Goals as goal

pub returns-in_ok-found-in-Return-clause-judged : goal.returns-in_ok-found-in-Return-clause-judged
returns-in_ok-found-in-Return-clause-judged c =
    let known = context_of c.args.view.scope.now in
    c.return_failure.ensures
    ∙ ap (returned c.around.inside.result c.args.stmt.now.span) (c.in_ok-found-in-Return.ensures.found ∙ seen_test known c.in-Return.value)
    ∙ return_is known c.around.inside.result c.args.stmt.now.span (option_map (λ x. shape x.now) c.in-Return.value)
    ∙ ap (λ a. first (leaf_premises a c.args.view.scope.now (return (option_map (λ x. shape x.now) c.in-Return.value) c.args.stmt.now.span))) c.around.view_is
    ∙ sym (ap (λ k. first (leaf_premises c.args.around.now c.args.view.scope.now (stmt_shape k c.args.stmt.now.span))) c.in-Return.is)

pub returns-in_ok-leaf-in-Empty-clause-judged : goal.returns-in_ok-leaf-in-Empty-clause-judged
returns-in_ok-leaf-in-Empty-clause-judged c =
    sym (ap (λ k. first (leaf_premises c.args.around.now c.args.view.scope.now (stmt_shape k c.args.stmt.now.span))) c.in-Empty.is ∙ nothing)
