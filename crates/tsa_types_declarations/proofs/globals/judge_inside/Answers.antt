use Rattle.std.proofs.Common.{◌∙◌, ap}
use Rattle.tsa_tree.specs.declarations.Shapes.{decl_shape}
use Rattle.tsa_tree.specs.types.Premises.{or_else}
use Rattle.tsa_types_row.specs.BodyRows.{aside_attributes, aside_given_init}
use Rattle.tsa_types_expressions.proofs.RowLaws.{noted}
use Rattle.tsa_types_declarations.proofs.GlobalLaws.{inside_is, declaration_nodes}
use Rattle.tsa_types_declarations.proofs.globals.judge_inside.Goals as goal

pub returns-clause-judged : goal.returns-clause-judged
returns-clause-judged c =
    c.first_of-2.ensures ∙ ap (or_else c.in_ok-length.length.failure) c.first_of.ensures
    ∙ inside_is c.args.scope.now c.args.scope.now.globals c.args.thing (decl_shape c.args.decl.now) c.bearer_of.result c.in_ok-length.length.failure c.in_ok-guards.guards c.in_ok-init.init
    c.in_ok-length.ensures.failure c.bearer_of.ensures c.in_ok-guards.ensures.judged c.in_ok-init.ensures.judged

pub returns-clause-nodes : goal.returns-clause-nodes
returns-clause-nodes c =
    let here = c.args.scope.now in
    let d = decl_shape c.args.decl.now in
    c.in_ok-init.ensures.nodes
    ∙ ap (λ n. noted n (aside_given_init here 0 d.init)) (c.in_ok-guards.ensures.nodes ∙ ap (λ n. noted n (aside_attributes here 0 d.attrs)) c.in_ok-length.ensures.nodes)
    ∙ declaration_nodes here 0 d c.args.row.now
