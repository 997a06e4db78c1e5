use Rattle.std.proofs.Common.{◌≡◌, ◌∙◌, [], Ok, Err, is_some, refl, ap}
use Rattle.std.proofs.lemmas.Result.{err_from_is_err_and}
use Rattle.tsa_tree.specs.declarations.Shapes.{head_shape}
use Rattle.tsa_tree.specs.types.Heads.{head_premises}
use Rattle.tsa_tree.specs.types.Premises.{first}
use Rattle.tsa_types_row.specs.BodyRows.{bare_node}
use Rattle.tsa_types_row.specs.Rows.{framed}
use Rattle.tsa_types_expressions.proofs.RowLaws.{noted}
use Rattle.tsa_types.proofs.HeadLaws.{head_stops, params_stop, head_is, head_names}
use Rattle.tsa_types_declarations.proofs.Judging.{judged_so, judged_holds}
use Rattle.tsa_types.proofs.heads.declare_head.Goals as goal
use Rattle.tsa_types.proofs.heads.declare_head.Goals.{After-judged}

pub returns-in_err-declare_function-clause-judged : goal.returns-in_err-declare_function-clause-judged
returns-in_err-declare_function-clause-judged c =
    let p = err_from_is_err_and c.from_residual.result c.from_residual.ensures.1 in
    rw (p.1, p.2)
    (head_stops c.args.scope.now (head_shape c.args.head.now) (is_some c.args.head.now.body) c.in_err-declare_function.field-0.0 c.in_err-declare_function.ensures.judged)

pub returns-in_err-declare_params-clause-judged : goal.returns-in_err-declare_params-clause-judged
returns-in_err-declare_params-clause-judged c =
    let p = err_from_is_err_and c.from_residual-in_err-declare_params.result c.from_residual-in_err-declare_params.ensures.1 in
    rw (p.1, p.2)
    (params_stop c.args.scope.now (head_shape c.args.head.now) (is_some c.args.head.now.body) c.in_ok-declare_function.ensures.judged c.declare_function.new.scope
    c.in_ok-declare_function.ensures.behind c.in_err-declare_params.field-0.0 c.in_err-declare_params.ensures.judged)

-- what the attributes give is what the head gives
found : (c : After-judged) → c.in_ok-attributes.field-0 ≡ first (head_premises c.args.scope.now (head_shape c.args.head.now) (is_some c.args.head.now.body))
found c =
    c.in_ok-attributes.ensures.judged
    ∙ head_is c.args.scope.now (head_shape c.args.head.now) (is_some c.args.head.now.body) c.in_ok-declare_function.ensures.judged c.declare_function.new.scope
    c.in_ok-declare_function.ensures.behind c.declare_params.new.scope c.set_locals.new.self c.in_ok-params_count.field-0 c.in_ok-declare_params.ensures.behind
    c.in_ok-params_count.ensures c.set_locals.ensures c.in_ok-declare_params.ensures.judged

pub returns-in_err-judged-clause-judged : goal.returns-in_err-judged-clause-judged
returns-in_err-judged-clause-judged c =
    let p = err_from_is_err_and c.from_residual-in_err-judged.result c.from_residual-in_err-judged.ensures.1 in
    rw (p.1, p.2) (judged_so _ _ (Err c.in_err-judged.field-0.0) (found (goal.at.returns-in_err-judged-clause-judged c).After-judged) c.in_err-judged.ensures)

pub returns-clause-judged : goal.returns-clause-judged
returns-clause-judged c = judged_holds _ _ (Ok c.in_ok-judged.field-0) (found (goal.at.returns-clause-judged c).After-judged) c.in_ok-judged.ensures c.in_ok-judged.field-0 refl

pub returns-clause-nodes : goal.returns-clause-nodes
returns-clause-nodes c =
    head_names c.args.scope.now (head_shape c.args.head.now) (is_some c.args.head.now.body) c.in_ok-declare_function.ensures.judged c.declare_function.new.scope
    c.in_ok-declare_function.ensures.behind c.declare_params.new.scope c.set_locals.new.self c.in_ok-params_count.field-0 c.in_ok-declare_params.ensures.behind
    c.in_ok-params_count.ensures c.set_locals.ensures c.args.function c.args.row.now c.leaf.new.self c.declare_params.new.row c.attributes.new.row (c.in_ok-leaf.ensures.put ∙ ap (λ n. noted c.args.row.now (framed n [])) (c.bare_node.ensures ∙ ap (λ m. bare_node m.op m.span) c.new.ensures))
    c.in_ok-declare_params.ensures.nodes c.in_ok-attributes.ensures.nodes
