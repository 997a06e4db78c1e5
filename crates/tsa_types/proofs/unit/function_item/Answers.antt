use Rattle.std.proofs.Common.{◌∙◌, [], Err, Ok, is_some, refl, sym, ap, subst}
use Rattle.tsa_tree.specs.declarations.Shapes.{head_shape}
use Rattle.tsa_tree.specs.statements.Shapes.{stmt_shapes}
use Rattle.tsa_tree.specs.types.Heads.{behind_head}
use Rattle.tsa_types_row.specs.BodyRows.{bare_node}
use Rattle.tsa_types_row.specs.Rows.{framed}
use Rattle.tsa_types_row.specs.declared.node.Op.TheVariants as op
use Rattle.tsa_types_expressions.proofs.RowLaws.{noted}
use Rattle.tsa_types_statements.proofs.Closing.{Named, named_inside, named_behind, ends_function}
use Rattle.tsa_types.proofs.UnitLaws.{head_fails, alone_holds, alone_names, body_judged, body_names, behind_function}
use Rattle.tsa_types.proofs.unit.function_item.Goals as goal
use Rattle.tsa_types.proofs.unit.function_item.Goals.{in-Some+in_default-body_statements+in_ok-leaf, in_default}

pub returns-in-Err-clause-judged : goal.returns-in-Err-clause-judged
returns-in-Err-clause-judged c =
    head_fails c.args.walk.now.scope c.args.function.now (is_some c.args.function.now.body) refl c.in-Err.refusal c.in-Err.ensures.judged

pub returns-in-Err-body_statements-clause-judged : goal.returns-in-Err-body_statements-clause-judged
returns-in-Err-body_statements-clause-judged c =
    body_judged c.args.walk.now.scope c.args.function.now c.in-Some.body c.in-Some.is (is_some c.args.function.now.body) refl c.in-Ok.ensures.judged
    c.declare_head.new.scope c.in-Ok.ensures.behind c.in_ok-gives.gives c.in_ok-gives.ensures c.in_ok-number.number c.in_ok-number.ensures (Err c.in-Err-body_statements.refusal)
    c.in-Err-body_statements.ensures.judged

pub returns-clause-judged : goal.returns-clause-judged
returns-clause-judged c = elim c.match-function.branch [
  | in-Some+in_default-body_statements+in_ok-leaf w ↦
      body_judged c.args.walk.now.scope c.args.function.now w.in-Some.body w.in-Some.is (is_some c.args.function.now.body) refl c.in-Ok.ensures.judged
      c.declare_head.new.scope c.in-Ok.ensures.behind c.in_ok-gives.gives c.in_ok-gives.ensures c.in_ok-number.number c.in_ok-number.ensures (Ok tt)
      w.in_default-body_statements.ensures.judged
  | in_default w ↦
      alone_holds c.args.walk.now.scope c.args.function.now (is_some c.args.function.now.body) refl w.in_default.is c.in-Ok.ensures.judged
]

inside_named : (c : goal.After-leave) → Named (behind_head c.args.walk.now.scope (head_shape c.args.function.now) (is_some c.args.function.now.body)) c.declare_head.new.scope
inside_named c =
    subst (Named (behind_head c.args.walk.now.scope (head_shape c.args.function.now) (is_some c.args.function.now.body))) (sym c.in-Ok.ensures.behind)
    (named_inside c.args.walk.now.scope (head_shape c.args.function.now) (is_some c.args.function.now.body))

named : (c : goal.After-leave) → Named (behind_head c.args.walk.now.scope (head_shape c.args.function.now) (is_some c.args.function.now.body)) c.match-function.walk.scope
named c = elim c.match-function.branch [
  | in-Some+in_default-body_statements+in_ok-leaf w ↦
      subst (Named (behind_head c.args.walk.now.scope (head_shape c.args.function.now) (is_some c.args.function.now.body)))
      (sym (ap (λ x. x.scope) w.walk-is ∙ w.in_default-body_statements.ensures.behind))
      (named_behind (behind_head c.args.walk.now.scope (head_shape c.args.function.now) (is_some c.args.function.now.body)) c.declare_head.new.scope (stmt_shapes w.in-Some.body.now)
      (inside_named c))
  | in_default w ↦
      subst (Named (behind_head c.args.walk.now.scope (head_shape c.args.function.now) (is_some c.args.function.now.body))) (sym (ap (λ x. x.scope) w.walk-is)) (inside_named c)
]

pub returns-clause-behind : goal.returns-clause-behind
returns-clause-behind c =
    c.leave.ensures
    ∙ ends_function c.args.walk.now.scope (head_shape c.args.function.now) (is_some c.args.function.now.body) c.match-function.walk.scope c.in-Ok.names c.next_local-locals.result
    c.in-Ok.ensures.known
    c.next_local-locals.ensures (named c)
    ∙ ap (behind_head c.args.walk.now.scope (head_shape c.args.function.now)) refl
    ∙ sym (behind_function c.args.walk.now.scope c.args.function.now)

pub returns-clause-nodes : goal.returns-clause-nodes
returns-clause-nodes c = elim c.match-function.branch [
  | in-Some+in_default-body_statements+in_ok-leaf w ↦
      ap (λ x. x.row) w.walk-is
      ∙ body_names c.args.walk.now.scope c.args.function.now w.in-Some.body w.in-Some.is (is_some c.args.function.now.body) refl
      c.in-Ok.ensures.judged c.declare_head.new.scope c.in-Ok.ensures.behind c.in_ok-gives.gives c.in_ok-gives.ensures
      c.in_ok-number.number c.in_ok-number.ensures c.args.walk.now.row c.declare_head.new.row w.body_statements.new.walk.row w.leaf.new.self c.in-Ok.ensures.nodes
      w.in_default-body_statements.ensures.nodes
      (w.in_ok-leaf.ensures.put ∙ ap (λ n. noted w.body_statements.new.walk.row (framed n []))
      (w.bare_node.ensures ∙ ap (λ m. bare_node m.op m.span) w.new.ensures ∙ ap (bare_node op.End) w.end_span.ensures))
  | in_default w ↦
      ap (λ x. x.row) w.walk-is
      ∙ alone_names c.args.walk.now.scope c.args.function.now (is_some c.args.function.now.body) refl w.in_default.is c.in_ok-number.number
      c.in_ok-number.ensures c.args.walk.now.row c.declare_head.new.row c.in-Ok.ensures.nodes
]
