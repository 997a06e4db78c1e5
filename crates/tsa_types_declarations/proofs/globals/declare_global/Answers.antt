use Rattle.std.proofs.Common.{◌∙◌, refl, ap}
use Rattle.std.proofs.lemmas.Result.{err_from_is_err_and}
use Rattle.tsa_tree.specs.declarations.Shapes.{decl_shape}
use Rattle.tsa_types_row.specs.BodyRows.{bare_node}
use Rattle.tsa_types_declarations.proofs.DeclaredLaws.{not_free}
use Rattle.tsa_types_declarations.proofs.GlobalLaws.{outside_by, global_stops, global_is, global_known, global_nodes}
use Rattle.tsa_types_declarations.proofs.Judging.{judged_fails, judged_holds}
use Rattle.tsa_types_declarations.proofs.globals.declare_global.Goals as goal

pub returns-in_err-judged-clause-judged : goal.returns-in_err-judged-clause-judged
returns-in_err-judged-clause-judged c =
    let p = err_from_is_err_and c.from_residual-in_err-judged.result c.from_residual-in_err-judged.ensures.1 in
    rw (p.1, p.2)
    (global_stops c.args.scope.now (decl_shape c.args.decl.now) c.in_err-judged.field-0.0
    (judged_fails _ _ _ (c.outer_failure.ensures ∙ c.in_ok-typing.ensures.outer _ ∙ ap (outside_by c.args.scope.now (decl_shape c.args.decl.now)) (not_free _ _ c.in_ok-free.ensures.fresh)) c.judged.ensures c.in_err-judged.field-0.0 c.in_err-judged.was))

pub returns-in_err-judged-2-clause-judged : goal.returns-in_err-judged-2-clause-judged
returns-in_err-judged-2-clause-judged c =
    let p = err_from_is_err_and c.from_residual-in_err-judged-2.result c.from_residual-in_err-judged-2.ensures.1 in
    rw (p.1, p.2)
    (judged_fails _ _ _
    (c.in_ok-judge_inside.ensures.judged
    ∙ global_is c.args.scope.now (decl_shape c.args.decl.now) (judged_holds _ _ _ (c.outer_failure.ensures ∙ c.in_ok-typing.ensures.outer _ ∙ ap (outside_by c.args.scope.now (decl_shape c.args.decl.now)) (not_free _ _ c.in_ok-free.ensures.fresh)) c.judged.ensures _ c.in_ok-judged.was) c.next_global-own.result
    c.in_ok-typing.typing.written.thing _ c.declare.new.self c.in_ok-free.free c.next_global-own.ensures c.in_ok-typing.ensures.thing refl c.in_ok-free.ensures.fresh
    c.in_ok-free.ensures.added)
    c.judged-2.ensures c.in_err-judged-2.field-0.0 c.in_err-judged-2.was)

pub returns-clause-judged : goal.returns-clause-judged
returns-clause-judged c =
    judged_holds _ _ _
    (c.in_ok-judge_inside.ensures.judged
    ∙ global_is c.args.scope.now (decl_shape c.args.decl.now) (judged_holds _ _ _ (c.outer_failure.ensures ∙ c.in_ok-typing.ensures.outer _ ∙ ap (outside_by c.args.scope.now (decl_shape c.args.decl.now)) (not_free _ _ c.in_ok-free.ensures.fresh)) c.judged.ensures _ c.in_ok-judged.was) c.next_global-own.result
    c.in_ok-typing.typing.written.thing _ c.declare.new.self c.in_ok-free.free c.next_global-own.ensures c.in_ok-typing.ensures.thing refl c.in_ok-free.ensures.fresh
    c.in_ok-free.ensures.added)
    c.judged-2.ensures _ c.in_ok-judged-2.was

pub returns-clause-behind : goal.returns-clause-behind
returns-clause-behind c =
    global_known c.args.scope.now (decl_shape c.args.decl.now) (judged_holds _ _ _ (c.outer_failure.ensures ∙ c.in_ok-typing.ensures.outer _ ∙ ap (outside_by c.args.scope.now (decl_shape c.args.decl.now)) (not_free _ _ c.in_ok-free.ensures.fresh)) c.judged.ensures _ c.in_ok-judged.was) c.next_global-own.result
    c.in_ok-typing.typing.written.thing _ c.declare.new.self c.in_ok-free.free c.next_global-own.ensures c.in_ok-typing.ensures.thing refl c.in_ok-free.ensures.fresh
    c.in_ok-free.ensures.added c.count_global.new.self c.in_ok-count_global.ensures.added

pub returns-clause-nodes : goal.returns-clause-nodes
returns-clause-nodes c =
    global_nodes c.args.scope.now (decl_shape c.args.decl.now) (judged_holds _ _ _ (c.outer_failure.ensures ∙ c.in_ok-typing.ensures.outer _ ∙ ap (outside_by c.args.scope.now (decl_shape c.args.decl.now)) (not_free _ _ c.in_ok-free.ensures.fresh)) c.judged.ensures _ c.in_ok-judged.was) c.next_global-own.result
    c.in_ok-typing.typing.written.thing _ c.declare.new.self c.in_ok-free.free c.next_global-own.ensures c.in_ok-typing.ensures.thing refl c.in_ok-free.ensures.fresh
    c.in_ok-free.ensures.added c.args.row.now c.leaf.new.self c.judge_inside.new.row c.bare_node.result
    (c.bare_node.ensures ∙ ap (λ m. bare_node m.op m.span) c.new-name.ensures) c.in_ok-leaf.ensures.put c.in_ok-judge_inside.ensures.nodes
