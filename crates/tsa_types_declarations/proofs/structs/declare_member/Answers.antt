use Rattle.std.proofs.Common.{◌∙◌, is_some, ap}
use Rattle.tsa_tree.specs.declarations.Shapes.{decl_shape}
use Rattle.tsa_tree.specs.types.Scopes.{found}
use Rattle.tsa_types_declarations.proofs.DeclaredLaws.{not_free}
use Rattle.tsa_types_declarations.proofs.Judging.{judged_so, on_kept}
use Rattle.tsa_types_declarations.proofs.StructLaws.{member_is, member_known}
use Rattle.tsa_types_declarations.proofs.structs.declare_member.Goals as goal

pub returns-clause-judged : goal.returns-clause-judged
returns-clause-judged c =
    judged_so _ _ _
    (c.first_of.ensures
    ∙ member_is c.args.scope.now c.args.members.now (decl_shape c.args.decl.now) _
    (not_free _ _ c.in_ok-free.ensures.fresh ∙ ap (λ m. is_some (found m c.args.decl.now.name.text.now)) c.in_ok-wrong.ensures.same_members) c.failure.result c.in_ok-wrong.wrong
    (c.failure.ensures ∙ c.in_ok-typing.ensures.whole _ _) c.in_ok-wrong.ensures.judged)
    c.judged.ensures

pub returns-clause-behind : goal.returns-clause-behind
returns-clause-behind c =
    on_kept _ _ _ c.first_of.ensures c.judged.ensures
    (λ kept.
    member_known c.args.scope.now c.args.members.now (decl_shape c.args.decl.now) _
    (not_free _ _ c.in_ok-free.ensures.fresh ∙ ap (λ m. is_some (found m c.args.decl.now.name.text.now)) c.in_ok-wrong.ensures.same_members) c.failure.result c.in_ok-wrong.wrong
    (c.failure.ensures ∙ c.in_ok-typing.ensures.whole _ _) c.in_ok-wrong.ensures.judged c.guards.new.members c.declare.new.self c.in_ok-free.free c.in_ok-typing.typing.written.thing kept
    c.in_ok-wrong.ensures.same_members c.in_ok-free.ensures.fresh c.in_ok-free.ensures.added c.in_ok-typing.ensures.thing)
