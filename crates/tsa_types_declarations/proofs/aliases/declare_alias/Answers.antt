use Rattle.std.proofs.Common.{◌∙◌, refl, ap}
use Rattle.tsa_tree.specs.declarations.Shapes.{type_shape}
use Rattle.tsa_tree.specs.declared.kind.Declaring.TheVariants as declaring
use Rattle.tsa_tree.specs.types.DeclaredTypes.{declared_premises}
use Rattle.tsa_tree.specs.types.Premises.{first}
use Rattle.tsa_tree.specs.types.Scopes.{a_type_name, with_name}
use Rattle.tsa_types_declarations.proofs.DeclaredLaws.{declared_untaken, not_free, is_fresh}
use Rattle.tsa_types_declarations.proofs.Judging.{judged_so, on_kept}
use Rattle.tsa_types_declarations.proofs.aliases.declare_alias.Goals as goal

pub returns-clause-judged : goal.returns-clause-judged
returns-clause-judged c =
    judged_so _ _ _
    (c.failure.ensures ∙ c.in_ok-typing.ensures.whole _ _
    ∙ ap (λ taken. first (declared_premises c.args.scope.now declaring.Type taken c.args.alias.now.span (type_shape c.args.alias.now.ctype))) (not_free _ _ c.in_ok-free.ensures.fresh))
    c.judged.ensures

pub returns-clause-behind : goal.returns-clause-behind
returns-clause-behind c =
    on_kept _ _ _
    (c.failure.ensures ∙ c.in_ok-typing.ensures.whole _ _
    ∙ ap (λ taken. first (declared_premises c.args.scope.now declaring.Type taken c.args.alias.now.span (type_shape c.args.alias.now.ctype))) (not_free _ _ c.in_ok-free.ensures.fresh))
    c.judged.ensures
    (λ kept.
    c.in_ok-free.ensures.added
    (is_fresh _ _ _ c.in_ok-free.ensures.fresh refl (declared_untaken c.args.scope.now declaring.Type _ c.args.alias.now.span (type_shape c.args.alias.now.ctype) kept))
    ∙ ap (λ e. with_name c.args.alias.now.name.text.now e c.args.scope.now) (c.a_type_name.ensures ∙ ap a_type_name c.in_ok-typing.ensures.thing))
