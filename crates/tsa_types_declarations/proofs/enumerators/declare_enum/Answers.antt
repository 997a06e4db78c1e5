use Rattle.std.proofs.Common.{◌∙◌, pos, false, Some, option_map, sym, ap}
use Rattle.std.proofs.lemmas.Result.{err_from_is_err_and}
use Rattle.tsa_tree.specs.declarations.Shapes.{enumerator_shapes}
use Rattle.tsa_tree.specs.expressions.Shapes.{name_shape}
use Rattle.tsa_tree.specs.declared.kind.Kind.TheVariants as type
use Rattle.tsa_tree.specs.types.Enums.{behind_enumerators}
use Rattle.tsa_tree.specs.types.Scopes.{a_type_name}
use Rattle.tsa_tree.specs.types.Types.{single}
use Rattle.tsa_types_declarations.proofs.DeclaredLaws.{named_known}
use Rattle.tsa_types_declarations.proofs.EnumLaws.{enum_again, enum_first, enum_alias_free}
use Rattle.tsa_types_declarations.proofs.Judging.{judges_at, judges_err}
use Rattle.tsa_types_declarations.proofs.enumerators.declare_enum.Goals as goal

pub returns-then-is_declared_elsewhere-clause-judged : goal.returns-then-is_declared_elsewhere-clause-judged
returns-then-is_declared_elsewhere-clause-judged c =
    let def = c.args.def.now in
    judges_at _ c.at.result c.refused.result c.refused.ensures
    (enum_again c.args.scope.now (option_map name_shape def.tag) (option_map name_shape def.alias) (enumerator_shapes def.values.now) def.span
    (sym c.is_declared_elsewhere.ensures ∙ c.if-is_declared_elsewhere.true)
    ∙ ap Some (sym c.at.ensures))

pub returns-in_err-declare_enumerators-clause-judged : goal.returns-in_err-declare_enumerators-clause-judged
returns-in_err-declare_enumerators-clause-judged c =
    let def = c.args.def.now in
    let p = err_from_is_err_and c.from_residual.result c.from_residual.ensures.1 in
    rw (p.1, p.2)
    (judges_err _ _ c.in_err-declare_enumerators.field-0.0
    (sym (enum_first c.args.scope.now (option_map name_shape def.tag) (option_map name_shape def.alias) (enumerator_shapes def.values.now) def.span
    (sym c.is_declared_elsewhere.ensures ∙ c.if-is_declared_elsewhere.false)))
    c.in_err-declare_enumerators.ensures.judged)

pub returns-clause-judged : goal.returns-clause-judged
returns-clause-judged c =
    let def = c.args.def.now in
    enum_first c.args.scope.now (option_map name_shape def.tag) (option_map name_shape def.alias) (enumerator_shapes def.values.now) def.span
    (sym c.is_declared_elsewhere.ensures ∙ c.if-is_declared_elsewhere.false)
    ∙ c.in_ok-declare_enumerators.ensures.judged

pub returns-clause-behind : goal.returns-clause-behind
returns-clause-behind c =
    let def = c.args.def.now in
    named_known c.declare_enumerators.new.scope (behind_enumerators c.args.scope.now (pos 0) (enumerator_shapes def.values.now)) c.declare_named.new.self
    (option_map name_shape def.alias) c.a_type_name.result (a_type_name (single type.Int false)) c.in_ok-declare_named.field-0 c.in_ok-declare_enumerators.ensures.behind
    (enum_alias_free c.args.scope.now (option_map name_shape def.tag) (option_map name_shape def.alias) (enumerator_shapes def.values.now) def.span
    (sym c.is_declared_elsewhere.ensures ∙ c.if-is_declared_elsewhere.false))
    c.in_ok-declare_named.ensures.fresh c.in_ok-declare_named.ensures.added (c.a_type_name.ensures ∙ ap a_type_name c.single.ensures)
