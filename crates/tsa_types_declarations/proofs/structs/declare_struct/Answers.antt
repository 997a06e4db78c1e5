use Rattle.std.proofs.Common.{◌∙◌, Some, option_map, sym, ap}
use Rattle.std.proofs.lemmas.Result.{err_from_is_err_and}
use Rattle.tsa_tree.specs.attributes.Syntax.{attr_shapes}
use Rattle.tsa_tree.specs.declarations.Shapes.{decl_shapes}
use Rattle.tsa_tree.specs.expressions.Shapes.{name_shape}
use Rattle.tsa_tree.specs.types.Scopes.{a_type_name}
use Rattle.tsa_types_declarations.proofs.Judging.{judges_at, judges_err}
use Rattle.tsa_types_declarations.proofs.StructLaws.{struct_again, struct_first, alias_free, struct_known}
use Rattle.tsa_types_declarations.proofs.structs.declare_struct.Goals as goal

pub returns-then-is_declared_elsewhere-clause-judged : goal.returns-then-is_declared_elsewhere-clause-judged
returns-then-is_declared_elsewhere-clause-judged c =
    let def = c.args.def.now in
    judges_at _ c.at.result c.refused.result c.refused.ensures
    (struct_again c.args.scope.now (option_map name_shape def.tag) (option_map name_shape def.alias) (attr_shapes def.attrs.now) (decl_shapes def.members.now) def.span
    (sym c.is_declared_elsewhere.ensures ∙ c.if-is_declared_elsewhere.true)
    ∙ ap Some (sym c.at.ensures))

pub returns-in_err-inside_struct-clause-judged : goal.returns-in_err-inside_struct-clause-judged
returns-in_err-inside_struct-clause-judged c =
    let def = c.args.def.now in
    let p = err_from_is_err_and c.from_residual.result c.from_residual.ensures.1 in
    rw (p.1, p.2)
    (judges_err _ _ c.in_err-inside_struct.field-0.0
    (struct_first c.args.scope.now (option_map name_shape def.tag) (option_map name_shape def.alias) (attr_shapes def.attrs.now) (decl_shapes def.members.now) def.span
    c.new-members.result c.new-members.ensures (sym c.is_declared_elsewhere.ensures ∙ c.if-is_declared_elsewhere.false))
    c.in_err-inside_struct.ensures.judged)

pub returns-clause-judged : goal.returns-clause-judged
returns-clause-judged c =
    let def = c.args.def.now in
    sym (struct_first c.args.scope.now (option_map name_shape def.tag) (option_map name_shape def.alias) (attr_shapes def.attrs.now) (decl_shapes def.members.now) def.span
    c.new-members.result c.new-members.ensures (sym c.is_declared_elsewhere.ensures ∙ c.if-is_declared_elsewhere.false))
    ∙ c.in_ok-inside_struct.ensures.judged

pub returns-clause-behind : goal.returns-clause-behind
returns-clause-behind c =
    let def = c.args.def.now in
    struct_known c.args.scope.now (option_map name_shape def.alias) (decl_shapes def.members.now) c.new-members.result c.inside_struct.new.members c.new-members.ensures
    c.in_ok-inside_struct.ensures.behind c.inside_struct.new.scope c.add_struct.new.self c.declare_named.new.self c.in_ok-number.number c.a_type_name-entry.result
    c.in_ok-declare_named.field-0 c.in_ok-inside_struct.ensures.same c.in_ok-number.ensures.next c.in_ok-add_struct.ensures.added
    (alias_free c.args.scope.now (option_map name_shape def.tag) (option_map name_shape def.alias) (attr_shapes def.attrs.now) (decl_shapes def.members.now) def.span
    (sym c.is_declared_elsewhere.ensures ∙ c.if-is_declared_elsewhere.false))
    (c.a_type_name-entry.ensures ∙ ap a_type_name c.single.ensures) c.in_ok-declare_named.ensures.fresh c.in_ok-declare_named.ensures.added
