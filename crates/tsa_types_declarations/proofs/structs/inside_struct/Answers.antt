use Rattle.std.proofs.Common.{◌∙◌}
use Rattle.std.proofs.lemmas.Result.{err_from_is_err_and}
use Rattle.tsa_tree.specs.attributes.Syntax.{attr_shapes}
use Rattle.tsa_tree.specs.declarations.Shapes.{decl_shapes}
use Rattle.tsa_types_declarations.proofs.Judging.{judged_so, judged_fails, judged_holds}
use Rattle.tsa_types_declarations.proofs.StructLaws.{front_stops, members_stop, back_is}
use Rattle.tsa_types_declarations.proofs.structs.inside_struct.Goals as goal

pub returns-in_err-judged-clause-judged : goal.returns-in_err-judged-clause-judged
returns-in_err-judged-clause-judged c =
    let def = c.args.def.now in
    let p = err_from_is_err_and c.from_residual-in_err-judged.result c.from_residual-in_err-judged.ensures.1 in
    rw (p.1, p.2)
    (front_stops c.args.scope.now c.args.members.now (attr_shapes def.attrs.now) (decl_shapes def.members.now) def.span c.first_place-place.result c.first_place-place.ensures
    c.in_err-judged.field-0.0 (judged_fails _ _ _ c.in_ok-beside_failure.ensures c.judged.ensures c.in_err-judged.field-0.0 c.in_err-judged.was))

pub returns-in_err-declare_members-clause-judged : goal.returns-in_err-declare_members-clause-judged
returns-in_err-declare_members-clause-judged c =
    let def = c.args.def.now in
    let p = err_from_is_err_and c.from_residual-in_err-declare_members.result c.from_residual-in_err-declare_members.ensures.1 in
    rw (p.1, p.2)
    (members_stop c.args.scope.now c.args.members.now (attr_shapes def.attrs.now) (decl_shapes def.members.now) def.span c.first_place-place.result c.first_place-place.ensures
    (judged_holds _ _ _ c.in_ok-beside_failure.ensures c.judged.ensures _ c.in_ok-judged.was) c.in_err-declare_members.field-0.0 c.in_err-declare_members.ensures.judged)

pub returns-clause-judged : goal.returns-clause-judged
returns-clause-judged c =
    let def = c.args.def.now in
    judged_so _ _ _
    (c.in_ok-beside_failure-2.ensures
    ∙ back_is c.args.scope.now c.args.members.now (attr_shapes def.attrs.now) (decl_shapes def.members.now) def.span c.first_place-place.result c.first_place-place.ensures
    (judged_holds _ _ _ c.in_ok-beside_failure.ensures c.judged.ensures _ c.in_ok-judged.was) c.declare_members.new.scope c.in_ok-declare_members.ensures.same
    c.in_ok-declare_members.ensures.judged)
    c.judged-2.ensures
