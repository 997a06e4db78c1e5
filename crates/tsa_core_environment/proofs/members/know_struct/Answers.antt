use Rattle.std.proofs.Common.{◌∙◌, option_map, ap}
use Rattle.std.proofs.lemmas.Result.{on_ok_weaker}
use Rattle.tsa_tree.specs.attributes.Syntax.{attr_shapes}
use Rattle.tsa_tree.specs.declarations.Shapes.{decl_shapes}
use Rattle.tsa_tree.specs.expressions.Shapes.{name_shape}
use Rattle.tsa_place_model.specs.Parts.{members_after}
use Rattle.tsa_core_environment.specs.Members.{with_members}
use Rattle.tsa_core_environment.proofs.KnownItems.{struct_same}
use Rattle.tsa_core_environment.proofs.members.know_struct.Goals as goal

pub returns : goal.returns
returns c =
    let here = c.args.scope.now in
    let def = c.args.def.now in
    on_ok_weaker c.add_struct.result
    (λ h. h ∙ ap (with_members here (option_map name_shape def.alias)) c.in_ok-next_members.ensures
    ∙ ap (λ ms. with_members here (option_map name_shape def.alias) (members_after here ms (decl_shapes def.members.now))) c.new-members.ensures
    ∙ struct_same here (option_map name_shape def.tag) (option_map name_shape def.alias) (attr_shapes def.attrs.now) (decl_shapes def.members.now) def.span c.requires.typed)
    c.add_struct.ensures
