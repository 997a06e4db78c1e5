use Rattle.std.proofs.Common.{◌∙◌, [], option_map, ap}
use Rattle.tsa_tree.specs.attributes.Syntax.{attr_shapes}
use Rattle.tsa_tree.specs.declarations.Shapes.{decl_shapes}
use Rattle.tsa_tree.specs.expressions.Shapes.{name_shape}
use Rattle.tsa_tree.specs.types.Scopes.{with_owned}
use Rattle.tsa_core_environment.specs.Members.{with_members}
use Rattle.tsa_core_environment.proofs.KnownItems.{members_make}
use Rattle.tsa_profile_context.specs.Judging.{with_scope}
use Rattle.tsa_profile_context.proofs.context.Ground.structure.Goals as goal

pub returns-clause-known : goal.returns-clause-known
returns-clause-known c =
    let k = c.args.known.now in
    let def = c.args.def.now in
    let inside = c.known.view_is ∙ c.in_ok-members.ensures.known in
    ap (with_scope c.end_struct.new.scope) inside
    ∙ ap (λ s. with_scope s k)
    (c.in_ok-end_struct.ensures
    ∙ ap (λ m. with_members (with_owned [] m.here) (option_map name_shape def.alias) m.here.owned) inside
    ∙ members_make k.here (option_map name_shape def.tag) (option_map name_shape def.alias) (attr_shapes def.attrs.now) (decl_shapes def.members.now) def.span
    c.requires.outside c.requires.typed)
