use Rattle.std.proofs.Common.{◌≡◌, ◌++◌, drop}
use Rattle.tsa_tree.specs.declarations.Shapes.{decl_shapes}
use Rattle.tsa_place_model.specs.Parts.{members_after, parts_behind}
use Rattle.tsa_place_layout.proofs.members.next_members.Given as goal

abbrev pub invariant-each : goal.invariant-each
invariant-each l = record {
  parts : l.parts.items ++ parts_behind l.fn.scope l.before (decl_shapes (drop l.decl-index l.decls)) ≡ parts_behind l.fn.scope l.fn.before (decl_shapes l.decls);
  known : members_after l.fn.scope l.before (decl_shapes (drop l.decl-index l.decls)) ≡ members_after l.fn.scope l.fn.before (decl_shapes l.decls);
  same : l.scope ≡ l.fn.scope;
}
