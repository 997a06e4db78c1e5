use Rattle.std.proofs.Common.{◌≡◌, drop}
use Rattle.tsa_tree.specs.declarations.Shapes.{decl_shapes}
use Rattle.tsa_place_model.specs.Parts.{members_after}
use Rattle.tsa_core_environment.proofs.members.next_members.Given as goal

abbrev pub invariant-each : goal.invariant-each
invariant-each l = record {
  behind : members_after l.scope l.before (decl_shapes (drop l.decl-index l.decls)) ≡ members_after l.scope l.fn.before (decl_shapes l.decls);
}
