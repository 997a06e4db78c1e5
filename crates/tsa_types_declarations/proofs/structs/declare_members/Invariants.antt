use Rattle.std.proofs.Common.{◌≡◌, drop}
use Rattle.tsa_tree.specs.declarations.Shapes.{decl_shapes}
use Rattle.tsa_tree.specs.types.Premises.{first}
use Rattle.tsa_types_row.specs.ItemRows.{row_in_members}
use Rattle.tsa_types_expressions.proofs.RowLaws.{noted}
use Rattle.tsa_tree.specs.types.Structs.{members_premises, members_behind}
use Rattle.tsa_types_declarations.proofs.structs.declare_members.Given as goal

abbrev pub invariant-each : goal.invariant-each
invariant-each l = record {
  judged : first (members_premises l.fn.scope l.members (decl_shapes (drop l.decl-index l.decls))) ≡ first (members_premises l.fn.scope l.fn.members (decl_shapes l.decls));
  behind : members_behind l.fn.scope l.members (decl_shapes (drop l.decl-index l.decls)) ≡ members_behind l.fn.scope l.fn.members (decl_shapes l.decls);
  nodes : noted l.row (row_in_members l.fn.scope l.members (decl_shapes (drop l.decl-index l.decls)))
      ≡ noted l.fn.row (row_in_members l.fn.scope l.fn.members (decl_shapes l.decls));
  same : l.scope ≡ l.fn.scope;
}
