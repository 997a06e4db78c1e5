use Rattle.std.proofs.Common.{◌≡◌, List, drop}
use Rattle.tsa_tree.specs.declared.stmt.Point.{Point}
use Rattle.tsa_tree.specs.declarations.Shapes.{decl_shapes}
use Rattle.tsa_tree.specs.statements.Syntax.{none, locals_before}
use Rattle.tsa_tree.specs.statements.Shapes.{stmt_shapes}
use Rattle.tsa_unit_simple.specs.Outcomes.{joined}
use Rattle.tsa_unit_simple.specs.PointNumbers.{ArePointed}
use Rattle.tsa_unit_simple.proofs.parts.declare.Given as goal

abbrev pub invariant-locals : goal.invariant-locals
invariant-locals l = record {
  listed : joined (stmt_shapes l.fn.list.items) (locals_before (decl_shapes l.decls) none) ≡ joined (stmt_shapes l.list.items) (locals_before (decl_shapes (drop l.decl-index l.decls)) none);
  pointed : (start : List Point) → ArePointed start l.fn.points.items l.fn.list.items → ArePointed start l.points.items l.list.items;
}
