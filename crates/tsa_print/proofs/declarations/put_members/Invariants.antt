use Rattle.std.proofs.Common.{◌≡◌, drop}
use Rattle.tsa_tree.specs.declarations.Shapes.{decl_shapes}
use Rattle.tsa_print.specs.DeclarationPieces.{members_pieces}
use Rattle.tsa_print.specs.Sheets.{page_of, put}
use Rattle.tsa_print.proofs.declarations.put_members.Given as goal

abbrev pub invariant-each : goal.invariant-each
invariant-each l = put (page_of l.sheet) (members_pieces (decl_shapes (drop l.member-index l.members))) ≡ put (page_of l.fn.sheet) (members_pieces (decl_shapes l.members))
