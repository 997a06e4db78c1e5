use Rattle.std.proofs.Common.{◌≡◌, drop}
use Rattle.tsa_tree.specs.attributes.Syntax.{attr_shapes}
use Rattle.tsa_print.specs.DeclarationPieces.{attributes_pieces}
use Rattle.tsa_print.specs.Sheets.{page_of, put}
use Rattle.tsa_print.proofs.attributes.put_attributes.Given as goal

abbrev pub invariant-each : goal.invariant-each
invariant-each l = put (page_of l.sheet) (attributes_pieces (attr_shapes (drop l.attr-index l.attrs))) ≡ put (page_of l.fn.sheet) (attributes_pieces (attr_shapes l.attrs))
