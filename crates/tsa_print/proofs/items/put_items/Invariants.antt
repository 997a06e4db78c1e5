use Rattle.std.proofs.Common.{◌≡◌, drop}
use Rattle.tsa_tree.specs.units.Shapes.{item_shapes}
use Rattle.tsa_print.specs.UnitPieces.{unit_pieces}
use Rattle.tsa_print.specs.Sheets.{page_of, put}
use Rattle.tsa_print.proofs.items.put_items.Given as goal

abbrev pub invariant-each : goal.invariant-each
invariant-each l = put (page_of l.sheet) (unit_pieces (item_shapes (drop l.item-index l.items))) ≡ put (page_of l.fn.sheet) (unit_pieces (item_shapes l.items))
