use Rattle.std.proofs.Common.{◌∙◌, refl}
use Rattle.tsa_tree.specs.units.Shapes.{item_shape, item_shapes}
use Rattle.tsa_print.specs.UnitPieces.{item_pieces, unit_pieces}
use Rattle.tsa_print.specs.Sheets.{page_of}
use Rattle.tsa_print.proofs.Steps.{put_element, dropped}
use Rattle.tsa_print.proofs.items.put_items.Goals as goal

pub each-preserved : goal.each-preserved
each-preserved c =
    put_element (λ xs. unit_pieces (item_shapes xs)) (λ x. item_pieces (item_shape x)) (λ x xs. refl) (page_of c.each.sheet) _ _ _ _ (dropped c.args.items.now c.each.item-index _ c.each-test.true c.item-item.is)
    c.in_ok-put_item.ensures
    ∙ c.each.invariant
