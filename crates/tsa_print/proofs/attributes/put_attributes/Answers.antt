use Rattle.std.proofs.Common.{◌∙◌, refl}
use Rattle.std.proofs.lemmas.List.{drop_more}
use Rattle.tsa_tree.specs.attributes.Syntax.{attr_shape, attr_shapes}
use Rattle.tsa_print.specs.DeclarationPieces.{attribute_pieces, attributes_pieces}
use Rattle.tsa_print.specs.Sheets.{page_of}
use Rattle.tsa_print.proofs.Steps.{put_element}
use Rattle.tsa_print.proofs.attributes.put_attributes.Goals as goal

pub each-preserved : goal.each-preserved
each-preserved c =
    put_element (λ xs. attributes_pieces (attr_shapes xs)) (λ x. attribute_pieces (attr_shape x)) (λ x xs. refl) (page_of c.each.sheet) _ _ _ _ (drop_more c.args.attrs.now c.each.attr-index _ c.each-test.true)
    c.in_ok-put_attribute.ensures
    ∙ c.each.invariant
