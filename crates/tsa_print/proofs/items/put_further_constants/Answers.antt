use Rattle.std.proofs.Common.{◌∙◌, refl}
use Rattle.std.proofs.lemmas.List.{drop_more}
use Rattle.tsa_print.specs.declared.mark.Mark.TheVariants as marks
use Rattle.tsa_print.specs.Canonical.{mark}
use Rattle.tsa_tree.specs.declarations.Shapes.{enumerator_shape, enumerator_shapes}
use Rattle.tsa_print.specs.DeclarationPieces.{constant_pieces, further_constants}
use Rattle.tsa_print.specs.Sheets.{page_of}
use Rattle.tsa_print.proofs.Steps.{put_element_behind}
use Rattle.tsa_print.proofs.items.put_further_constants.Goals as goal

pub each-preserved : goal.each-preserved
each-preserved c =
    put_element_behind (λ xs. further_constants (enumerator_shapes xs)) (mark marks.Comma) (λ x. constant_pieces (enumerator_shape x)) (λ x xs. refl) (page_of c.each.sheet) _ _ _ _ _ (drop_more c.args.constants.now c.each.constant-index _ c.each-test.true)
    c.in_ok-put_mark.ensures c.in_ok-put_constant.ensures
    ∙ c.each.invariant
