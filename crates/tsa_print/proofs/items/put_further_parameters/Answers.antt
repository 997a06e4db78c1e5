use Rattle.std.proofs.Common.{◌∙◌, refl}
use Rattle.std.proofs.lemmas.List.{drop_more}
use Rattle.tsa_print.specs.declared.mark.Mark.TheVariants as marks
use Rattle.tsa_print.specs.Canonical.{mark}
use Rattle.tsa_tree.specs.declarations.Shapes.{param_shape, param_shapes}
use Rattle.tsa_print.specs.DeclarationPieces.{parameter_pieces, further_parameters}
use Rattle.tsa_print.specs.Sheets.{page_of}
use Rattle.tsa_print.proofs.Steps.{put_element_behind}
use Rattle.tsa_print.proofs.items.put_further_parameters.Goals as goal

pub each-preserved : goal.each-preserved
each-preserved c =
    put_element_behind (λ xs. further_parameters (param_shapes xs)) (mark marks.Comma) (λ x. parameter_pieces (param_shape x)) (λ x xs. refl) (page_of c.each.sheet) _ _ _ _ _ (drop_more c.args.params.now c.each.param-index _ c.each-test.true)
    c.in_ok-put_mark.ensures c.in_ok-put_parameter.ensures
    ∙ c.each.invariant
