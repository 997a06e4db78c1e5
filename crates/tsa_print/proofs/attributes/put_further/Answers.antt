use Rattle.std.proofs.Common.{◌∙◌, refl}
use Rattle.std.proofs.lemmas.List.{drop_more}
use Rattle.tsa_print.specs.declared.mark.Mark.TheVariants as marks
use Rattle.tsa_print.specs.Canonical.{mark}
use Rattle.tsa_tree.specs.expressions.Shapes.{shape, shapes}
use Rattle.tsa_print.specs.Canonical.{pieces, further}
use Rattle.tsa_print.specs.Sheets.{page_of}
use Rattle.tsa_print.proofs.Steps.{put_element_behind}
use Rattle.tsa_print.proofs.attributes.put_further.Goals as goal

pub each-preserved : goal.each-preserved
each-preserved c =
    put_element_behind (λ xs. further (shapes xs)) (mark marks.Comma) (λ x. pieces (shape x) 0) (λ x xs. refl) (page_of c.each.sheet) _ _ _ _ _ (drop_more c.args.args.now c.each.arg-index _ c.each-test.true)
    c.in_ok-put_mark.ensures c.in_ok-put_expr.ensures
    ∙ c.each.invariant
