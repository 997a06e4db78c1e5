use Rattle.std.proofs.Common.{◌∙◌, refl}
use Rattle.std.proofs.lemmas.List.{drop_more}
use Rattle.tsa_print.specs.declared.mark.Mark.TheVariants as marks
use Rattle.tsa_print.specs.Canonical.{mark}
use Rattle.tsa_tree.specs.declarations.Shapes.{decl_shape, decl_shapes}
use Rattle.tsa_print.specs.DeclarationPieces.{declaration_pieces, members_pieces}
use Rattle.tsa_print.specs.Sheets.{page_of}
use Rattle.tsa_print.proofs.Steps.{put_element_before}
use Rattle.tsa_print.proofs.declarations.put_members.Goals as goal

pub each-preserved : goal.each-preserved
each-preserved c =
    put_element_before (λ xs. members_pieces (decl_shapes xs)) (mark marks.Semicolon) (λ x. declaration_pieces (decl_shape x)) (λ x xs. refl) (page_of c.each.sheet) _ _ _ _ _ (drop_more c.args.members.now c.each.member-index _ c.each-test.true)
    c.in_ok-put_declaration.ensures c.in_ok-put_mark.ensures
    ∙ c.each.invariant
