use Rattle.std.proofs.Common.{◌≡◌, OnOk, refl, sym, ap, subst, ◌∙◌, arith}
use Rattle.tsa_tree.specs.declarations.Shapes.{init_shape, init_shapes}
use Rattle.tsa_print.specs.declared.mark.Mark.TheVariants as marks
use Rattle.tsa_print.specs.Canonical.{mark}
use Rattle.tsa_print.specs.DeclarationPieces.{initialiser_pieces, initialisers_pieces, further_pieces}
use Rattle.tsa_print.specs.Sheets.{page_of, put}
use Rattle.tsa_print.proofs.Steps.{put_first, put_element_behind, dropped, parted_at}
use Rattle.tsa_tree.proofs.declarations.Trees.{tall, talls, list_at}
use Rattle.tsa_print.proofs.declarations.+initialisers.Goals as goal

pub put_further_initialisers-each-preserved : goal.put_further_initialisers-each-preserved
put_further_initialisers-each-preserved t c =
    let at = dropped c.args.items.now c.each.init-index _ c.each-test.true c.init-item.is in
    record {
      page =
          put_element_behind (λ xs. further_pieces (init_shapes xs)) (mark marks.Comma) (λ x. initialiser_pieces (init_shape x)) (λ x xs. refl) (page_of c.each.sheet) _ _ _ _ _ at
          c.in_ok-put_mark.ensures c.in_ok-put_initialiser.ensures
          ∙ c.each.invariant.page;
      low = omega (arith, ap (λ xs. talls (init_shapes xs)) at, c.each.invariant.low);
    }

pub put_initialiser-put_list-requires : goal.put_initialiser-put_list-requires
put_initialiser-put_list-requires t c = (omega (arith, ap tall (list_at c.args.init.now c.in-List.items c.in-List.span c.in-List.is)), tt)

pub put_initialiser-returns-in-List : goal.put_initialiser-returns-in-List
put_initialiser-returns-in-List t c =
    subst (λ ps. OnOk c.put_list.result (page_of c.put_list.new.sheet ≡ put (page_of c.args.sheet.now) ps))
    (sym (ap initialiser_pieces (list_at c.args.init.now c.in-List.items c.in-List.span c.in-List.is)))
    c.put_list.ensures

pub put_initialisers-returns-in_ok-put_initialiser-in-len1-up : goal.put_initialisers-returns-in_ok-put_initialiser-in-len1-up
put_initialisers-returns-in_ok-put_initialiser-in-len1-up t c =
    subst (λ p. OnOk c.put_further_initialisers.result (page_of c.put_further_initialisers.new.sheet ≡ p))
    (put_first (λ xs. initialisers_pieces (init_shapes xs)) (λ x. initialiser_pieces (init_shape x)) (λ xs. further_pieces (init_shapes xs)) (λ x xs. refl)
    (page_of c.args.sheet.now) _ _ _ _ (parted_at c.args.items.now _ c.in-len1-up.len_at_least c.first-item.is) c.in_ok-put_initialiser-in-len1-up.ensures)
    c.put_further_initialisers.ensures
