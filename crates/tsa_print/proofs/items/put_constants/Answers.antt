use Rattle.std.proofs.Common.{◌≡◌, OnOk, refl, subst}
use Rattle.tsa_tree.specs.declarations.Shapes.{enumerator_shape, enumerator_shapes}
use Rattle.tsa_print.specs.DeclarationPieces.{constant_pieces, further_constants, constants_pieces}
use Rattle.tsa_print.specs.Sheets.{page_of}
use Rattle.tsa_print.proofs.Steps.{put_first, parted}
use Rattle.tsa_print.proofs.items.put_constants.Goals as goal

pub returns-in_ok-put_constant-in-len1-up : goal.returns-in_ok-put_constant-in-len1-up
returns-in_ok-put_constant-in-len1-up c =
    subst (λ p. OnOk c.put_further_constants.result (page_of c.put_further_constants.new.sheet ≡ p))
    (put_first (λ xs. constants_pieces (enumerator_shapes xs)) (λ x. constant_pieces (enumerator_shape x)) (λ xs. further_constants (enumerator_shapes xs)) (λ x xs. refl) (page_of c.args.sheet.now) _ _ _ _ (parted c.args.constants.now _ c.in-len1-up.len_at_least) c.in_ok-put_constant-in-len1-up.ensures)
    c.put_further_constants.ensures
