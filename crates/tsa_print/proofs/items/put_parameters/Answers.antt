use Rattle.std.proofs.Common.{◌≡◌, OnOk, refl, subst}
use Rattle.tsa_tree.specs.declarations.Shapes.{param_shape, param_shapes}
use Rattle.tsa_print.specs.DeclarationPieces.{parameter_pieces, further_parameters, parameters_pieces}
use Rattle.tsa_print.specs.Sheets.{page_of}
use Rattle.tsa_print.proofs.Steps.{put_first, parted}
use Rattle.tsa_print.proofs.items.put_parameters.Goals as goal

pub returns-in_ok-put_parameter-in-len1-up : goal.returns-in_ok-put_parameter-in-len1-up
returns-in_ok-put_parameter-in-len1-up c =
    subst (λ p. OnOk c.put_further_parameters.result (page_of c.put_further_parameters.new.sheet ≡ p))
    (put_first (λ xs. parameters_pieces (param_shapes xs)) (λ x. parameter_pieces (param_shape x)) (λ xs. further_parameters (param_shapes xs)) (λ x xs. refl) (page_of c.args.sheet.now) _ _ _ _ (parted c.args.params.now _ c.in-len1-up.len_at_least) c.in_ok-put_parameter-in-len1-up.ensures)
    c.put_further_parameters.ensures
