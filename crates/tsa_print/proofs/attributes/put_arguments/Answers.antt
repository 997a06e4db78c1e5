use Rattle.std.proofs.Common.{◌≡◌, OnOk, refl, subst}
use Rattle.tsa_tree.specs.expressions.Shapes.{shape, shapes}
use Rattle.tsa_print.specs.Canonical.{pieces, arguments, further}
use Rattle.tsa_print.specs.Sheets.{page_of}
use Rattle.tsa_print.proofs.Steps.{put_first, parted}
use Rattle.tsa_print.proofs.attributes.put_arguments.Goals as goal

pub returns-in_ok-put_expr-in-len1-up : goal.returns-in_ok-put_expr-in-len1-up
returns-in_ok-put_expr-in-len1-up c =
    subst (λ p. OnOk c.put_further.result (page_of c.put_further.new.sheet ≡ p))
    (put_first (λ xs. arguments (shapes xs)) (λ x. pieces (shape x) 0) (λ xs. further (shapes xs)) (λ x xs. refl) (page_of c.args.sheet.now) _ _ _ _ (parted c.args.args.now _ c.in-len1-up.len_at_least) c.in_ok-put_expr-in-len1-up.ensures)
    c.put_further.ensures
