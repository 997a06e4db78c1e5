use Rattle.std.proofs.Common.{◌∙◌, ap, sym}
use Rattle.std.specs.Option.{option_copied}
use Rattle.tsa_expr.proofs.ListedRows.{behind, found}
use Rattle.tsa_expr.proofs.table.look_up.Goals as goal

pub returns-in-Some : goal.returns-in-Some
returns-in-Some g c = ap (λ o. behind (option_copied o)) (sym c.in-Some.is) ∙ found c.args.rows.now c.args.text.now _ c.row_of.ensures

pub returns-in-None : goal.returns-in-None
returns-in-None g c = ap (λ o. behind (option_copied o)) (sym c.in-None.is) ∙ found c.args.rows.now c.args.text.now _ c.row_of.ensures
