use Rattle.std.proofs.Common.{◌∙◌}
use Rattle.tsa_expr.proofs.WordRows.{of_fourteen}
use Rattle.tsa_expr.proofs.words.reserved_sign.Goals as goal

pub returns-in-14 : goal.returns-in-14
returns-in-14 c = c.look_up-in-14.ensures ∙ of_fourteen c.args.text.now c.in-14.is
