use Rattle.std.proofs.Common.{◌∙◌}
use Rattle.tsa_expr.proofs.AttributeRows.{of_thirteen, of_fourteen, of_fifteen, of_twenty_five, of_twenty_six}
use Rattle.tsa_expr.proofs.meaning.named_meaning.Goals as goal

pub returns-in-13 : goal.returns-in-13
returns-in-13 c = c.look_up-in-13.ensures ∙ of_thirteen c.args.text.now c.in-13.is

pub returns-in-14 : goal.returns-in-14
returns-in-14 c = c.look_up-in-14.ensures ∙ of_fourteen c.args.text.now c.in-14.is

pub returns-in-15 : goal.returns-in-15
returns-in-15 c = c.look_up-in-15.ensures ∙ of_fifteen c.args.text.now c.in-15.is

pub returns-in-25 : goal.returns-in-25
returns-in-25 c = c.look_up-in-25.ensures ∙ of_twenty_five c.args.text.now c.in-25.is

pub returns-in-26 : goal.returns-in-26
returns-in-26 c = c.look_up-in-26.ensures ∙ of_twenty_six c.args.text.now c.in-26.is
