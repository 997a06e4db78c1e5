use Rattle.std.proofs.Common.{◌∙◌}
use Rattle.tsa_lex.proofs.Words.{of_fourteen}
use Rattle.tsa_lex.proofs.keywords.is_reserved.Goals as goal

pub returns-in-14 : goal.returns-in-14
returns-in-14 c = c.is_one_of-in-14.ensures ∙ of_fourteen c.args.text.now c.in-14.is
