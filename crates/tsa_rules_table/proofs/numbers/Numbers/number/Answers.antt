use Rattle.std.proofs.Common.{◌∙◌, ap}
use Rattle.tsa_rules_table.specs.Numbers.{below_count, known_number}
use Rattle.tsa_rules_table.proofs.Standing.{known_in_front}
use Rattle.tsa_rules_table.proofs.Tables.{full_none}
use Rattle.tsa_rules_table.proofs.numbers.Numbers.number.Goals as goal

pub returns-in-Ok-clause-number : goal.returns-in-Ok-clause-number
returns-in-Ok-clause-number c =
    c.below.ensures
    ∙ ap (λ n. below_count n c.self.inside.known) c.in-Ok.ensures.number
    ∙ known_in_front c.self.inside.known c.self.inside.table c.args.path c.self.invariant
    ∙ ap (λ paths. known_number paths c.args.path) c.self.view_is

pub returns-in-Err-Full-clause-number : goal.returns-in-Err-Full-clause-number
returns-in-Err-Full-clause-number c =
    full_none c.self.inside.known c.self.inside.table c.in-Err-Full.field-0-0 c.args.path c.self.invariant (rw (← c.in-Err-Full.field-0-is) c.in-Err-Full.ensures.reason)
    ∙ ap (λ paths. known_number paths c.args.path) c.self.view_is
