use Rattle.std.proofs.Common.{◌∙◌, sym}
use Rattle.std.proofs.lemmas.Result.{on_ok_weaker}
use Rattle.tsa_rules_table.proofs.Saying.{nothing_said, number_says}
use Rattle.tsa_rules_table.proofs.marks.Marks.note.Goals as goal

pub returns-in-Some-2-clause-row : goal.returns-in-Some-2-clause-row
returns-in-Some-2-clause-row c =
    let paths = c.args.numbers.now in
    let known = sym c.in_ok-number.ensures.number ∙ c.in-Some-2.is in
    rw c.in-Some.is (on_ok_weaker c.add.result (number_says paths c.in-Some.path c.in-Some-2.number c.args.note c.args.self.now c.add.new.self known) c.add.ensures)

pub returns-in-None-clause-row : goal.returns-in-None-clause-row
returns-in-None-clause-row c =
    rw c.in-Some.is (nothing_said c.args.numbers.now c.in-Some.path c.args.note c.args.self.now (sym c.in_ok-number.ensures.number ∙ c.in-None.is))
