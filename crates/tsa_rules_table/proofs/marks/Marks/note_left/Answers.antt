use Rattle.std.proofs.Common.{map}
use Rattle.std.proofs.lemmas.Result.{on_ok_weaker}
use Rattle.tsa_rules_table.specs.Notes.{core_access}
use Rattle.tsa_rules_table.proofs.Steps.{left_noted}
use Rattle.tsa_rules_table.proofs.marks.Marks.note_left.Goals as goal

pub returns-clause-row : goal.returns-clause-row
returns-clause-row c =
    on_ok_weaker c.note_accesses.result (left_noted c.args.numbers.now (map core_access c.args.found.now) c.args.self.now c.note_accesses.new.self) c.note_accesses.ensures.row
