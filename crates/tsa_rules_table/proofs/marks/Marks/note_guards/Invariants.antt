use Rattle.std.proofs.Common.{◌≡◌, drop}
use Rattle.tsa_rules_table.specs.Rows.{KeepsRows}
use Rattle.tsa_rules_table.specs.Saying.{noted_all}
use Rattle.tsa_rules_table.proofs.Saying.{Leaves}
use Rattle.tsa_rules_table.proofs.marks.Marks.note_guards.Given as goal

-- what is left to say, behind what is said
abbrev pub invariant-each : goal.invariant-each
invariant-each l = record {
  row : Leaves l.fn.numbers (noted_all (drop l.guard-index l.guards) l.note) l.self (noted_all l.guards l.note) l.fn.self;
  kept : KeepsRows l.fn.self l.self;
  numbers : l.numbers ≡ l.fn.numbers;
}
