use Rattle.std.proofs.Common.{◌≡◌, drop}
use Rattle.tsa_rules_table.specs.Rows.{KeepsRows}
use Rattle.tsa_rules_table.specs.Saying.{named_by}
use Rattle.tsa_rules_table.proofs.Saying.{Leaves}
use Rattle.tsa_rules_table.proofs.marks.Marks.note_own.Given as goal

-- what is left to say, behind what is said
abbrev pub invariant-each : goal.invariant-each
invariant-each l = record {
  row : Leaves l.fn.numbers (named_by (drop l.lock-index l.locks)) l.self (named_by l.locks) l.fn.self;
  kept : KeepsRows l.fn.self l.self;
  numbers : l.numbers ≡ l.fn.numbers;
}
