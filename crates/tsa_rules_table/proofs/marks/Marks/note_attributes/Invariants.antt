use Rattle.std.proofs.Common.{◌≡◌, drop}
use Rattle.tsa_rules.specs.Attributes.{all_as_called}
use Rattle.tsa_rules_table.specs.Rows.{KeepsRows}
use Rattle.tsa_rules_table.specs.Saying.{named_by}
use Rattle.tsa_rules_table.proofs.Saying.{Leaves}
use Rattle.tsa_rules_table.proofs.marks.Marks.note_attributes.Given as goal

-- what is left to say, behind what is said
abbrev pub invariant-each : goal.invariant-each
invariant-each l = record {
  row : Leaves l.fn.numbers (named_by (all_as_called l.ways (drop l.lock-index l.locks))) l.self (named_by (all_as_called l.ways l.locks)) l.fn.self;
  kept : KeepsRows l.fn.self l.self;
  numbers : l.numbers ≡ l.fn.numbers;
}
