use Rattle.std.proofs.Common.{◌≡◌, drop, map}
use Rattle.tsa_rules_table.specs.Notes.{core_access}
use Rattle.tsa_rules_table.specs.Rows.{KeepsRows}
use Rattle.tsa_rules_table.specs.Saying.{guarding}
use Rattle.tsa_rules_table.proofs.Saying.{Leaves}
use Rattle.tsa_rules_table.proofs.marks.Marks.note_accesses.Given as goal

-- what is left to say, behind what is said
abbrev pub invariant-each : goal.invariant-each
invariant-each l = record {
  row : Leaves l.fn.numbers (guarding l.side (map core_access (drop l.access-index l.found))) l.self (guarding l.side (map core_access l.found)) l.fn.self;
  kept : KeepsRows l.fn.self l.self;
  numbers : l.numbers ≡ l.fn.numbers;
}
