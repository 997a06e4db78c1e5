use Rattle.tsa_rules_table.specs.Rows.{KeepsRows}
use Rattle.tsa_rules_table.proofs.Mentions.{IsNotedBelow}
use Rattle.tsa_rules_table.proofs.marks.Marks.note_declaration.Given as goal

-- it is noted of the paths of the numbers before
abbrev pub invariant-each : goal.invariant-each
invariant-each l = record {
  row : IsNotedBelow l.numbers l.local l.number l.fn.self l.self;
  kept : KeepsRows l.fn.self l.self;
}
