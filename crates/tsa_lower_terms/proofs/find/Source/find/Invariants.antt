use Rattle.std.proofs.Common.{◌≡◌, ◌≤◌, ◌-◌}
use Rattle.tsa_core_rows.specs.Reading.{behind_parts}
use Rattle.tsa_lower_terms.specs.Sources.{parts_at}
use Rattle.tsa_lower_terms.proofs.find.Source.find.Given as goal

-- what is still left behind this node is what was asked for
abbrev pub invariant-nodes : goal.invariant-nodes
invariant-nodes l = record {
  there : behind_parts l.left (parts_at l.self l.number) ≡ behind_parts l.others (parts_at l.self l.at);
  ahead : l.at ≤ l.number;
}

abbrev pub decreases-nodes : goal.decreases-nodes
decreases-nodes l = l.count - l.number
