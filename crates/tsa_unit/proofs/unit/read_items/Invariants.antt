use Rattle.std.proofs.Common.{◌≡◌, ◌≤◌, length, ◌-◌}
use Rattle.tsa_tree.specs.tokens.Signs.{lexemes}
use Rattle.tsa_tree.specs.units.Answers.{read_unit}
use Rattle.tsa_tree.specs.units.Shapes.{HaveTheirPoints}
use Rattle.tsa_unit.specs.Items.{on_from}
use Rattle.tsa_unit.proofs.unit.read_items.Given as goal

abbrev pub invariant-items : goal.invariant-items
invariant-items l =
    (l.next ≤ length l.text.tokens.now) × HaveTheirPoints l.list.items
    × (read_unit (lexemes l.text.tokens.now) ≡ on_from (lexemes l.text.tokens.now) l.list.items l.aliases l.next)

abbrev pub decreases-items : goal.decreases-items
decreases-items l = length l.text.tokens.now - l.next
