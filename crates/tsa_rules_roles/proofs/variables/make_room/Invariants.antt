use Rattle.std.proofs.Common.{◌≡◌, ℕ, ◌+◌, ◌-◌, length, get_or, None}
use Rattle.tsa_rules_roles.proofs.variables.make_room.Given as goal

abbrev pub invariant-room : goal.invariant-room
invariant-room l = (at : ℕ) → get_or l.variables.items at None ≡ get_or l.fn.variables.items at None

abbrev pub decreases-room : goal.decreases-room
decreases-room l = (l.local + 1) - length l.variables.items
