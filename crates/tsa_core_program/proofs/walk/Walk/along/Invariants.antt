use Rattle.std.proofs.Common.{◌≡◌, drop}
use Rattle.tsa_core_program.specs.Walks.{walk_behind}
use Rattle.tsa_core_program.proofs.walk.Walk.along.Given as goal

-- what is found along the nodes that are left is found along all of them
abbrev pub invariant-nodes : goal.invariant-nodes
invariant-nodes l = walk_behind l.at l.self (drop l.at l.row) ≡ walk_behind 0 l.initial.self l.row
