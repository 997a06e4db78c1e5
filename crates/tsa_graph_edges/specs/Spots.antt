-- What a walk from the end of a body on has to come by at a statement.
use Rattle.std.specs.Prelude.{◌≡◌, ◌+◌}
use Rattle.tsa_tree.specs.statements.Syntax.{Statement, Statements}
use Rattle.tsa_core.specs.Control.{count, count_all, first, first_all, Targets}
use Rattle.tsa_graph_edges.specs.Successors.{Ahead, with_statement, with_statements}
use Rattle.tsa_graph_edges.specs.declared.walk.Spot.{Spot}
use Rattle.tsa_graph_edges.specs.declared.walk.Start.{Start}

-- where jumps in a statement lead
abbrev pub targets_at : Spot → Targets
targets_at spot = record { break_to = spot.break_to; continue_to = spot.continue_to; labels = spot.labels.now }

-- The statement ends where it has to, its first point is told, and what it comes to stands in front.
pub record IsPut (spot : Spot) (s : Statement) (start : Start) (old new : Ahead) : Type 0 where
  pub ends : start.at + count s ≡ spot.end
  pub begins : start.first ≡ first s start.at spot.follow
  pub put : new ≡ with_statement spot.scope.now s start.at spot.follow (targets_at spot) old

pub record ArePut (spot : Spot) (ss : Statements) (start : Start) (old new : Ahead) : Type 0 where
  pub ends : start.at + count_all ss ≡ spot.end
  pub begins : start.first ≡ first_all ss start.at spot.follow
  pub put : new ≡ with_statements spot.scope.now ss start.at spot.follow (targets_at spot) old
