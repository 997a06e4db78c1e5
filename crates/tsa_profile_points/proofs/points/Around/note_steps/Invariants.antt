use Rattle.std.proofs.Common.{◌≡◌, ◌≤◌, ◌+◌, drop, map}
use Rattle.tsa_core_points.specs.Steps.{step_shape}
use Rattle.tsa_core_points.specs.Walks.{points_along, walk_behind}
use Rattle.tsa_profile_points.specs.Judging.{behind_points}
use Rattle.tsa_profile_points.specs.PointAnswers.{around_of}
use Rattle.tsa_profile_points.proofs.points.Around.note_steps.Given as goal

-- what is found along the steps that are left is what is found along all, and each step begins one try at most
abbrev pub invariant-each : goal.invariant-each
invariant-each l = record {
  found : behind_points (around_of l.fn.self) l.found (points_along l.walk (map step_shape (drop l.step-index l.steps)))
      ≡ behind_points (around_of l.fn.self) l.fn.found (points_along l.fn.walk (map step_shape l.steps));
  few : l.found.tries ≤ l.fn.found.tries + l.step-index;
  behind : walk_behind l.walk (map step_shape (drop l.step-index l.steps)) ≡ walk_behind l.fn.walk (map step_shape l.steps);
}
