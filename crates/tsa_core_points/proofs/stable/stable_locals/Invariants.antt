use Rattle.std.proofs.Common.{◌≡◌, drop, map, replicate, true}
use Rattle.tsa_core_points.specs.Steps.{step_shape}
use Rattle.tsa_core_points.specs.Stable.{stable_along}
use Rattle.tsa_core_points.specs.Walks.{walk_behind}
use Rattle.tsa_core_points.proofs.stable.stable_locals.Given as goal

-- what is told along the steps that are left is what is told along all
abbrev pub invariant-each : goal.invariant-each
invariant-each l = record {
  stable : stable_along l.stable.items l.walk (map step_shape (drop l.step-index l.steps)) ≡ stable_along (replicate l.fn.walk.here.locals true) l.fn.walk (map step_shape l.steps);
  behind : walk_behind l.walk (map step_shape (drop l.step-index l.steps)) ≡ walk_behind l.fn.walk (map step_shape l.steps);
}
