use Rattle.std.proofs.Common.{◌≡◌, ◌<◌, ◌≤◌, ℕ, length}
use Rattle.tsa_flow_solver.specs.Agreeing.{IsLaneCompared}
use Rattle.tsa_flow_solver.specs.Rows.{flag_at, set_at}
use Rattle.tsa_flow_solver.proofs.flags.Flags.compare.Given as goal

-- the first lanes are compared
abbrev pub invariant-lanes : goal.invariant-lanes
invariant-lanes l = record {
  long : length l.self ≡ length l.fn.self;
  done : (lane : ℕ) → lane < l.lane → IsLaneCompared (set_at l.set lane) (set_at l.brought lane) (flag_at l.fn.self lane) (flag_at l.self lane);
  rest : (lane : ℕ) → l.lane ≤ lane → flag_at l.self lane ≡ flag_at l.fn.self lane;
}
