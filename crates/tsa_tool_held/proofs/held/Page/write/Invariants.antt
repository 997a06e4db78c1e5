use Rattle.std.proofs.Common.{◌≤◌, ℕ, List}
use Rattle.std.specs.Io.KnownBytes.{Appends}
use Rattle.std.specs.List.{range_with_len}
use Rattle.tsa_tool_held.specs.Held.{Account, IsPointText}
use Rattle.tsa_tool_held.specs.Pages.{IsPageOf}
use Rattle.tsa_tool_held.specs.Pieces.{Pieces}
use Rattle.tsa_tool_held.proofs.held.Page.write.Given as goal

-- the lines of the first points are written
abbrev pub invariant-each : goal.invariant-each
invariant-each g l = record {
  later : g.O.Sink.faults l.fn.out ≤ g.O.Sink.faults l.out;
  written : (a : Account) → IsPageOf a l.self
      → (lines : List ℕ) × (Pieces (IsPointText l.self.starts.now a l.self.order.now) (range_with_len 0 l.point) lines × Appends (g.O.Sink.taken l.fn.out) (g.O.Sink.taken l.out) lines);
}
