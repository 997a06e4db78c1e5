use Rattle.std.proofs.Common.{◌≤◌, ℕ, List}
use Rattle.std.specs.Io.KnownBytes.{Appends}
use Rattle.tsa_warn.specs.Bodies.{BodyText}
use Rattle.tsa_warn.specs.BodyCourses.{course_of}
use Rattle.tsa_tree.specs.units.Shapes.{item_shapes}
use Rattle.tsa_tool_held.specs.Held.{IsBodyHeld}
use Rattle.tsa_tool_held.specs.Pieces.{Pieces}
use Rattle.tsa_warn.proofs.Progress.{IsTold}
use Rattle.tsa_tool_held.proofs.held.write_bodies.Given as goal

-- the lines of the bodies that are told are written
abbrev pub invariant-each : goal.invariant-each
invariant-each g l = record {
  later : g.O.Sink.faults l.fn.out ≤ g.O.Sink.faults l.out;
  done : List BodyText;
  told : IsTold l.teller.pass.ground.items.now l.item-index (course_of l.course) done;
  lines : List ℕ;
  held : Pieces (IsBodyHeld l.desk.starts.now (item_shapes l.teller.pass.ground.items.now)) done lines;
  written : Appends (g.O.Sink.taken l.fn.out) (g.O.Sink.taken l.out) lines;
}
