use Rattle.std.proofs.Common.{◌≡◌, List, []}
use Rattle.tsa_warn_bodies.specs.Bodies.{BodyText}
use Rattle.tsa_warn_bodies.specs.BodyCourses.{course_of}
use Rattle.tsa_tree.specs.units.Shapes.{item_shapes}
use Rattle.tsa_warn.specs.OneBody.{warned_of}
use Rattle.tsa_warn.specs.WarningLines.{AreWarned}
use Rattle.tsa_warn.proofs.Progress.{IsTold}
use Rattle.tsa_warn.proofs.line_count.UnitLines.add_bodies.Given as goal

-- the lines of the bodies that are told are there
abbrev pub invariant-each : goal.invariant-each
invariant-each l = record {
  done : List BodyText;
  told : IsTold l.teller.pass.ground.items.now l.item-index (course_of l.course) done;
  lines : warned_of l.fn.self ≡ record { text = []; count = 0 } → AreWarned l.starts (item_shapes l.teller.pass.ground.items.now) done (warned_of l.self);
}
