use Rattle.std.proofs.Common.{◌∙◌, ap}
use Rattle.tsa_warn_bodies.specs.Courses.{course_outset}
use Rattle.tsa_warn_bodies.specs.Units.{unit_of}
use Rattle.tsa_tree.specs.units.Shapes.{item_shapes}
use Rattle.tsa_warn.proofs.line_count.UnitLines.add_all.Goals as goal

pub add_bodies-requires-clause-begun : goal.add_bodies-requires-clause-begun
add_bodies-requires-clause-begun c =
    c.in_ok-course.ensures ∙ ap (λ outside. course_outset (unit_of outside (item_shapes c.args.teller.now.pass.ground.items.now))) c.args.teller.now.pass.inside
