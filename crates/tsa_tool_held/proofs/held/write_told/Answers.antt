use Rattle.std.proofs.Common.{◌∙◌, ap}
use Rattle.tsa_warn.specs.Courses.{course_outset}
use Rattle.tsa_warn.specs.Units.{unit_of}
use Rattle.tsa_tree.specs.units.Shapes.{item_shapes}
use Rattle.tsa_tool_held.proofs.held.write_told.Goals as goal

pub write_bodies-requires-clause-begun : goal.write_bodies-requires-clause-begun
write_bodies-requires-clause-begun g c =
    c.in_ok-course.ensures ∙ ap (λ outside. course_outset (unit_of outside (item_shapes c.args.teller.now.pass.ground.items.now))) c.args.teller.now.pass.inside
