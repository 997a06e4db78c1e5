use Rattle.std.proofs.Common.{◌≡◌, [], subst}
use Rattle.std.specs.Prelude.{IfOk, OnOk}
use Rattle.tsa_warn_bodies.specs.Bodies.{Tells, body_by}
use Rattle.tsa_warn_bodies.specs.BodyCourses.{course_of}
use Rattle.tsa_warn_bodies.specs.Courses.{course_behind}
use Rattle.tsa_warn_bodies.specs.Units.{unit_of}
use Rattle.tsa_tree.specs.units.Shapes.{item_shape, item_shapes}
use Rattle.tsa_warn.proofs.Lines.{always_well, where_well}
use Rattle.tsa_warn.proofs.line_count.UnitLines.add_item.Goals as goal

pub returns-in-Ok-clause-behind : goal.returns-in-Ok-clause-behind
returns-in-Ok-clause-behind c = always_well c.add_told.result _
    (subst (λ made. OnOk made (course_of c.item.new.course ≡ course_behind (unit_of [] (item_shapes c.args.teller.now.pass.ground.items.now)) (course_of c.args.course.now) (item_shape c.args.item.now)))
    c.in-Ok.is c.item.ensures.behind)

pub returns-in-Ok-clause-lines : goal.returns-in-Ok-clause-lines
returns-in-Ok-clause-lines c =
    let items = item_shapes c.args.teller.now.pass.ground.items.now in
    let bodies = body_by (course_of c.args.course.now).known.here (item_shape c.args.item.now) in
    where_well c.add_told.result _ _ (λ added done h. added items done bodies (subst (λ made. IfOk made (Tells items bodies)) c.in-Ok.is c.item.ensures.told) h) c.add_told.ensures
