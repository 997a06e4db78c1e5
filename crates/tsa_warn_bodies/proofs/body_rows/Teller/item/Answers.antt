use Rattle.tsa_tree.specs.units.Shapes.{item_shape}
use Rattle.tsa_warn_bodies.specs.BodyCourses.{course_of}
use Rattle.tsa_warn_bodies.proofs.Stepping.{first_typed}
use Rattle.tsa_warn_bodies.proofs.body_rows.Teller.item.Goals as goal

pub pass-requires : goal.pass-requires
pass-requires c = record { typed = first_typed c.args.self.now.pass (course_of c.args.course.now) (item_shape c.args.item.now) c.requires.ahead.0 c.requires.ahead.1 }
