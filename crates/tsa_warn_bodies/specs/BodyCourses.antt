-- What is known in front of an item, as the code keeps it.
use Rattle.std.specs.Prelude.{map}
use Rattle.tsa_tree.specs.declarations.Shapes.{param_shapes}
use Rattle.tsa_warn_bodies.specs.Courses.{Course}
use Rattle.tsa_warn_bodies.specs.declared.course.Course.{Course as Kept}

abbrev pub course_of : Kept → Course
course_of c = record { known = c.known; firsts = map (λ params. param_shapes params.now) c.firsts.items }
