use Rattle.std.proofs.Common.{◌≡◌, ◌∙◌, [], ◌++◌, map, Some, sym, ap, ap₂, subst}
use Rattle.tsa_tree.specs.declarations.Shapes.{head_shape}
use Rattle.tsa_tree.specs.types.Premises.{first}
use Rattle.tsa_tree.specs.types.Units.{item_premises}
use Rattle.tsa_tree.specs.units.Shapes.{function_shape, item_shape, item_shapes}
use Rattle.tsa_core.specs.Programs.{declared_by}
use Rattle.tsa_rules_bodies.specs.Entering.{Enters}
use Rattle.tsa_profile_context.specs.Judging.{unit_at}
use Rattle.tsa_rules_bodies.proofs.PointNumbers.{item_of_function}
use Rattle.tsa_rules_bodies.specs.Knowing.{IsWithin, behind}
use Rattle.tsa_profile_context.specs.Units.{unit_of}
use Rattle.tsa_flow.proofs.Passing.{left_behind}
use Rattle.tsa_warn_bodies.specs.Bodies.{Tells}
use Rattle.tsa_warn_bodies.specs.BodyCourses.{course_of}
use Rattle.tsa_warn_bodies.specs.Courses.{params_by}
use Rattle.tsa_warn_bodies.proofs.Stepping.{course, entered, first_typed}
use Rattle.tsa_warn_bodies.proofs.body_rows.Teller.function.Goals as goal

pub enter_item-requires : goal.enter_item-requires
enter_item-requires c =
    let item = item_shape c.args.item.now in
    let here = ap (λ m. m.known.here) c.in_ok-note.ensures in
    record {
      typed =
          ap (λ h. first (item_premises h item)) here
          ∙ first_typed c.args.self.now.pass (course_of c.args.course.now) item c.requires.ahead.0 c.requires.ahead.1;
      points = item_of_function c.args.head.now c.args.item.now c.requires.is c.requires.points;
    }

pub body-requires : goal.body-requires
body-requires c =
    let s = c.args.self.now.pass in
    let items = item_shapes s.ground.items.now in
    let item = item_shape c.args.item.now in
    let old = course_of c.args.course.now in
    let there = c.enter_item.new.known in
    let i = c.in-Some.inside in
    let is : item ≡ function_shape c.args.head.now = ap item_shape c.requires.is in
    let unit : unit_at s.ground ≡ unit_of [] items = ap (λ o. unit_of o items) s.inside in
    let same = ap (λ m. m.known) c.in_ok-note.ensures in
    let e = subst (λ o. Enters (unit_at s.ground) c.note.new.self.known item there o) c.in-Some.is c.in_ok-inside.ensures in
    let enters = subst (λ k. Enters (unit_of [] items) k item there (Some i)) same (subst (λ u. Enters u c.note.new.self.known item there (Some i)) unit e) in
    let firsts = ap (λ m. m.firsts) c.in_ok-note.ensures ∙ ap (λ x. old.firsts ++ map params_by (declared_by old.known.here x)) (sym is) in
    let x = entered s c.args.head.now old (course there (course_of c.note.new.self).firsts) i c.requires.ahead.0 item is c.requires.ahead.1 enters firsts c.requires.points in
    record { stands = (x.0, x.1.1) }

pub returns-clause-behind : goal.returns-clause-behind
returns-clause-behind c =
    let s = c.args.self.now.pass in
    let items = item_shapes s.ground.items.now in
    let item = item_shape c.args.item.now in
    let old = course_of c.args.course.now in
    let there = c.enter_item.new.known in
    let i = c.in-Some.inside in
    let u = unit_at s.ground in
    let k = c.note.new.self.known in
    let is : item ≡ function_shape c.args.head.now = ap item_shape c.requires.is in
    let unit : u ≡ unit_of [] items = ap (λ o. unit_of o items) s.inside in
    let same = ap (λ m. m.known) c.in_ok-note.ensures in
    let e = subst (λ o. Enters u k item there o) c.in-Some.is c.in_ok-inside.ensures in
    let stays = ap (λ m. m.known) c.in_ok-told.ensures.known in
    let left = left_behind u k there i c.leave_body.new.known item e
    (λ close out within. c.leave_body.ensures.behind u k close out (subst (IsWithin u k (head_shape i.head.now)) (sym stays) within)) in
    ap₂ course (left ∙ ap₂ (λ v m. behind v m item) unit same)
    (ap (λ m. m.firsts) c.in_ok-told.ensures.known
    ∙ ap (λ m. m.firsts) c.in_ok-note.ensures ∙ ap (λ x. old.firsts ++ map params_by (declared_by old.known.here x)) (sym is))

pub returns-clause-told : goal.returns-clause-told
returns-clause-told c =
    let s = c.args.self.now.pass in
    let items = item_shapes s.ground.items.now in
    let item = item_shape c.args.item.now in
    let old = course_of c.args.course.now in
    let there = c.enter_item.new.known in
    let i = c.in-Some.inside in
    let is : item ≡ function_shape c.args.head.now = ap item_shape c.requires.is in
    let unit : unit_at s.ground ≡ unit_of [] items = ap (λ o. unit_of o items) s.inside in
    let same = ap (λ m. m.known) c.in_ok-note.ensures in
    let e = subst (λ o. Enters (unit_at s.ground) c.note.new.self.known item there o) c.in-Some.is c.in_ok-inside.ensures in
    let enters = subst (λ k. Enters (unit_of [] items) k item there (Some i)) same (subst (λ u. Enters u c.note.new.self.known item there (Some i)) unit e) in
    let firsts = ap (λ m. m.firsts) c.in_ok-note.ensures ∙ ap (λ x. old.firsts ++ map params_by (declared_by old.known.here x)) (sym is) in
    let x = entered s c.args.head.now old (course there (course_of c.note.new.self).firsts) i c.requires.ahead.0 item is c.requires.ahead.1 enters firsts c.requires.points in
    subst (λ bs. Tells items bs c.in_ok-told.told) (sym x.1.0) (c.in_ok-told.ensures.told x.0 x.1.1)
