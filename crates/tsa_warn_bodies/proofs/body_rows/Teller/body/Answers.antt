use Rattle.std.proofs.Common.{◌∙◌, refl, ap₂}
use Rattle.tsa_rules.specs.Legends.{names_in}
use Rattle.tsa_warn_text.specs.Orders.{texts_of}
use Rattle.tsa_tree.specs.units.Shapes.{item_shapes}
use Rattle.tsa_warn_bodies.specs.BodyCourses.{course_of}
use Rattle.tsa_warn_bodies.specs.BodyEntries.{labels_at}
use Rattle.tsa_warn_bodies.proofs.Stepping.{course}
use Rattle.tsa_warn_bodies.proofs.Telling.{told_body}
use Rattle.tsa_warn_bodies.proofs.body_rows.Teller.body.Goals as goal

pub returns-clause-told : goal.returns-clause-told
returns-clause-told c b h =
    let s = c.args.self.now.pass in
    let k = course_of c.args.course.now in
    let flow = c.in_ok-flow.flow in
    told_body (item_shapes s.ground.items.now) b k c.args.inside.now c.args.head.now h (record { head = c.args.head; flow = flow; texts = c.in_ok-texts.texts }) refl c.in_ok-flow.ensures.flow
    (c.in_ok-texts.ensures
    ∙ ap₂ (λ l m. texts_of (names_in l (labels_at (course m k.firsts) c.args.inside.now.number c.args.head.now flow)) flow.view.numbers) s.ground.laid c.in_ok-flow.ensures.known)
