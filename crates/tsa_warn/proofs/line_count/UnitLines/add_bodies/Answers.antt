use Rattle.std.proofs.Common.{◌∙◌, [], ◌∷◌, ◌++◌, suc, drop, refl, sym, ap, subst}
use Rattle.std.proofs.Math.Seq.{drop-cons}
use Rattle.std.proofs.lemmas.List.{drop_all}
use Rattle.tsa_warn_bodies.specs.Bodies.{body_by}
use Rattle.tsa_warn_bodies.specs.BodyCourses.{course_of}
use Rattle.tsa_tree.specs.units.Shapes.{item_shape, item_shapes}
use Rattle.tsa_warn.specs.OneBody.{warned_of}
use Rattle.tsa_warn.specs.WarningLines.{AreWarned}
use Rattle.tsa_warn.proofs.Progress.{all_told, one_told, outset_told}
use Rattle.tsa_warn.proofs.line_count.UnitLines.add_bodies.Goals as goal

pub each-init : goal.each-init
each-init c = record {
  done = [];
  told = outset_told c.args.teller.now.pass.ground.items.now c.args.teller.now.pass.ground.items.now refl [] refl (course_of c.args.course.now) c.requires.begun c.requires.points;
  lines = λ none. none;
}

pub each-preserved : goal.each-preserved
each-preserved c =
    let trees = c.args.teller.now.pass.ground.items.now in
    let x = c.item-item.result in
    let i = c.each.item-index in
    let h = c.each.invariant in
    let k = course_of c.each.course in
    let new = body_by k.known.here (item_shape x) in
    let at_i = drop-cons trees i x c.each-test.true ∙ ap (λ y. y ∷ drop (suc i) trees) (sym c.item-item.is) in
    record {
      done = h.done ++ new;
      told = one_told trees i x k h.done at_i h.told (course_of c.add_item.new.course) c.in_ok-add_item.ensures.behind;
      lines = λ none. c.in_ok-add_item.ensures.lines h.done (h.lines none);
    }

pub returns : goal.returns
returns c none =
    let trees = c.args.teller.now.pass.ground.items.now in
    let h = c.each.invariant in
    let end = all_told trees c.each.item-index (course_of c.each.course) h.done (drop_all c.each.item-index trees c.each-test.false) h.told in
    subst (λ bs. AreWarned c.args.starts.now (item_shapes trees) bs (warned_of c.each.self)) (sym end) (h.lines none)
