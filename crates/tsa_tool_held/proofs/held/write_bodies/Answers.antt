use Rattle.std.proofs.Common.{◌∙◌, ◌≤◌, arith, [], ◌∷◌, ◌++◌, suc, drop, refl, sym, ap, subst}
use Rattle.std.proofs.Math.Seq.{drop-cons}
use Rattle.std.proofs.lemmas.List.{drop_all}
use Rattle.std.specs.Io.KnownBytes.{Appends}
use Rattle.tsa_warn.specs.Bodies.{Tells, bodies_from, body_by}
use Rattle.tsa_warn.specs.BodyCourses.{course_of}
use Rattle.tsa_tree.specs.units.Shapes.{item_shape, item_shapes}
use Rattle.tsa_tool_held.specs.Held.{IsBodyHeld}
use Rattle.tsa_tool_held.specs.Pieces.{Pieces}
use Rattle.tsa_tool_held.proofs.Fronts.{any_error, appends_more, appends_nothing}
use Rattle.tsa_tool_held.proofs.Parts.{front_of_first, front_of_pieces}
use Rattle.tsa_tool_held.proofs.Pieces.{no_piece_added, piece_added}
use Rattle.tsa_warn.proofs.Progress.{all_told, at_body, later, no_body, one_told, outset_told, the_body}
use Rattle.tsa_tool_held.proofs.HeldOnce.{body_held_once}
use Rattle.tsa_tool_held.proofs.held.write_bodies.Goals as goal
use Rattle.tsa_tool_held.proofs.held.write_bodies.Goals.{in-Some+in_ok-write_body, in_default}

pub each-init : goal.each-init
each-init g c = record {
  later = omega arith;
  done = [];
  told = outset_told c.args.teller.now.pass.ground.items.now c.args.teller.now.pass.ground.items.now refl [] refl (course_of c.args.course.now) c.requires.begun c.requires.points;
  lines = [];
  held = refl;
  written = appends_nothing (g.O.Sink.taken c.args.out.now);
}

pub returns-in_err-body-clause-front : goal.returns-in_err-body-clause-front
returns-in_err-body-clause-front g c = any_error c.from_residual.result _ (λ lines held.
    let trees = c.args.teller.now.pass.ground.items.now in
    let items = item_shapes trees in
    let h = c.each.invariant in
    let IsPiece = IsBodyHeld c.args.desk.starts.now items in
    let taken = g.O.Sink.taken c.args.out.now in
    let each = g.O.Sink.taken c.each.out in
    let there = held in
    front_of_first IsPiece (body_held_once c.args.desk.starts.now items) taken each each h.done (bodies_from (course_of c.each.course).known.here (item_shapes (drop c.each.item-index trees))) h.lines lines
    h.held h.written (subst (λ bs. Pieces IsPiece bs lines) h.told.whole there))

pub returns-in_err-write_body-clause-front : goal.returns-in_err-write_body-clause-front
returns-in_err-write_body-clause-front g c = any_error c.from_residual-in_err-write_body.result _ (λ lines held.
    let trees = c.args.teller.now.pass.ground.items.now in
    let items = item_shapes trees in
    let x = c.item-item.result in
    let i = c.each.item-index in
    let h = c.each.invariant in
    let k = course_of c.each.course in
    let new = body_by k.known.here (item_shape x) in
    let at_i = drop-cons trees i x c.each-test.true ∙ ap (λ y. y ∷ drop (suc i) trees) (sym c.item-item.is) in
    let IsPiece = IsBodyHeld c.args.desk.starts.now items in
    let found = the_body items new c.in-Some.body (subst (Tells items new) c.in-Some.is c.in_ok-body.ensures.told) in
    let there = held in
    front_of_pieces IsPiece (body_held_once c.args.desk.starts.now items) (g.O.Sink.taken c.args.out.now) (g.O.Sink.taken c.each.out) (g.O.Sink.taken c.write_body.new.out) h.done found.0
    (later trees i x k h.done at_i h.told) h.lines lines h.held h.written
    (c.in_err-write_body.ensures.front items found.0 found.1.1)
    (subst (λ bs. Pieces IsPiece bs lines) (at_body trees i x k h.done at_i h.told found.0 found.1.0) there))

pub each-preserved : goal.each-preserved
each-preserved g c =
    let trees = c.args.teller.now.pass.ground.items.now in
    let items = item_shapes trees in
    let x = c.item-item.result in
    let i = c.each.item-index in
    let h = c.each.invariant in
    let k = course_of c.each.course in
    let new = body_by k.known.here (item_shape x) in
    let at_i = drop-cons trees i x c.each-test.true ∙ ap (λ y. y ∷ drop (suc i) trees) (sym c.item-item.is) in
    let taken = g.O.Sink.taken c.args.out.now in
    elim c.match-branch-2.branch [
      | in-Some+in_ok-write_body w ↦
          let found = the_body items new w.in-Some.body (subst (Tells items new) w.in-Some.is c.in_ok-body.ensures.told) in
          let told = w.in_ok-write_body.ensures.all items found.0 found.1.1 in
          record {
            later = subst (λ o. g.O.Sink.faults c.args.out.now ≤ g.O.Sink.faults o) (sym w.out-is) (omega (arith, h.later, w.write_body.ensures.later));
            done = h.done ++ new;
            told = one_told trees i x k h.done at_i h.told (course_of c.item.new.course) c.in_ok-body.ensures.behind;
            lines = h.lines ++ told.0;
            held = piece_added (IsBodyHeld c.args.desk.starts.now items) h.done new found.0 h.lines told.0 found.1.0 h.held told.1.0;
            written = subst (λ o. Appends taken (g.O.Sink.taken o) (h.lines ++ told.0)) (sym w.out-is)
                (appends_more taken (g.O.Sink.taken c.each.out) (g.O.Sink.taken w.write_body.new.out) h.lines told.0 h.written told.1.1);
          }
      | in_default w ↦ record {
        later = subst (λ o. g.O.Sink.faults c.args.out.now ≤ g.O.Sink.faults o) (sym w.out-is) h.later;
        done = h.done ++ new;
        told = one_told trees i x k h.done at_i h.told (course_of c.item.new.course) c.in_ok-body.ensures.behind;
        lines = h.lines;
        held = no_piece_added (IsBodyHeld c.args.desk.starts.now items) h.done new h.lines (no_body items new (subst (Tells items new) w.in_default.is c.in_ok-body.ensures.told)) h.held;
        written = subst (λ o. Appends taken (g.O.Sink.taken o) h.lines) (sym w.out-is) h.written;
      }
    ]

pub returns-clause-all : goal.returns-clause-all
returns-clause-all g c =
    let trees = c.args.teller.now.pass.ground.items.now in
    let h = c.each.invariant in
    let end = all_told trees c.each.item-index (course_of c.each.course) h.done (drop_all c.each.item-index trees c.each-test.false) h.told in
    let held = subst (λ bs. Pieces (IsBodyHeld c.args.desk.starts.now (item_shapes trees)) bs h.lines) (sym end) h.held in (
      h.lines,
      (
        held,
        h.written,
      ),
    )
