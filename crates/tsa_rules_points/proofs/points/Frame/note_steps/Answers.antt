use Rattle.std.proofs.Common.{◌≡◌, ◌∙◌, ◌∷◌, ◌++◌, ◌+◌, suc, arith, drop, map, sym, ap, ap₂, subst}
use Rattle.std.proofs.Math.Seq.{drop-cons}
use Rattle.std.proofs.lemmas.List.{drop_all}
use Rattle.tsa_core_points.specs.Steps.{step_shape}
use Rattle.tsa_core_points.specs.Walks.{points_along, points_at, walk_behind}
use Rattle.tsa_profile_points.specs.PointAnswers.{around_of}
use Rattle.tsa_rules_points.specs.Notes.{AreNotes, notes_in}
use Rattle.tsa_rules_points.proofs.Along.{Leaves, ends, goes_on}
use Rattle.tsa_rules_points.proofs.points.Frame.note_steps.Goals as goal

pub each-preserved : goal.each-preserved
each-preserved c =
    let a = around_of c.args.self.around in
    let kind = c.args.self.kind in
    let paths = c.args.book.now.marking.numbers in
    let steps = c.args.steps.now in
    let i = c.each.step-index in
    let x = c.step-item.result in
    let left = drop (i + 1) steps in
    let plus_one : suc i ≡ i + 1 = omega arith in
    let at_i = drop-cons steps i x c.each-test.true ∙ ap₂ (λ y n. y ∷ drop n steps) (sym c.step-item.is) plus_one in
    let passed = c.in_ok-pass.ensures in
    let here = points_at c.each.walk.here (step_shape x) in
    let rest = points_along c.pass.new.self (map step_shape left) in
    let next : points_along c.each.walk (map step_shape (drop i steps)) ≡ here ++ rest =
    ap (λ ss. points_along c.each.walk (map step_shape ss)) at_i ∙ ap (λ w. here ++ points_along w (map step_shape left)) (sym passed)
    in
    record {
      notes =
          goes_on a kind paths (notes_in c.args.book.now) (notes_in c.each.book) (notes_in c.note_step.new.book) (points_along c.args.walk.now (map step_shape steps)) here rest
          (subst (Leaves a kind paths (notes_in c.args.book.now) (notes_in c.each.book) (points_along c.args.walk.now (map step_shape steps))) next c.each.invariant.notes)
          (λ rs noted.
          subst (λ ps. AreNotes a kind ps (rs ++ here) (notes_in c.note_step.new.book)) c.each.invariant.numbers
          (subst (λ s. AreNotes a kind c.each.book.marking.numbers (rs ++ points_at s (step_shape x)) (notes_in c.note_step.new.book)) c.scope.ensures
          (c.in_ok-note_step.ensures.notes rs (subst (λ ps. AreNotes a kind ps rs (notes_in c.each.book)) (sym c.each.invariant.numbers) noted))));
      rows = c.in_ok-note_step.ensures.rows;
      numbers = c.in_ok-note_step.ensures.numbers ∙ c.each.invariant.numbers;
      behind =
          ap (λ w. walk_behind w (map step_shape left)) passed
          ∙ sym (ap (λ ss. walk_behind c.each.walk (map step_shape ss)) at_i)
          ∙ c.each.invariant.behind;
    }

pub returns-clause-notes : goal.returns-clause-notes
returns-clause-notes c =
    let a = around_of c.args.self.around in
    let kind = c.args.self.kind in
    let paths = c.args.book.now.marking.numbers in
    let steps = c.args.steps.now in
    let i = c.each.step-index in
    ends a kind paths (notes_in c.args.book.now) (notes_in c.each.book) (points_along c.args.walk.now (map step_shape steps))
    (subst (Leaves a kind paths (notes_in c.args.book.now) (notes_in c.each.book) (points_along c.args.walk.now (map step_shape steps)))
    (ap (λ ss. points_along c.each.walk (map step_shape ss)) (drop_all i steps c.each-test.false)) c.each.invariant.notes)
