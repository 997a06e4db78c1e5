use Rattle.std.proofs.Common.{◌≡◌, ◌∙◌, ◌++◌, ◌∷◌, [], sym, ap, ap₂, subst}
use Rattle.std.proofs.lemmas.Result.{on_ok_weaker}
use Rattle.tsa_tree.specs.statements.Shapes.{action_shape}
use Rattle.tsa_core.specs.Bodies.{knows}
use Rattle.tsa_profile_points.specs.PointAnswers.{around_of}
use Rattle.tsa_profile_points.specs.Ways.{called_at}
use Rattle.tsa_rules_roles.specs.ProgramDuties.{Grows}
use Rattle.tsa_rules_roles.specs.Roles.{duty_with}
use Rattle.tsa_rules_table.specs.Rows.{rows_in}
use Rattle.tsa_rules_points.specs.Marking.{AddsRow}
use Rattle.tsa_rules_points.specs.Notes.{notes_in}
use Rattle.tsa_rules_points.specs.Points.{begins_a_try}
use Rattle.tsa_rules_points.specs.Visits.{around_at, known_at}
use Rattle.tsa_rules_points.proofs.NotedPoints.{one_more_row, point_is_noted}
use Rattle.tsa_rules_points.proofs.points.Frame.note_point.Goals as goal

pub returns-clause-notes : goal.returns-clause-notes
returns-clause-notes c =
    let v = c.new-visit.result in
    let a = around_of c.args.self.around in
    let deed = action_shape c.args.action.now in
    let k = knows c.args.scope.now deed in
    let paths = c.args.book.now.marking.numbers in
    let around_is : around_at v ≡ a = ap (λ s. around_of s.around) c.new-visit.ensures.spot in
    let known_is : known_at v ≡ k = ap₂ (λ s x. knows s.scope.now (action_shape x.now)) c.new-visit.ensures.spot c.new-visit.ensures.action in
    let added = subst (λ x. AddsRow x paths k c.args.book.now.marking.marks c.note.new.self.marks) around_is
    (subst (λ x. AddsRow (around_at v) paths x c.args.book.now.marking.marks c.note.new.self.marks) known_is c.in_ok-note.ensures.row)
    in
    on_ok_weaker c.note_kind.result
    (λ declared qs span noted.
    point_is_noted a c.args.self.kind paths qs c.args.scope.now deed span (notes_in c.args.book.now) (notes_in (record { roles = c.push.new.self; callees = c.push-2.new.self; kinds = c.note_kind.new.kinds; marking = c.note.new.self }))
    c.duty_at-duty.result added (c.in_ok-push-2.ensures.items ∙ ap (λ x. c.args.book.now.callees.items ++ x ∷ []) (v.called ∙ ap called_at known_is)) declared c.duty_at-duty.ensures
    (subst (λ b. Grows c.duty_at-duty.result b c.args.book.now.roles c.push.new.self) (c.begins_a_try.ensures ∙ ap₂ begins_a_try around_is known_is) c.in_ok-push.ensures.grown) noted)
    c.note_kind.ensures

pub note-requires : goal.note-requires
note-requires c =
    let old = c.args.book.now.roles in
    record {
      next =
          c.points.ensures
          ∙ one_more_row old c.push.new.self (duty_with c.duty_at-duty.result c.begins_a_try.result) (rows_in c.args.book.now.marking.marks) c.requires.rows c.in_ok-push.ensures.put;
    }

pub returns-clause-rows : goal.returns-clause-rows
returns-clause-rows c =
    let old = c.args.book.now.roles in
    on_ok_weaker c.note_kind.result
    (λ declared.
    c.in_ok-note.ensures.row.count
    ∙ sym (one_more_row old c.push.new.self (duty_with c.duty_at-duty.result c.begins_a_try.result) (rows_in c.args.book.now.marking.marks) c.requires.rows c.in_ok-push.ensures.put))
    c.note_kind.ensures
