use Rattle.std.proofs.Common.{◌∙◌, ◌+◌, ◌++◌, ◌≤◌, drop, map, sym, ap, subst}
use Rattle.std.proofs.lemmas.List.{length-map}
use Rattle.tsa_tree.specs.statements.Shapes.{point_shape}
use Rattle.tsa_warn.specs.Views.{IsViewOf}
use Rattle.tsa_tool_held.specs.Held.{try_names_from}
use Rattle.tsa_tool_held.proofs.Trying.{no_more, no_name_more, one_more_name}
use Rattle.tsa_tool_held.proofs.tries.try_names.Goals as goal
use Rattle.tsa_tool_held.proofs.tries.try_names.Goals.{in-Some+in_ok-note_try, in_default}

pub each-preserved : goal.each-preserved
each-preserved c u f paths is =
    let seen = subst (IsViewOf u f paths) (sym c.view-view.ensures) is in
    let points = c.args.body.now.head.now.points.now in
    let i = c.each.number in
    elim c.match-point_at.branch [
      | in-Some+in_ok-note_try w ↦
          ap (λ v. map (λ name. name.now) v.items ++ try_names_from u f (i + 1) (map point_shape (drop (i + 1) points))) w.names-is
          ∙ one_more_name u f points i _ w.role.result _ _ _ w.in-Some.ensures (w.role.ensures.is ∙ seen.roles i) w.in_ok-note_try.ensures (c.each.invariant u f paths is)
      | in_default w ↦
          ap (λ v. map (λ name. name.now) v.items ++ try_names_from u f (i + 1) (map point_shape (drop (i + 1) points))) w.names-is
          ∙ no_name_more u f points i _ _ w.in_default.ensures (c.each.invariant u f paths is)
    ]

pub returns : goal.returns
returns c u f paths is count =
    let points = c.args.body.now.head.now.points.now in
    let i = c.each.number in
    let rows = c.rows-number-end.ensures ∙ ap (λ m. m.count) c.marks.ensures ∙ ap (λ v. v.notes.marks.count) c.view-view.ensures ∙ is.rows ∙ count ∙ length-map points point_shape in
    no_more u f points i _ _ (subst (λ n. n ≤ i) rows c.each-test.false) (c.each.invariant u f paths is)
