use Rattle.std.proofs.Common.{subst}
use Rattle.tsa_warn_function.specs.Adding.{Adds}
use Rattle.tsa_warn_function.specs.Passes.{IsOfMarks}
use Rattle.tsa_warn_function.proofs.AllPasses.{places, whole}
use Rattle.tsa_warn_function.proofs.failures.failures_of.Goals as goal

pub returns : goal.returns
returns c u f paths is =
    let view = c.args.flow.now.view in
    let marked = subst (λ xs. Adds (IsOfMarks u f paths (places view.notes.marks)) xs c.note_marks.new.found.items) c.new-found.ensures.items (c.in_ok-note_marks.ensures u f paths is) in
    whole u f paths view is.view c.note_marks.new.found.items c.note_points.new.found.items marked (c.in_ok-note_points.ensures u f paths is)
