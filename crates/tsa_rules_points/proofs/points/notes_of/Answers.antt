use Rattle.std.proofs.Common.{[], ap}
use Rattle.tsa_profile_points.specs.PointAnswers.{around_of}
use Rattle.tsa_rules_points.specs.declared.points.Book.{Book}
use Rattle.tsa_rules_points.specs.Notes.{notes_in}
use Rattle.tsa_rules_points.proofs.NotedPoints.{none_noted}
use Rattle.tsa_rules_points.proofs.points.notes_of.Goals as goal

pub returns-clause-notes : goal.returns-clause-notes
returns-clause-notes c =
    let a = around_of c.args.frame.around in
    let book : Book = record { roles = c.new.result; callees = c.new-2.result; kinds = c.new-3.result; marking = record { marks = c.new-4.result; numbers = c.args.numbers; room = c.new-5.result } } in
    c.in_ok-note_steps.ensures.notes [] (none_noted a c.args.frame.kind c.args.numbers (notes_in book) c.new-2.ensures.items c.new-3.ensures.items (ap (λ m. m.count) c.new-4.ensures) c.new.ensures.roles)
