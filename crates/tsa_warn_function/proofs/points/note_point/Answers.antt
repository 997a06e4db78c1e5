use Rattle.std.proofs.lemmas.Result.{on_ok_weaker}
use Rattle.tsa_warn_function.proofs.Pathwise.{both_of_point}
use Rattle.tsa_warn_function.proofs.points.note_point.Goals as goal

pub returns : goal.returns
returns c = on_ok_weaker c.note_join.result
    (λ h u f paths is less. both_of_point u f paths c.args.point c.args.found.now.items c.note_return.new.found.items c.note_join.new.found.items
    (c.in_ok-note_return.ensures u f paths is less) (h u f paths is less))
    c.note_join.ensures
