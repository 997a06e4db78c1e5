use Rattle.std.proofs.Common.{◌∙◌, option_map, sym, ap}
use Rattle.std.proofs.lemmas.Result.{on_ok_weaker}
use Rattle.tsa_tree.specs.expressions.Shapes.{shape}
use Rattle.tsa_place_model.specs.LockPaths.{stable_in}
use Rattle.tsa_rules_points.specs.Visits.{around_at, known_at}
use Rattle.tsa_profile_accesses.specs.Arguments.{arguments_of}
use Rattle.tsa_rules_points.proofs.Uses.{all_attributes}
use Rattle.tsa_rules_points.proofs.marking.Marking.note_call.Goals as goal

pub returns-clause-row : goal.returns-clause-row
returns-clause-row c =
    let e = shape c.in-Some.expr.now in
    let given = c.deref.ensures.value ∙ c.in_ok-ways.ensures ∙ ap (λ b. arguments_of (stable_in b.sight.stable.now) b.sight.scope.now e) c.body.ensures in
    on_ok_weaker c.note_attributes.result
    (all_attributes (around_at c.args.visit) (known_at c.args.visit) c.args.self.now.numbers c.args.self.now.marks c.note_attributes.new.self e c.deref.result.now c.locks-locks.result.now
    (sym c.calling.ensures ∙ ap (option_map (λ x. shape x.now)) c.in-Some.is) given c.locks-locks.ensures)
    c.note_attributes.ensures.row
