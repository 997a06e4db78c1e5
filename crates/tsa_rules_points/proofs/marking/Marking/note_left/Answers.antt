use Rattle.std.proofs.Common.{◌∙◌, ◌++◌, ap, ap₂}
use Rattle.std.proofs.lemmas.Result.{on_ok_weaker}
use Rattle.tsa_tree.specs.expressions.Shapes.{shape}
use Rattle.tsa_tree.specs.statements.Shapes.{action_shape}
use Rattle.tsa_place_model.specs.LockPaths.{stable_in}
use Rattle.tsa_rules_points.specs.Visits.{around_at, known_at}
use Rattle.tsa_profile_guards.specs.Accesses.{written}
use Rattle.tsa_rules_points.proofs.Uses.{all_left}
use Rattle.tsa_rules_points.proofs.marking.Marking.note_left.Goals as goal

pub returns-clause-row : goal.returns-clause-row
returns-clause-row c =
    let left = shape c.in-Assign.left.now in
    let wrote =
    c.accesses.ensures ∙ c.in_ok-_failure.ensures.cells
    ∙ ap₂ (λ xs b. xs ++ written b.layout.now (stable_in b.sight.stable.now) b.sight.scope.now c.in-Assign.op left) c.clear.ensures c.body.ensures
    in
    on_ok_weaker c.note_left.result
    (all_left (around_at c.args.visit) (known_at c.args.visit) c.args.self.now.numbers c.args.self.now.marks c.note_left.new.self left (shape c.in-Assign.right.now) c.in-Assign.op c.accesses.result.now
    (ap action_shape c.in-Assign.is) wrote)
    c.note_left.ensures.row
