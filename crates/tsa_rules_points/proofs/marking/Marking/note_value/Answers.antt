use Rattle.std.proofs.Common.{◌∙◌, ◌++◌, option_map, sym, ap, ap₂}
use Rattle.std.proofs.lemmas.Result.{on_ok_weaker}
use Rattle.tsa_tree.specs.expressions.Shapes.{shape}
use Rattle.tsa_place_model.specs.LockPaths.{stable_in}
use Rattle.tsa_rules_points.specs.Visits.{around_at, known_at}
use Rattle.tsa_profile_guards.specs.Accesses.{reads}
use Rattle.tsa_rules_points.proofs.Uses.{all_reads}
use Rattle.tsa_rules_points.proofs.marking.Marking.note_value.Goals as goal

pub returns-clause-row : goal.returns-clause-row
returns-clause-row c =
    let e = shape c.in-Some.expr.now in
    let read =
    c.accesses.ensures ∙ c.in_ok-_failure.ensures.cells
    ∙ ap₂ (λ xs b. xs ++ reads b.layout.now (stable_in b.sight.stable.now) b.sight.scope.now e) c.clear.ensures c.body.ensures
    in
    on_ok_weaker c.note_right.result
    (all_reads (around_at c.args.visit) (known_at c.args.visit) c.args.self.now.numbers c.args.self.now.marks c.note_right.new.self e c.accesses.result.now
    (sym c.value_at.ensures ∙ ap (option_map (λ x. shape x.now)) c.in-Some.is) read)
    c.note_right.ensures.row
