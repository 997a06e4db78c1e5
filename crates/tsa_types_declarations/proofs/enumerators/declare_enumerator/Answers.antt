use Rattle.std.proofs.Common.{◌∙◌, not, Some, rules, sym, ap}
use Rattle.tsa_tree.specs.declarations.Shapes.{enumerator_shape}
use Rattle.tsa_tree.specs.types.Enums.{next_after}
use Rattle.tsa_types_declarations.proofs.DeclaredLaws.{not_free}
use Rattle.tsa_types_declarations.proofs.EnumLaws.{own_taken, own_fails, own_holds, own_worth}
use Rattle.tsa_types_declarations.proofs.Judging.{judges_at}
use Rattle.tsa_types_declarations.proofs.enumerators.declare_enumerator.Goals as goal

pub returns-then-not-branch-clause-judged : goal.returns-then-not-branch-clause-judged
returns-then-not-branch-clause-judged c =
    judges_at _ c.at-again.result c.refused.result c.refused.ensures
    (own_taken c.args.scope.now (enumerator_shape c.args.enumerator.now) (next_after c.args.last)
    (sym (not_free _ _ c.in_ok-declare-in-Ok.ensures.fresh) ∙ ap not c.if-not-branch.true)
    ∙ ap Some (sym c.at-again.ensures))

pub returns-in-Ok-clause-judged : goal.returns-in-Ok-clause-judged
returns-in-Ok-clause-judged c =
    own_holds c.args.scope.now (enumerator_shape c.args.enumerator.now) (next_after c.args.last) c.in-Ok.value
    (sym (not_free _ _ c.in_ok-declare-in-Ok.ensures.fresh) ∙ ap not c.if-not-branch.false) (sym c.in_ok-value.ensures.worth ∙ c.in-Ok.is)

pub returns-in-Ok-clause-worth : goal.returns-in-Ok-clause-worth
returns-in-Ok-clause-worth c =
    (search rules)
    ∙ own_worth c.args.scope.now (enumerator_shape c.args.enumerator.now) (next_after c.args.last) c.in-Ok.value (sym c.in_ok-value.ensures.worth ∙ c.in-Ok.is)

pub returns-then-is_taken-clause-judged : goal.returns-then-is_taken-clause-judged
returns-then-is_taken-clause-judged c =
    judges_at _ c.at-again.result c.refused-then-is_taken.result c.refused-then-is_taken.ensures
    (own_taken c.args.scope.now (enumerator_shape c.args.enumerator.now) (next_after c.args.last) (sym c.is_taken.ensures ∙ c.if-is_taken.true) ∙ ap Some (sym c.at-again.ensures))

pub returns-clause-judged : goal.returns-clause-judged
returns-clause-judged c =
    judges_at _ c.in-Err.failure c.refused-in-Err.result c.refused-in-Err.ensures
    (own_fails c.args.scope.now (enumerator_shape c.args.enumerator.now) (next_after c.args.last) c.in-Err.failure (sym c.is_taken.ensures ∙ c.if-is_taken.false)
    (sym c.in_ok-value.ensures.worth ∙ c.in-Err.is))
