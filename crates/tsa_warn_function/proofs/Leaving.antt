-- Only a return and the end break the rule of returns.
use Rattle.std.proofs.Common.{◌≡◌, ◌∙◌, ◌<◌, ℕ, true, not, List, length, Some, slice_get, ap, subst}
use Rattle.tsa_place_model.specs.Ways.{Way}
use Rattle.tsa_core.specs.Programs.{Function, Program}
use Rattle.tsa_rules.specs.declared.case.Case.{Case}
use Rattle.tsa_rules.specs.declared.rule.Rule.{Rule}
use Rattle.tsa_rules.specs.declared.rule.Rule.TheVariants.{TS09}
use Rattle.tsa_rules.specs.declared.status.Status.{Status}
use Rattle.tsa_rules.specs.Cases.{exit_in, fails_in, is_leaving_in, later_in}
use Rattle.tsa_rules.specs.Fails.{fails}
use Rattle.tsa_rules.specs.Points.{points_of}
use Rattle.tsa_rules.specs.Statuses.{same_status}
use Rattle.tsa_rules.proofs.CaseFailures.{failures}
use Rattle.tsa_rules.proofs.Tests.{left_part}
use Rattle.tsa_flow_function.specs.RuleView.{RuleView}
use Rattle.tsa_flow_function.specs.Views.{case_in, IsViewOf}
use Rattle.tsa_warn_function.specs.declared.failure.RuleFailure.{RuleFailure}
use Rattle.tsa_warn_function.specs.Passes.{IsOfReturns}

-- what fails by the rules fails by the case of the path at the point
pub in_case : (u : Program) (f : Function) (paths : List Way) (v : RuleView) → IsViewOf u f paths v → (rule : Rule) (p n : ℕ) (c : Way) (s : Status) → p < length (points_of f) → slice_get paths n ≡ Some c
    → fails rule u f p c s ≡ true → fails_in rule (case_in v p n) s ≡ true
in_case u f paths v is rule p n c s within there broken = ap (λ x. fails_in rule x s) (is.cases p n c within there) ∙ (failures rule u f p c s ∙ broken)

leaves_in : (x : Case) (s : Status) → fails_in TS09 x s ≡ true → is_leaving_in x.role ≡ true
leaves_in x s broken = left_part (is_leaving_in x.role) (not (same_status (later_in x s) (exit_in x))) broken

pub leaves_there : (u : Program) (f : Function) (paths : List Way) (v : RuleView) → IsViewOf u f paths v → (p : ℕ) (x : RuleFailure) → IsOfReturns u f paths p x → is_leaving_in (case_in v p x.cap).role ≡ true
leaves_there u f paths v is p x (at, (rule, h)) =
    let s = h.breaks.0 in
    let broken = subst (λ r. fails r u f x.point h.path s ≡ true) rule h.breaks.1.1 in
    subst (λ q. is_leaving_in (case_in v q x.cap).role ≡ true) at (leaves_in (case_in v x.point x.cap) s (in_case u f paths v is TS09 x.point x.cap h.path s h.within h.is_there broken))
