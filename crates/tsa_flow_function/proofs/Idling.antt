-- Points do the same to all paths that nothing claims or tries.
use Rattle.std.proofs.Common.{◌≡◌, ◌∙◌, ℕ, Option, None, refl, sym, ap}
use Rattle.tsa_core.specs.Control.{Outcome}
use Rattle.tsa_rules.specs.Cases.{after_claim_in, after_role, effect_in}
use Rattle.tsa_rules.specs.declared.case.Case.{Case}
use Rattle.tsa_rules.specs.declared.case.Role.{Role}
use Rattle.tsa_rules.specs.declared.mark.Claim.{Claim}
use Rattle.tsa_rules.specs.declared.status.Status.{Status}
use Rattle.tsa_rules_view.specs.declared.content.RuleView.{RuleView}
use Rattle.tsa_flow_function.specs.IdlePaths.{IsIdle}

-- a point that doesn't claim the path changes its status by its role alone
by_role : (x : Case) (r : Role) (k : Option Claim) (a : Option Claim) → x.role ≡ r → x.kept ≡ k → x.mark.claim ≡ a → (o : Outcome) (s : Status)
    → effect_in x o s ≡ after_role r k o (after_claim_in x o a s)
by_role x r k a role kept claim o s =
    ap (λ q. after_role q x.kept o (after_claim_in x o x.mark.claim s)) role
    ∙ (ap (λ q. after_role r q o (after_claim_in x o x.mark.claim s)) kept ∙ ap (λ q. after_role r k o (after_claim_in x o q s)) claim)

module _ (view : RuleView) (c d : ℕ → Case) (first : IsIdle view c) (second : IsIdle view d) where
  role_same : (p : ℕ) → (c p).role ≡ (d p).role
  role_same p = first.roles p ∙ sym (second.roles p)

  pub effect_same : (p : ℕ) (o : Outcome) (s : Status) → effect_in (c p) o s ≡ effect_in (d p) o s
  effect_same p o s =
      by_role (c p) (d p).role None None (role_same p) (first.untried p) (first.unclaimed p) o s
      ∙ sym (by_role (d p) (d p).role None None refl (second.untried p) (second.unclaimed p) o s)
