-- What is told of the function of a number: its view, and what walks bring there.
use Rattle.std.proofs.Common.{◌≡◌, ◌∙◌, List, Option, Some, None, option_map, refl, sym, subst}
use Rattle.tsa_place_model.specs.Ways.{Way}
use Rattle.tsa_core.specs.Programs.{Function, Program}
use Rattle.tsa_rules_bodies.specs.Paths.{paths_if}
use Rattle.tsa_flow_function.specs.Views.{IsViewBy, IsViewIn}
use Rattle.tsa_flow_function.specs.Flows.{IsFlowOf}
use Rattle.tsa_flow_function.specs.Numbers.{IsFlowBy, IsFlowIn}
use Rattle.tsa_flow_function.specs.declared.function.FunctionFlow.{FunctionFlow}
use Rattle.tsa_base.proofs.Options.{none_some, some_same as same}

module _ (u : Program) where
  view_by : (f : Function) (o : Option (List Way)) (flow : Option FunctionFlow) → IsFlowBy u f o flow → IsViewBy u f o (option_map (λ w. w.view) flow)
  view_by f None flow is = subst (λ x. IsViewBy u f None (option_map (λ w. w.view) x)) (sym is) refl
  view_by f (Some paths) flow (w, (is, of)) = subst (λ x. IsViewBy u f (Some paths) (option_map (λ w. w.view) x)) (sym is) (w.view, (refl, of.view))

  -- the view is the function's
  pub view_in : (o : Option Function) (flow : Option FunctionFlow) → IsFlowIn u o flow → IsViewIn u o (option_map (λ w. w.view) flow)
  view_in None flow is = subst (λ x. IsViewIn u None (option_map (λ w. w.view) x)) (sym is) refl
  view_in (Some f) flow is = view_by f (paths_if u f) flow is

  module _ (f : Function) (paths : List Way) (has : paths_if u f ≡ Some paths) (o : Option Function) (there : o ≡ Some f) (flow : Option FunctionFlow) (told : IsFlowIn u o flow) where
    by_paths : (w : FunctionFlow) × ((flow ≡ Some w) × IsFlowOf u f paths w)
    by_paths = subst (λ x. IsFlowBy u f x flow) has (subst (λ x. IsFlowIn u x flow) there told)

    -- what is told of a function with paths is what walks bring there, and something is told of it
    pub is_flow : (w : FunctionFlow) → flow ≡ Some w → IsFlowOf u f paths w
    is_flow w is = subst (IsFlowOf u f paths) (same (sym by_paths.1.0 ∙ is)) by_paths.1.1

    pub never_none : flow ≡ None → ⊥
    never_none none = none_some by_paths.0 (sym none ∙ by_paths.1.0)
