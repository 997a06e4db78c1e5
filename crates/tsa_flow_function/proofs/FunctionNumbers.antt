-- The view and the control of one number are of one function.
use Rattle.std.proofs.Common.{◌≡◌, ◌∙◌, ℕ, length, false, List, Option, Some, None, is_some, refl, sym, subst, true≢false}
use Rattle.tsa_place_model.specs.Ways.{Way}
use Rattle.tsa_core.specs.Programs.{Function, Program}
use Rattle.tsa_graph.specs.InnerEdges.{AreBetween}
use Rattle.tsa_rules.specs.Points.{edges_of, points_of}
use Rattle.tsa_rules_view.specs.Paths.{paths_if}
use Rattle.tsa_rules_view.proofs.NewView.{has_body}
use Rattle.tsa_rules_view.specs.Controls.{IsControlOf, IsGraphIn}
use Rattle.tsa_graph.specs.declared.blocks.Graph.{Graph}
use Rattle.tsa_graph.specs.Graphs.{IsGraph}
use Rattle.tsa_rules_view.specs.declared.content.RuleView.{RuleView}
use Rattle.tsa_rules_view.specs.Views.{IsViewBy, IsViewIn, IsViewOf}
use Rattle.tsa_flow_function.specs.declared.function.FunctionFlow.{FunctionFlow}
use Rattle.tsa_flow_function.specs.Flows.{IsFlowOf}
use Rattle.tsa_flow_function.specs.Numbers.{IsFlowBy, IsFlowIn}
use Rattle.tsa_base.proofs.Options.{none_some, some_none, some_same as same}

pub record Found (u : Program) (o : Option Function) (view : RuleView) (graph : Graph) : Type 0 where
  pub function : Function
  pub paths : List Way
  pub is_there : o ≡ Some function
  pub has_paths : paths_if u function ≡ Some paths
  pub viewed : IsViewOf u function paths view
  pub control : IsControlOf function graph

module _ (u : Program) (view : RuleView) (graph : Graph) where
  found_by : (f : Function) (o : Option (List Way)) → paths_if u f ≡ o → IsViewBy u f o (Some view) → IsControlOf f graph → Found u (Some f) view graph
  found_by f None is v g = some_none view v
  found_by f (Some paths) is v g = record { function = f; paths = paths; is_there = refl; has_paths = is; viewed = subst (IsViewOf u f paths) (sym (same v.1.0)) v.1.1; control = g }

  pub found : (o : Option Function) → IsViewIn u o (Some view) → IsGraphIn o (Some graph) → Found u o view graph
  found None v g = some_none view v
  found (Some f) v g = found_by f (paths_if u f) refl v g

-- the edges of the function, between so many points
module _ (u : Program) (o : Option Function) (view : RuleView) (graph : Graph) (x : Found u o view graph) (points : ℕ) (counted : points ≡ length (points_of x.function)) where
  pub is_graph : IsGraph points (edges_of x.function) graph
  is_graph = subst (λ m. IsGraph m (edges_of x.function) graph) (sym counted) x.control.graph

  pub is_between : AreBetween points (edges_of x.function)
  is_between = subst (λ m. AreBetween m (edges_of x.function)) (sym counted) x.control.between

-- where there is no view there is nothing to tell, and where there is one there is control
none_by : (u : Program) (f : Function) (o : Option (List Way)) → IsViewBy u f o None → IsFlowBy u f o None
none_by u f None v = refl
none_by u f (Some paths) v = none_some v.0 v.1.0

pub no_view : (u : Program) (o : Option Function) → IsViewIn u o None → IsFlowIn u o None
no_view u None v = refl
no_view u (Some f) v = none_by u f (paths_if u f) v

no_control_by : (u : Program) (f : Function) (view : RuleView) (o : Option (List Way)) → paths_if u f ≡ o → IsViewBy u f o (Some view) → is_some f.body ≡ false → ⊥
no_control_by u f view None is v none = some_none view v
no_control_by u f view (Some paths) is v none = true≢false (sym (has_body u f paths is).0 ∙ none)

pub no_control : (u : Program) (o : Option Function) (view : RuleView) → IsViewIn u o (Some view) → IsGraphIn o None → ⊥
no_control u None view v g = some_none view v
no_control u (Some f) view v g = no_control_by u f view (paths_if u f) refl v g

-- what is worked out of both is the function's
pub flow_there : (u : Program) (o : Option Function) (view : RuleView) (graph : Graph) (x : Found u o view graph) (w : FunctionFlow) → IsFlowOf u x.function x.paths w → IsFlowIn u o (Some w)
flow_there u o view graph x w is =
    subst (λ p. IsFlowIn u p (Some w)) (sym x.is_there) (subst (λ p. IsFlowBy u x.function p (Some w)) (sym x.has_paths) (w, (refl, is)))
