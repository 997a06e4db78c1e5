-- The first points of blocks, and all others.
use Rattle.std.proofs.Common.{◌≡◌, ◌∙◌, ◌<◌, ◌↔◌, ℕ, nat_eq, true, false, List, length, Some, None, slice_get, sym, ap, arith}
use Rattle.std.proofs.lemmas.Bool.Decides.{nat_tests}
use Rattle.tsa_place_model.specs.Ways.{Way}
use Rattle.tsa_core.specs.Programs.{Function, Program}
use Rattle.tsa_graph.specs.declared.sequence.Place.{Place}
use Rattle.tsa_graph.specs.Rows.{place}
use Rattle.tsa_rules.specs.Cases.{entry_in}
use Rattle.tsa_rules.specs.Points.{edges_of, points_of}
use Rattle.tsa_rules.specs.Walks.{Agree, course_of}
use Rattle.tsa_flow_solver.specs.Courses.{course_by}
use Rattle.tsa_flow_solver.proofs.Meeting.{agrees_behind, no_point}
use Rattle.tsa_rules_view.specs.Views.{case_in, lock_in}
use Rattle.tsa_flow_function.specs.declared.function.FunctionFlow.{FunctionFlow}
use Rattle.tsa_flow_function.specs.Flows.{IsFlowOf}
use Rattle.tsa_flow_function.proofs.AlikeCourses.{same_agreement}
use Rattle.tsa_flow_function.proofs.Flowing.{alike_there}
use Rattle.tsa_base.proofs.Options.{some_same as same_some}

none_some : {A : Type 0} (x : A) → None ≡ Some x → ⊥
none_some x e = cc

is_zero : (n : ℕ) → nat_eq n 0 ≡ true → n ≡ 0
is_zero n e = grind (arith, nat_tests)

zero_is : (n : ℕ) → n ≡ 0 → nat_eq n 0 ≡ true
zero_is n e = grind (arith, nat_tests)

-- a point begins a block where its place there is 0
pub first_is : (places : List Place) (p : ℕ) (at : Place) → Some at ≡ slice_get places p → (nat_eq at.index 0 ≡ true) ↔ ((block : ℕ) × (slice_get places p ≡ Some (place block 0)))
first_is places p at here = (
  λ t. (at.block, sym here ∙ ap (λ i. Some (place at.block i)) (is_zero at.index t)),
  λ h. zero_is at.index (ap (λ (x : Place). x.index) (same_some (here ∙ h.1))),
)

pub none_is : (places : List Place) (p : ℕ) → None ≡ slice_get places p → (false ≡ true) ↔ ((block : ℕ) × (slice_get places p ≡ Some (place block 0)))
none_is places p here = (λ e. absurd cc, λ h. absurd (none_some (place h.0 0) (here ∙ h.1)))

-- all edges into any other point agree
module _ (u : Program) (f : Function) (paths : List Way) (w : FunctionFlow) (is : IsFlowOf u f paths w) (number : ℕ) (c : Way) (there : slice_get paths number ≡ Some c) (p : ℕ) where
  pub agree_behind : (at : Place) → Some at ≡ slice_get w.blocks.places.items p → nat_eq at.index 0 ≡ false → Agree (course_of u f c) p
  agree_behind at here other =
      let some : 0 < at.index = grind (arith, nat_tests) in
      (same_agreement (course_by (edges_of f) (entry_in (lock_in w.view number)) (λ q. case_in w.view q number)) (course_of u f c) (alike_there u f paths w is number c there) p).0
      (agrees_behind (length (points_of f)) (edges_of f) (entry_in (lock_in w.view number)) (λ q. case_in w.view q number) w.blocks is.blocks p at (sym here) some)

  pub never_none : p < length (points_of f) → None ≡ slice_get w.blocks.places.items p → ⊥
  never_none less here = no_point (length (points_of f)) (edges_of f) (entry_in (lock_in w.view number)) (λ q. case_in w.view q number) w.blocks is.blocks p less (sym here)
