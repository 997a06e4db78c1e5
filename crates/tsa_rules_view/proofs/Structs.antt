-- Paths are followed step by step.
use Rattle.std.proofs.Common.{◌≡◌, ◌∙◌, ℕ, suc, ◌+◌, ◌<◌, arith, List, ◌∷◌, drop, length, get_or, Option, sym, ap}
use Rattle.std.proofs.Math.Seq.{drop-cons}
use Rattle.tsa_place_model.specs.declared.path.PathStep.{PathStep}
use Rattle.tsa_place_model.specs.Calls.{Layout}
use Rattle.tsa_rules.specs.Attributes.{struct_behind, struct_along}

module _ (l : Layout) (steps seen : List PathStep) (i : ℕ) (same : seen ≡ steps) where
  pub step_next : (d : PathStep) (struct after : Option ℕ) → i < length seen → after ≡ struct_behind l (get_or seen i d) struct
      → struct_along l (drop (i + 1) steps) after ≡ struct_along l (drop i steps) struct
  step_next d struct after less there =
      let x = get_or seen i d in
      let plus : suc i ≡ i + 1 = omega arith in
      let at : drop i steps ≡ x ∷ drop (suc i) steps =
      ap (drop i) (sym same) ∙ drop-cons seen i d less ∙ ap (λ ys. x ∷ drop (suc i) ys) same
      in
      ap (struct_along l (drop (i + 1) steps)) there
      ∙ ap (λ j. struct_along l (drop j steps) (struct_behind l x struct)) (sym plus)
      ∙ sym (ap (λ ys. struct_along l ys struct) at)
