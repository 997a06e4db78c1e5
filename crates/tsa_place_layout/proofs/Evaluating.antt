-- Paths are followed step by step.
use Rattle.std.proofs.Common.{◌≡◌, ◌∙◌, ℕ, suc, ◌+◌, ◌<◌, arith, List, ◌∷◌, drop, length, get_or, Option, option_and_then, sym, ap}
use Rattle.std.proofs.Math.Seq.{drop-cons}
use Rattle.tsa_base.specs.declared.value.Value.{Value}
use Rattle.tsa_place_model.specs.declared.path.PathStep.{PathStep}
use Rattle.tsa_place_model.specs.Calls.{Layout, take_step, take_steps}
use Rattle.tsa_place_model.specs.declared.spot.Spot.{Spot}

module _ (l : Layout) (locals : ℕ → Option Value) (steps seen : List PathStep) (i : ℕ) (same : seen ≡ steps) where
  pub step_next : (d : PathStep) (spot after : Option Spot) → i < length seen → after ≡ option_and_then (take_step l locals (get_or seen i d)) spot
      → take_steps l locals (drop (i + 1) steps) after ≡ take_steps l locals (drop i steps) spot
  step_next d spot after less there =
      let x = get_or seen i d in
      let plus : suc i ≡ i + 1 = omega arith in
      let at : drop i steps ≡ x ∷ drop (suc i) steps =
      ap (drop i) (sym same) ∙ drop-cons seen i d less ∙ ap (λ ys. x ∷ drop (suc i) ys) same
      in
      ap (take_steps l locals (drop (i + 1) steps)) there
      ∙ ap (λ j. take_steps l locals (drop j steps) (option_and_then (take_step l locals x) spot)) (sym plus)
      ∙ sym (ap (λ ys. take_steps l locals ys spot) at)
