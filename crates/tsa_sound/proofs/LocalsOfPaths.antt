-- Where a path leads is told by the locals that it mentions.
use Rattle.std.proofs.Common.{◌≡◌, ◌∙◌, ℕ, Bool, true, false, ◌||◌, List, [], ◌∷◌, Option, Some, None, option_map, option_and_then}
use Rattle.std.proofs.Common.{if◌then◌else◌, refl, ap, eq-eqb}
use Rattle.std.specs.List.{list_any}
use Rattle.tsa_base.specs.declared.value.Value.{Value}
use Rattle.tsa_base.proofs.Truths.{or_right}
use Rattle.tsa_place_model.specs.declared.spot.Spot.{Spot}
use Rattle.tsa_place_model.specs.declared.spot.Spot.TheVariants.{Place, Holds}
use Rattle.tsa_place_model.specs.Ways.{Way}
use Rattle.tsa_place_model.specs.declared.path.PathStep.{PathStep}
use Rattle.tsa_place_model.specs.declared.path.PathStep.TheVariants.{Field, Constant, Variable, Follow}
use Rattle.tsa_place_model.specs.declared.path.Root.{Root}
use Rattle.tsa_place_model.specs.declared.path.Root.TheVariants.{Global, Local, Owner}
use Rattle.tsa_place_model.specs.Calls.{Layout, element_place, evaluated, index_in, place_in, take_root, take_step, take_steps}
use Rattle.tsa_rules.specs.Points.{is_index, is_rooted_at, mentions}

pub or_left : (a b : Bool) → a ≡ true → (a || b) ≡ true
or_left true b e = refl
or_left false b e = cc

module _ (l : Layout) (f g : ℕ → Option Value) where
  step_alike : (step : PathStep) (spot : Spot) → ((n : ℕ) → is_index n step ≡ true → f n ≡ g n) → take_step l f step spot ≡ take_step l g step spot
  step_alike (Variable n) (Place p) same =
      ap (λ o. option_map Place (option_and_then (element_place l p) (option_and_then index_in o))) (same n (eq-eqb n n refl))
  step_alike (Field k) (Place p) same = refl
  step_alike (Constant k) (Place p) same = refl
  step_alike Follow (Place p) same = refl
  step_alike (Variable n) (Holds v) same = refl
  step_alike (Field k) (Holds v) same = refl
  step_alike (Constant k) (Holds v) same = refl
  step_alike Follow (Holds v) same = refl

  spot_alike : (step : PathStep) (o : Option Spot) → ((n : ℕ) → is_index n step ≡ true → f n ≡ g n)
      → option_and_then (take_step l f step) o ≡ option_and_then (take_step l g step) o
  spot_alike step None same = refl
  spot_alike step (Some spot) same = step_alike step spot same

  steps_alike : (steps : List PathStep) (o : Option Spot) → ((n : ℕ) → list_any (is_index n) steps ≡ true → f n ≡ g n) → take_steps l f steps o
      ≡ take_steps l g steps o
  steps_alike [] o same = refl
  steps_alike (step ∷ rest) o same =
      steps_alike rest (option_and_then (take_step l f step) o) (λ n e. same n (or_right (is_index n step) (list_any (is_index n) rest) e))
      ∙ ap (take_steps l g rest) (spot_alike step o (λ n e. same n (or_left (is_index n step) (list_any (is_index n) rest) e)))

  root_alike : (root : Root) → ((n : ℕ) → is_rooted_at n root ≡ true → f n ≡ g n) → take_root l f None root ≡ take_root l g None root
  root_alike (Local n) same = ap (option_map Holds) (same n (eq-eqb n n refl))
  root_alike (Global n) same = refl
  root_alike Owner same = refl

  rooted : (b any : Bool) → b ≡ true → (if b then true else any) ≡ true
  rooted true any e = refl
  rooted false any e = cc

  indexed : (b any : Bool) → any ≡ true → (if b then true else any) ≡ true
  indexed true any e = refl
  indexed false any e = e

  -- where the locals that it mentions are the same, it leads to the same place
  pub leads_alike : (w : Way) → ((n : ℕ) → mentions n w ≡ true → f n ≡ g n) → evaluated l f None w ≡ evaluated l g None w
  leads_alike w same =
      ap (option_and_then place_in)
      (steps_alike w.steps (take_root l f None w.root) (λ n e. same n (indexed (is_rooted_at n w.root) (list_any (is_index n) w.steps) e))
      ∙ ap (take_steps l g w.steps) (root_alike w.root (λ n e. same n (rooted (is_rooted_at n w.root) (list_any (is_index n) w.steps) e))))
