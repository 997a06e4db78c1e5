-- Room behind what is told: nothing more is told there. And one number that is told: all others stay.
use Rattle.std.proofs.Common.{◌≡◌, ◌<◌, ℕ, zero, suc, List, [], ◌∷◌, ◌++◌, length, slice_set, Option, Some, None, refl, arith, ap}
use Rattle.tsa_flow_function.specs.declared.function.FunctionFlow.{FunctionFlow}
use Rattle.tsa_flow.specs.Units.{told_at}

pub room : (flows : List (Option FunctionFlow)) (n : ℕ) → told_at (flows ++ None ∷ []) n ≡ told_at flows n
room [] zero = refl
room [] (suc n) = refl
room (flow ∷ flows) zero = refl
room (flow ∷ flows) (suc n) = room flows n

pub none_at : (n : ℕ) → told_at [] n ≡ None
none_at zero = refl
none_at (suc n) = refl

module _ (w : FunctionFlow) where
  pub put_there : (flows : List (Option FunctionFlow)) (n : ℕ) → n < length flows → told_at (slice_set flows n (Some w)) n ≡ Some w
  put_there [] n less = absurd (omega (arith, less))
  put_there (flow ∷ flows) zero less = refl
  put_there (flow ∷ flows) (suc n) less = put_there flows n (omega (arith, less))

  pub put_elsewhere : (flows : List (Option FunctionFlow)) (n m : ℕ) → (m ≡ n → ⊥) → told_at (slice_set flows n (Some w)) m ≡ told_at flows m
  put_elsewhere [] n m other = refl
  put_elsewhere (flow ∷ flows) zero zero other = absurd (other refl)
  put_elsewhere (flow ∷ flows) zero (suc m) other = refl
  put_elsewhere (flow ∷ flows) (suc n) zero other = refl
  put_elsewhere (flow ∷ flows) (suc n) (suc m) other = put_elsewhere flows n m (λ e. other (ap suc e))
