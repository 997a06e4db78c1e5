-- The longest front is the one after which none is longer.
use Rattle.std.proofs.Common.{◌≡◌, inl, inr, ℕ, zero, suc, ◌<◌, ◌≤◌, Bool, true, false, List, length, take, refl, sym, arith}
use Rattle.std.proofs.Math.Nat.{le-suc_iff}
use Rattle.tsa_base.specs.Tokens.{is_token, longest_up_to, longest}

up_to-none : (n : ℕ) (cs : List ℕ) → ((j : ℕ) → 0 < j → j ≤ n → is_token (take j cs) ≡ false) → longest_up_to n cs ≡ 0
unfolding longest_up_to
up_to-none zero cs none = refl
up_to-none (suc n) cs none =
    let here : is_token (take (suc n) cs) ≡ false = none (suc n) (omega arith) (omega arith) in
    rw here (up_to-none n cs (λ j p q. none j p (omega arith)))

up_to-found : (n : ℕ) (cs : List ℕ) (k : ℕ) → k ≤ n → 0 < k → is_token (take k cs) ≡ true → ((j : ℕ) → k < j → j ≤ n → is_token (take j cs) ≡ false) → longest_up_to n cs ≡ k
unfolding longest_up_to
up_to-found zero cs k within some here above = absurd (omega arith)
up_to-found (suc n) cs k within some here above =
    elim (le-suc_iff.0 within) [
      | inl below ↦
          let not_here : is_token (take (suc n) cs) ≡ false = above (suc n) (omega arith) (omega arith) in
          rw not_here (up_to-found n cs k below some here (λ j p q. above j p (omega arith)))
      | inr same ↦
          let now : is_token (take (suc n) cs) ≡ true = rw same at here in
          rw now (sym same)
    ]

pub longest-none : (cs : List ℕ) → ((j : ℕ) → 0 < j → j ≤ length cs → is_token (take j cs) ≡ false) → longest cs ≡ 0
longest-none cs none = up_to-none (length cs) cs none

pub longest-found : (cs : List ℕ) (k : ℕ) → k ≤ length cs → 0 < k → is_token (take k cs) ≡ true → ((j : ℕ) → k < j → j ≤ length cs → is_token (take j cs) ≡ false) → longest cs ≡ k
longest-found cs k within some here above = up_to-found (length cs) cs k within some here above

up_to-within_step : (n : ℕ) (cs : List ℕ) (b : Bool) → is_token (take (suc n) cs) ≡ b → longest_up_to n cs ≤ n → longest_up_to (suc n) cs ≤ suc n
unfolding longest_up_to
up_to-within_step n cs true e below = rw e (omega arith)
up_to-within_step n cs false e below = rw e (omega arith)

up_to-within : (n : ℕ) (cs : List ℕ) → longest_up_to n cs ≤ n
unfolding longest_up_to
up_to-within zero cs = omega arith
up_to-within (suc n) cs = up_to-within_step n cs (is_token (take (suc n) cs)) refl (up_to-within n cs)

pub longest-within : (cs : List ℕ) → longest cs ≤ length cs
longest-within cs = up_to-within (length cs) cs
