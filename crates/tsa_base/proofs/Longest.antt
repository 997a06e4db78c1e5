-- The longest front that is a token is one, and no longer front is.
use Rattle.std.proofs.Common.{◌≡◌, inl, inr, ℕ, zero, suc, ◌<◌, ◌≤◌, Bool, true, false, List, length, take, refl, arith}
use Rattle.std.proofs.Math.Nat.{le-suc_iff}
use Rattle.tsa_base.specs.Tokens.{is_token, longest_up_to}
use Rattle.tsa_base.specs.TokenLaws.{NextTokenIsTheLongest}

token-step : (n : ℕ) (cs : List ℕ) (b : Bool) → is_token (take (suc n) cs) ≡ b → (0 < longest_up_to n cs → is_token (take (longest_up_to n cs) cs) ≡ true) → 0 < longest_up_to (suc n) cs → is_token (take (longest_up_to (suc n) cs) cs) ≡ true
unfolding longest_up_to
token-step n cs true e below some = rw (e, e) refl
token-step n cs false e below some = rw e (below (rw e at some))

up_to-token : (n : ℕ) (cs : List ℕ) → 0 < longest_up_to n cs → is_token (take (longest_up_to n cs) cs) ≡ true
unfolding longest_up_to
up_to-token zero cs some = absurd (omega arith)
up_to-token (suc n) cs some = token-step n cs (is_token (take (suc n) cs)) refl (up_to-token n cs) some

reaches-step : (n : ℕ) (cs : List ℕ) (k : ℕ) (b : Bool) → is_token (take (suc n) cs) ≡ b → k ≤ suc n → (b ≡ false → k ≤ longest_up_to n cs) → k ≤ longest_up_to (suc n) cs
unfolding longest_up_to
reaches-step n cs k true e within below = rw e within
reaches-step n cs k false e within below = rw e (below refl)

-- a front that is a token is no longer than the longest one
up_to-reaches : (n : ℕ) (cs : List ℕ) (k : ℕ) → k ≤ n → is_token (take k cs) ≡ true → k ≤ longest_up_to n cs
up_to-reaches zero cs k within here = omega arith
up_to-reaches (suc n) cs k within here =
    reaches-step n cs k (is_token (take (suc n) cs)) refl within (λ other. elim (le-suc_iff.0 within) [
      | inl below ↦ up_to-reaches n cs k below here
      | inr same ↦ let wrong : is_token (take (suc n) cs) ≡ true = rw same at here in cc
    ])

pub next_token_is_the_longest : NextTokenIsTheLongest
next_token_is_the_longest = record {
  token = λ rest. up_to-token (length rest) rest;
  longest_one = λ rest n. up_to-reaches (length rest) rest n;
}
