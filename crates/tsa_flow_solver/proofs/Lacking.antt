-- Statuses that one set has and another doesn't.
use Rattle.std.proofs.Common.{◌≡◌, ℕ, zero, suc, ◌^◌, ◌<◌, ◌⊎◌, inl, inr, sym, subst, arith}
use Rattle.std.specs.Int.{bit_at}
use Rattle.std.proofs.Math.Decide.{ℕ_discrete}
use Rattle.std.proofs.lemmas.Nat.Bits.{bit_at-zero}
use Rattle.tsa_rules.specs.declared.status.Status.{Status}
use Rattle.tsa_rules.specs.declared.statuses.Statuses.{Statuses}
use Rattle.tsa_rules.specs.Statuses.{number_of, status_of}
use Rattle.tsa_rules.specs.Sets.{Has, IsEmpty}
use Rattle.tsa_rules.proofs.Places.{number_fits}
use Rattle.tsa_rules.proofs.SetBits.{bit_of, has_at, sets_are_their_statuses}

-- some bit below a number is in the second alone, or each bit of the second below it is in the first
lacking_below : (a b n : ℕ) → ((k : ℕ) × ((k < n) × ((bit_at b k ≡ 1) × (bit_at a k ≡ 1 → ⊥)))) ⊎ ((k : ℕ) → k < n → bit_at b k ≡ 1 → bit_at a k ≡ 1)
lacking_below a b zero = inr (λ k below e. absurd (omega (arith, below)))
lacking_below a b (suc n) = elim (lacking_below a b n) [
  | inl x ↦ inl (x.0, (omega (arith, x.1.0), x.1.1))
  | inr all ↦ elim (ℕ_discrete (bit_at a n) 1) [
    | yes has ↦ inr (λ k below e. elim (ℕ_discrete k n) [ yes same ↦ subst (λ i. bit_at a i ≡ 1) (sym same) has | no other ↦ all k (omega (arith, below, other)) e ])
    | no lacks ↦ elim (ℕ_discrete (bit_at b n) 1) [
      | yes there ↦ inl (n, (omega arith, (there, lacks)))
      | no none ↦ inr (λ k below e. elim (ℕ_discrete k n) [ yes same ↦ absurd (none (subst (λ i. bit_at b i ≡ 1) same e)) | no other ↦ all k (omega (arith, below, other)) e ])
    ]
  ]
]

-- a set that isn't empty has some status
pub one_member : (a : Statuses) → (IsEmpty a → ⊥) → (s : Status) × Has a s
one_member a some = elim (lacking_below 0 a.bits 64) [
  | inl x ↦ (status_of x.0, has_at a.bits x.0 x.1.0 x.1.1.0)
  | inr none ↦ absurd (some (λ s h. absurd (omega (arith, bit_at-zero (number_of s), none (number_of s) (number_fits s h.place) h.bit))))
]

-- a set that has all of another and isn't the same has some status more
pub one_lacking : (a b : Statuses) → a.bits < 2 ^ 64 → b.bits < 2 ^ 64 → ((s : Status) → Has a s → Has b s) → (a ≡ b → ⊥) → (s : Status) × (Has b s × (Has a s → ⊥))
one_lacking a b fits fits' inside other = elim (lacking_below a.bits b.bits 64) [
  | inl x ↦ (status_of x.0, (has_at b.bits x.0 x.1.0 x.1.1.0, λ h. x.1.1.1 (bit_of a.bits x.0 h)))
  | inr all ↦ absurd (other (sets_are_their_statuses a b fits fits' (λ s. (inside s, λ h. record { place = h.place; bit = all (number_of s) (number_fits s h.place) h.bit }))))
]
