-- Sets of statuses by their bits.
use Rattle.std.proofs.Common.{◌≡◌, ℕ, ◌*◌, ◌%◌, ◌^◌, ◌<◌, ◌≤◌, ◌↔◌, ◌⊎◌, inl, inr, sym, ap, ◌∙◌, subst, arith, bit_and, bit_or, w64}
use Rattle.std.specs.Int.{bit_at, bit_not, trailing_zeros}
use Rattle.std.proofs.lemmas.Nat.{and_le_l}
use Rattle.std.proofs.lemmas.Nat.Bits.{bit_at_or, bit_at-lt, bit_at-zero, bit_at_set_same, bit_at_set_other, bit_at_clear_same}
use Rattle.std.proofs.lemmas.Nat.Bits.{bit_at_clear_other, bit_at-trailing_zeros, same_from_bits_below}
use Rattle.std.proofs.Math.Decide.{ℕ_discrete, dec_lt}
use Rattle.tsa_rules.specs.Statuses.{Status, number_of, status_of}
use Rattle.tsa_rules.specs.Sets.{Has, HasPlace, IsEmpty, IsTaken, SetsAreTheirStatuses}
use Rattle.tsa_rules.specs.declared.statuses.Statuses.{Statuses}
use Rattle.tsa_rules.proofs.Places.{number_of-status, same_number, place_at, number_fits}

abbrev pub set : ℕ → Statuses
set bits = record { bits = bits }

pub empty_has_none : IsEmpty (set 0)
empty_has_none s h = absurd (omega (arith, bit_at-zero (number_of s), h.bit))

pub has_or : (a b : ℕ) (t : Status) → Has (set (bit_or a b)) t ↔ (Has (set a) t ⊎ Has (set b) t)
has_or a b t = (apart, λ o. elim o [ inl h ↦ record { place = h.place; bit = omega (arith, bit_at_or a b (number_of t), bit_at-lt b (number_of t), h.bit) } | inr h ↦ record { place = h.place; bit = omega (arith, bit_at_or a b (number_of t), bit_at-lt a (number_of t), h.bit) } ])
  where
    apart : Has (set (bit_or a b)) t → Has (set a) t ⊎ Has (set b) t
    apart h = elim (ℕ_discrete (bit_at a (number_of t)) 1) [ yes e ↦ inl (record { place = h.place; bit = e }) | no n ↦ inr (record { place = h.place; bit = omega (arith, bit_at_or a b (number_of t), bit_at-lt a (number_of t), bit_at-lt b (number_of t), h.bit) }) ]

pub has_with : (bits n : ℕ) (s : Status) → n ≡ number_of s → n < 64 → HasPlace s → (t : Status)
    → Has (set (bit_or bits (1 * 2 ^ n % 18446744073709551616))) t ↔ (Has (set bits) t ⊎ (t ≡ s))
has_with bits n s e h p t = elim (ℕ_discrete (number_of t) n) [ yes same ↦ at same | no other ↦ off other ]
  where
    at : number_of t ≡ n → Has (set (bit_or bits (1 * 2 ^ n % 18446744073709551616))) t ↔ (Has (set bits) t ⊎ (t ≡ s))
    at same = (λ x. inr (same_number t s x.place p (same ∙ e)), λ o. elim o [ inl x ↦ is x.place | inr eq ↦ is (subst HasPlace (sym eq) p) ])
      where
        is : HasPlace t → Has (set (bit_or bits (1 * 2 ^ n % 18446744073709551616))) t
        is place = record { place = place; bit = subst (λ i. bit_at (bit_or bits (1 * 2 ^ n % 18446744073709551616)) i ≡ 1) (sym same) (bit_at_set_same w64 bits n h) }

    off : (number_of t ≡ n → ⊥) → Has (set (bit_or bits (1 * 2 ^ n % 18446744073709551616))) t ↔ (Has (set bits) t ⊎ (t ≡ s))
    off other = (λ x. inl (record { place = x.place; bit = sym (bit_at_set_other w64 bits n h (number_of t) other) ∙ x.bit }), λ o. elim o [ inl x ↦ record { place = x.place; bit = bit_at_set_other w64 bits n h (number_of t) other ∙ x.bit } | inr same ↦ absurd (other (ap number_of same ∙ sym e)) ])

-- a bit below 64 is that of the status of its number
pub has_at : (bits n : ℕ) → n < 64 → bit_at bits n ≡ 1 → Has (set bits) (status_of n)
has_at bits n h e = record { place = place_at n h; bit = ap (bit_at bits) (number_of-status n) ∙ e }

pub bit_of : (bits n : ℕ) → Has (set bits) (status_of n) → bit_at bits n ≡ 1
bit_of bits n x = ap (bit_at bits) (sym (number_of-status n)) ∙ x.bit

pub sets_are_their_statuses : SetsAreTheirStatuses
sets_are_their_statuses a b fits_a fits_b same = ap set (same_from_bits_below 64 a.bits b.bits fits_a fits_b each)
  where
    each : (i : ℕ) → i < 64 → bit_at a.bits i ≡ bit_at b.bits i
    each i h = elim (ℕ_discrete (bit_at a.bits i) 1) [ yes e ↦ e ∙ sym (bit_of b.bits i ((same (status_of i)).0 (has_at a.bits i h e))) | no n ↦ elim (ℕ_discrete (bit_at b.bits i) 1) [ yes e ↦ absurd (n (bit_of a.bits i ((same (status_of i)).1 (has_at b.bits i h e)))) | no m ↦ omega (arith, bit_at-lt a.bits i, bit_at-lt b.bits i) ] ]

-- the member of the smallest number is taken out
abbrev without : (bits n : ℕ) → ℕ
without bits n = bit_and bits (bit_not w64 (1 * 2 ^ n % 18446744073709551616))

pub first_taken : (bits n : ℕ) → 0 < bits → bits < 18446744073709551616 → n ≡ trailing_zeros w64 bits → (s : Status) → s ≡ status_of n
    → IsTaken (set bits) s (set (without bits n))
first_taken bits n some fits e s is = record { member = subst (λ t. Has (set bits) t) (sym is) member; smallest = smallest; left = left; smaller = smaller }
  where
    inside : n < 64
    inside = subst (λ i. i < 64) (sym e) (bit_at-trailing_zeros w64 bits some fits).0

    one : bit_at bits n ≡ 1
    one = ap (bit_at bits) e ∙ (bit_at-trailing_zeros w64 bits some fits).1

    number : number_of s ≡ n
    number = ap number_of is ∙ number_of-status n

    member : Has (set bits) (status_of n)
    member = has_at bits n inside one

    smallest : (t : Status) → Has (set bits) t → number_of s ≤ number_of t
    smallest t x = elim (dec_lt (number_of t) n) [ yes l ↦ absurd (omega (arith, (bit_at-trailing_zeros w64 bits some fits).2 (number_of t) (subst (λ i. number_of t < i) e l), x.bit)) | no m ↦ omega (arith, number, m) ]

    left : (t : Status) → Has (set (without bits n)) t ↔ (Has (set bits) t × (t ≡ s → ⊥))
    left t = (λ x. elim (ℕ_discrete (number_of t) n) [ yes same ↦ absurd (omega (arith, ap (bit_at (without bits n)) same, bit_at_clear_same w64 bits n inside, x.bit)) | no other ↦ (record { place = x.place; bit = sym (bit_at_clear_other w64 bits n inside (number_of t) (number_fits t x.place) other) ∙ x.bit }, λ same. other (ap number_of same ∙ number)) ], λ y. back y.0 y.1)
      where
        back : Has (set bits) t → (t ≡ s → ⊥) → Has (set (without bits n)) t
        back x other = record {
          place = x.place;
          bit = bit_at_clear_other w64 bits n inside (number_of t) (number_fits t x.place) (λ same. other (same_number t s x.place (subst HasPlace (sym is) (place_at n inside)) (same ∙ sym number))) ∙ x.bit;
        }

    smaller : without bits n < bits
    smaller = elim (ℕ_discrete (without bits n) bits) [ yes same ↦ absurd (omega (arith, ap (λ b. bit_at b n) same, bit_at_clear_same w64 bits n inside, one)) | no other ↦ omega (arith, and_le_l bits (bit_not w64 (1 * 2 ^ n % 18446744073709551616)), other) ]

-- a set without statuses is 0
pub empty_is_zero : (bits : ℕ) → bits < 18446744073709551616 → IsEmpty (set bits) → bits ≡ 0
empty_is_zero bits fits none = elim (ℕ_discrete bits 0) [ yes e ↦ e | no some ↦ absurd (none (status_of (trailing_zeros w64 bits)) (first (omega arith))) ]
  where
    first : 0 < bits → Has (set bits) (status_of (trailing_zeros w64 bits))
    first some = has_at bits (trailing_zeros w64 bits) (bit_at-trailing_zeros w64 bits some fits).0 (bit_at-trailing_zeros w64 bits some fits).1

pub zero_is_empty : (bits : ℕ) → bits ≡ 0 → IsEmpty (set bits)
zero_is_empty bits e = subst (λ b. IsEmpty (set b)) (sym e) empty_has_none
