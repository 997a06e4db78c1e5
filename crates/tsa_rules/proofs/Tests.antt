-- Tests and what they say.
use Rattle.std.proofs.Common.{◌≡◌, ℕ, zero, suc, ◌<◌, ◌≤◌, nat_eq, nat_lt, Bool, true, false, not, ◌&&◌, ◌||◌, List, [], ◌∷◌, length, All}
use Rattle.std.proofs.Common.{refl, sym, ap, true≢false, arith, eqb-true}
use Rattle.std.proofs.lemmas.Bool.Decides.{nat_tests}
use Rattle.std.specs.List.{list_any}
use Rattle.tsa_rules.specs.Statuses.{Status, Free, Shared, Exclusive, Lent, Pending, is_free, is_exclusive, is_unheld, is_takable_again}
use Rattle.tsa_rules.specs.Statuses.{same_status, deepest, IsExclusive, IsHeld, IsTakableAgain}

pub never : {A : Type 0} → true ≡ false → A
never e = absurd (true≢false e)

pub neither : (a b : Bool) → (a || b) ≡ false → (a ≡ false) × (b ≡ false)
neither true b e = never e
neither false b e = (refl, e)

pub not_both : (a b : Bool) → (a && b) ≡ false → a ≡ true → b ≡ false
not_both true b e h = e
not_both false b e h = never (sym h)

pub left_part : (a b : Bool) → (a && b) ≡ true → a ≡ true
left_part true b e = refl
left_part false b e = e

pub right_part : (a b : Bool) → (a && b) ≡ true → b ≡ true
right_part true b e = e
right_part false b e = never (sym e)

pub affirmed : (b : Bool) → not b ≡ false → b ≡ true
affirmed true e = refl
affirmed false e = never e

pub below : (m n : ℕ) → nat_lt m n ≡ true → m < n
below m n e = grind (arith, nat_tests)

pub not_below : (m n : ℕ) → nat_lt m n ≡ false → n ≤ m
not_below m n e = grind (arith, nat_tests)

-- where none passes a test, each doesn't
pub none_passes : {X : Type 0} (test : X → Bool) (xs : List X) → list_any test xs ≡ false → All (λ x. test x ≡ false) xs
none_passes test [] e k d h = absurd (omega arith)
none_passes test (x ∷ xs) e zero d h = (neither (test x) (list_any test xs) e).0
none_passes test (x ∷ xs) e (suc k) d h =
    let near : k < length xs = omega arith in
    none_passes test xs (neither (test x) (list_any test xs) e).1 k d near

-- Statuses.
pub held : (s : Status) → is_unheld s ≡ false → IsHeld s
held Free e = never e
held Shared e = tt
held (Exclusive n) e = tt
held Lent e = tt
held (Pending v) e = never e

pub exclusive : (s : Status) → not (is_exclusive s) ≡ false → IsExclusive s
exclusive Free e = never e
exclusive Shared e = never e
exclusive (Exclusive n) e = tt
exclusive Lent e = never e
exclusive (Pending v) e = never e

pub free : (s : Status) → not (is_free s) ≡ false → s ≡ Free
free Free e = refl
free Shared e = never e
free (Exclusive n) e = never e
free Lent e = never e
free (Pending v) e = never e

pub takable : (s : Status) → not (is_takable_again s) ≡ false → IsTakableAgain s
takable Free e = tt
takable Shared e = never e
takable (Exclusive n) e = below n deepest (affirmed (nat_lt n deepest) e)
takable Lent e = never e
takable (Pending v) e = never e

pub same : (s t : Status) → same_status s t ≡ true → s ≡ t
same Free Free e = refl
same Shared Shared e = refl
same (Exclusive m) (Exclusive n) e = ap Exclusive (eqb-true m n e)
same Lent Lent e = refl
same (Pending v) (Pending w) e = ap Pending (eqb-true v w e)
same Free Shared e = never (sym e)
same Free (Exclusive n) e = never (sym e)
same Free Lent e = never (sym e)
same Free (Pending v) e = never (sym e)
same Shared Free e = never (sym e)
same Shared (Exclusive n) e = never (sym e)
same Shared Lent e = never (sym e)
same Shared (Pending v) e = never (sym e)
same (Exclusive m) Free e = never (sym e)
same (Exclusive m) Shared e = never (sym e)
same (Exclusive m) Lent e = never (sym e)
same (Exclusive m) (Pending v) e = never (sym e)
same Lent Free e = never (sym e)
same Lent Shared e = never (sym e)
same Lent (Exclusive n) e = never (sym e)
same Lent (Pending v) e = never (sym e)
same (Pending v) Free e = never (sym e)
same (Pending v) Shared e = never (sym e)
same (Pending v) (Exclusive n) e = never (sym e)
same (Pending v) Lent e = never (sym e)

pub is_zero : (n : ℕ) → nat_eq n 0 ≡ true → n ≡ 0
is_zero n h = eqb-true n 0 h

pub zero_is : (n : ℕ) → n ≡ 0 → nat_eq n 0 ≡ true
zero_is n e = ap (λ m. nat_eq m 0) e
