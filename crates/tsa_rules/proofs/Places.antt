-- The places of statuses in sets.
use Rattle.std.proofs.Common.{◌≡◌, ℕ, ◌+◌, ◌-◌, ◌<◌, ◌≤◌, nat_eq, nat_lt, nat_le, Bool, true, false, if◌then◌else◌, refl, sym, ap, ◌∙◌}
use Rattle.std.proofs.Common.{arith}
use Rattle.std.proofs.lemmas.Bool.Decides.{nat_tests}
use Rattle.tsa_rules.specs.Statuses.{Status, Free, Shared, Exclusive, Lent, Pending, depth_of, number_of, status_of}
use Rattle.tsa_rules.specs.Sets.{HasPlace, PossibleStatusesHavePlaces}
use Rattle.tsa_rules.proofs.Tests.{left_part, right_part}
use Rattle.tsa_rules.proofs.Possible.{both, within, from_within}

less : (m n : ℕ) → nat_lt m n ≡ true → m < n
less m n e = grind (arith, nat_tests)

less_test : (m n : ℕ) → m < n → nat_lt m n ≡ true
less_test m n h = grind (arith, nat_tests)

-- a depth from 1 to 7
pub depth_low : (n : ℕ) → HasPlace (Exclusive n) → 1 ≤ n
depth_low n h = from_within 1 n (left_part (nat_le 1 n) (nat_le n 7) h)

pub depth_high : (n : ℕ) → HasPlace (Exclusive n) → n ≤ 7
depth_high n h = from_within n 7 (right_part (nat_le 1 n) (nat_le n 7) h)

pub variable_high : (v : ℕ) → HasPlace (Pending v) → v < 54
variable_high v h = less v 54 h

exclusive_at : (n : ℕ) → 1 ≤ n → n ≤ 7 → status_of (1 + n) ≡ Exclusive n
exclusive_at n l h =
    let a : nat_eq (1 + n) 0 ≡ false = grind (arith, nat_tests) in
    let b : nat_eq (1 + n) 1 ≡ false = grind (arith, nat_tests) in
    let d : nat_lt (1 + n) 9 ≡ true = grind (arith, nat_tests) in
    let e : 1 + n - 1 ≡ n = omega arith in
    rw (a, b, d, e) refl

pending_at : (v : ℕ) → status_of (10 + v) ≡ Pending v
pending_at v =
    let a : nat_eq (10 + v) 0 ≡ false = grind (arith, nat_tests) in
    let b : nat_eq (10 + v) 1 ≡ false = grind (arith, nat_tests) in
    let d : nat_lt (10 + v) 9 ≡ false = grind (arith, nat_tests) in
    let g : nat_eq (10 + v) 9 ≡ false = grind (arith, nat_tests) in
    let e : 10 + v - 10 ≡ v = omega arith in
    rw (a, b, d, g, e) refl

pub status_of-number : (s : Status) → HasPlace s → status_of (number_of s) ≡ s
status_of-number Free h = refl
status_of-number Shared h = refl
status_of-number (Exclusive n) h = exclusive_at n (depth_low n h) (depth_high n h)
status_of-number Lent h = refl
status_of-number (Pending v) h = pending_at v

pub same_number : (s t : Status) → HasPlace s → HasPlace t → number_of s ≡ number_of t → s ≡ t
same_number s t h k e = sym (status_of-number s h) ∙ (ap status_of e ∙ status_of-number t k)

number_by : (n : ℕ) (a b d g : Bool) → nat_eq n 0 ≡ a → nat_eq n 1 ≡ b → nat_lt n 9 ≡ d → nat_eq n 9 ≡ g
    → number_of (if a then Free else (if b then Shared else (if d then Exclusive (n - 1) else (if g then Lent else Pending (n - 10))))) ≡ n
number_by n true b d g ea eb ed eg = grind (arith, nat_tests)
number_by n false true d g ea eb ed eg = grind (arith, nat_tests)
number_by n false false true g ea eb ed eg = grind (arith, nat_tests)
number_by n false false false true ea eb ed eg = grind (arith, nat_tests)
number_by n false false false false ea eb ed eg = grind (arith, nat_tests)

pub number_of-status : (n : ℕ) → number_of (status_of n) ≡ n
number_of-status n = number_by n (nat_eq n 0) (nat_eq n 1) (nat_lt n 9) (nat_eq n 9) refl refl refl refl

place_by : (n : ℕ) (a b d g : Bool) → n < 64 → nat_eq n 0 ≡ a → nat_eq n 1 ≡ b → nat_lt n 9 ≡ d → nat_eq n 9 ≡ g
    → HasPlace (if a then Free else (if b then Shared else (if d then Exclusive (n - 1) else (if g then Lent else Pending (n - 10)))))
place_by n true b d g h ea eb ed eg = refl
place_by n false true d g h ea eb ed eg = refl
place_by n false false true g h ea eb ed eg =
    let low : 1 ≤ n - 1 = grind (arith, nat_tests) in
    let high : n - 1 ≤ 7 = grind (arith, nat_tests) in
    both (nat_le 1 (n - 1)) (nat_le (n - 1) 7) (within 1 (n - 1) low) (within (n - 1) 7 high)
place_by n false false false true h ea eb ed eg = refl
place_by n false false false false h ea eb ed eg =
    let high : n - 10 < 54 = grind (arith, nat_tests) in
    less_test (n - 10) 54 high

pub place_at : (n : ℕ) → n < 64 → HasPlace (status_of n)
place_at n h = place_by n (nat_eq n 0) (nat_eq n 1) (nat_lt n 9) (nat_eq n 9) h refl refl refl refl

pub number_fits : (s : Status) → HasPlace s → number_of s < 64
number_fits Free h = omega arith
number_fits Shared h = omega arith
number_fits (Exclusive n) h = omega (arith, depth_high n h)
number_fits Lent h = omega arith
number_fits (Pending v) h = omega (arith, variable_high v h)

depth_fits : (r : Bool) (n : ℕ) → nat_le n (depth_of r) ≡ true → nat_le n 7 ≡ true
depth_fits true n h = h
depth_fits false n h =
    let low : n ≤ 1 = from_within n 1 h in
    within n 7 (omega arith)

pub possible_statuses_have_places : PossibleStatusesHavePlaces
possible_statuses_have_places r tries Free l h = refl
possible_statuses_have_places r tries Shared l h = refl
possible_statuses_have_places r tries (Exclusive n) l h =
    both (nat_le 1 n) (nat_le n 7) (left_part (nat_le 1 n) (nat_le n (depth_of r)) h) (depth_fits r n (right_part (nat_le 1 n) (nat_le n (depth_of r)) h))
possible_statuses_have_places r tries Lent l h = refl
possible_statuses_have_places r tries (Pending v) l h =
    let low : v < tries = less v tries h in
    less_test v 54 (omega arith)
