-- How many elements of a list pass a test.
use Rattle.std.proofs.Common.{◌≡◌, ◌<◌, ◌≤◌, ℕ, zero, suc, Bool, true, false, cond, List, [], ◌∷◌, length, slice_index_or, refl, sym, ap}
use Rattle.std.proofs.Common.{◌∙◌, true≢false, arith}
use Rattle.std.specs.List.{count_by}
use Rattle.std.specs.List.Sorted.{IsPermutation}
use Rattle.std.proofs.lemmas.List.Sorted.{sum_by-IsPermutation}
use Rattle.std.proofs.lemmas.List.Sums.{sum_by-cons}

-- where just the elements in front of a place pass, their count is the place
pub count_in_front : (p : ℕ → Bool) (xs : List ℕ) (k : ℕ) → k ≤ length xs
    → ((i : ℕ) → i < k → p (slice_index_or xs i 0) ≡ true) → ((i : ℕ) → k ≤ i → i < length xs → p (slice_index_or xs i 0) ≡ false) → count_by p xs ≡ k
count_in_front p [] zero within front rest = refl
count_in_front p [] (suc k) within front rest = absurd (omega arith)
count_in_front p (x ∷ xs) zero within front rest =
    let none : ◌≡◌ {A = ℕ} (cond (p x) 1 0) 0 = ap (λ t. cond t 1 0) (rest 0 (omega arith) (omega arith)) in
    let more = count_in_front p xs zero (omega arith) (λ i h. absurd (omega arith)) (λ i h m. rest (suc i) (omega arith) (omega arith)) in
    sum_by-cons (λ y. cond (p y) 1 0) x xs ∙ omega arith
count_in_front p (x ∷ xs) (suc k) within front rest =
    let one : ◌≡◌ {A = ℕ} (cond (p x) 1 0) 1 = ap (λ t. cond t 1 0) (front 0 (omega arith)) in
    let more = count_in_front p xs k (omega arith) (λ i h. front (suc i) (omega arith)) (λ i h m. rest (suc i) (omega arith) (omega arith)) in
    sum_by-cons (λ y. cond (p y) 1 0) x xs ∙ omega arith

pub count_moved : (p : ℕ → Bool) (xs ys : List ℕ) → IsPermutation xs ys → count_by p ys ≡ count_by p xs
count_moved p xs ys h = sum_by-IsPermutation (λ x. cond (p x) 1 0) xs ys h

one_more : (s t : Bool) → (s ≡ true → t ≡ true) → cond s 1 0 ≤ cond t 1 0
one_more true true h = omega arith
one_more true false h = absurd (true≢false (sym (h refl)))
one_more false true h = omega arith
one_more false false h = omega arith

-- a wider test counts no less
pub count_wider : (p q : ℕ → Bool) (xs : List ℕ) → ((x : ℕ) → p x ≡ true → q x ≡ true) → count_by p xs ≤ count_by q xs
count_wider p q [] wide = omega arith
count_wider p q (x ∷ xs) wide =
    let one = one_more (p x) (q x) (wide x) in
    let more = count_wider p q xs wide in
    let few = sum_by-cons (λ y. cond (p y) 1 0) x xs in
    let many = sum_by-cons (λ y. cond (q y) 1 0) x xs in
    omega arith

-- and more, where an element passes that one alone
pub count_more : (p q : ℕ → Bool) (xs : List ℕ) (k : ℕ) → ((x : ℕ) → p x ≡ true → q x ≡ true) → k < length xs → p (slice_index_or xs k 0) ≡ false → q (slice_index_or xs k 0) ≡ true → count_by p xs < count_by q xs
count_more p q [] k wide within out there = absurd (omega arith)
count_more p q (x ∷ xs) zero wide within out there =
    let fewer : ◌≡◌ {A = ℕ} (cond (p x) 1 0) 0 = ap (λ t. cond t 1 0) out in
    let one : ◌≡◌ {A = ℕ} (cond (q x) 1 0) 1 = ap (λ t. cond t 1 0) there in
    let more = count_wider p q xs wide in
    let few = sum_by-cons (λ y. cond (p y) 1 0) x xs in
    let many = sum_by-cons (λ y. cond (q y) 1 0) x xs in
    omega arith
count_more p q (x ∷ xs) (suc k) wide within out there =
    let one = one_more (p x) (q x) (wide x) in
    let more = count_more p q xs k wide (omega arith) out there in
    let few = sum_by-cons (λ y. cond (p y) 1 0) x xs in
    let many = sum_by-cons (λ y. cond (q y) 1 0) x xs in
    omega arith
