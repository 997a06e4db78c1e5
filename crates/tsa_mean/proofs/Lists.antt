-- Tests of all elements, and elements of a list of which one is set.
use Rattle.std.proofs.Common.{◌≡◌, ℕ, zero, suc, ◌<◌, Bool, true, false, not, ◌&&◌, List, [], ◌∷◌, Option, Some, slice_get, slice_index_or}
use Rattle.std.proofs.Common.{refl, ap, sym, subst, arith}
use Rattle.std.proofs.Math.Decide.{ℕ_discrete}
use Rattle.std.specs.List.{list_all}
use Rattle.std.specs.Prelude.{All, slice_set, ◌↔◌}
use Rattle.tsa_mean.specs.Violations.{all_below}
use Rattle.tsa_base.proofs.Truths.{both}

pub all_none : {A : Type 0} (P : A → Type 0) → All P []
all_none P k d l = absurd (omega (arith, l))

pub all_more : {A : Type 0} (P : A → Type 0) (x : A) (xs : List A) → P x → All P xs → All P (x ∷ xs)
all_more P x xs first rest zero d l = first
all_more P x xs first rest (suc k) d l = rest k d (omega (arith, l))

pub all_first : {A : Type 0} (P : A → Type 0) (x : A) (xs : List A) → All P (x ∷ xs) → P x
all_first P x xs all = all zero x (omega arith)

pub all_rest : {A : Type 0} (P : A → Type 0) (x : A) (xs : List A) → All P (x ∷ xs) → All P xs
all_rest P x xs all = λ k d l. all (suc k) d (omega (arith, l))

pub join : (a b : Bool) → a ≡ true → b ≡ true → (a && b) ≡ true
join true b one other = other
join false b one other = absurd cc

pub not_false : (b : Bool) → (not b ≡ false) ↔ (b ≡ true)
not_false true = (λ e. refl, λ e. refl)
not_false false = (λ e. absurd cc, λ e. absurd cc)

-- a test of each element
pub all_pass : {A : Type 0} (test : A → Bool) (P : A → Type 0) → ((x : A) → (test x ≡ true) ↔ P x) → (xs : List A) → (list_all test xs ≡ true) ↔ All P xs
all_pass test P each [] = (λ e. all_none P, λ all. refl)
all_pass test P each (x ∷ xs) = (
  λ e. let parts = both (test x) (list_all test xs) e in all_more P x xs ((each x).0 parts.0) ((all_pass test P each xs).0 parts.1),
  λ all. join (test x) (list_all test xs) ((each x).1 (all_first P x xs all)) ((all_pass test P each xs).1 (all_rest P x xs all)),
)

-- a test of each number below one
below_last : (n k : ℕ) → k < suc n → (k ≡ n → ⊥) → k < n
below_last n k l other = omega (arith, l, other)

pub below_pass : (n : ℕ) (test : ℕ → Bool) (P : ℕ → Type 0) → ((k : ℕ) → (test k ≡ true) ↔ P k) → (all_below n test ≡ true) ↔ ((k : ℕ) → k < n → P k)
unfolding all_below
below_pass zero test P each = (λ e k l. absurd (omega (arith, l)), λ all. refl)
below_pass (suc n) test P each = (
  λ e k l. let parts = both (test n) (all_below n test) e in elim (ℕ_discrete k n) [
    | yes same ↦ subst P (sym same) ((each n).0 parts.0)
    | no other ↦ (below_pass n test P each).0 parts.1 k (below_last n k l other)
  ],
  λ all. join (test n) (all_below n test) ((each n).1 (all n (omega arith))) ((below_pass n test P each).1 (λ k l. all k (omega (arith, l)))),
)

-- what stands elsewhere than where a list is set
pub set_elsewhere : {A : Type 0} (xs : List A) (i j : ℕ) (x : A) → (j ≡ i → ⊥) → slice_get (slice_set xs i x) j ≡ slice_get xs j
set_elsewhere [] i j x other = refl
set_elsewhere (y ∷ ys) zero zero x other = absurd (other refl)
set_elsewhere (y ∷ ys) zero (suc j) x other = refl
set_elsewhere (y ∷ ys) (suc i) zero x other = refl
set_elsewhere (y ∷ ys) (suc i) (suc j) x other = set_elsewhere ys i j x (λ same. other (ap suc same))

-- what holds of each element, and of the one that is set, holds after it is set
pub set_keeps : {A : Type 0} (P : ℕ → A → Type 0) (xs : List A) (i : ℕ) (x d : A) → ((j : ℕ) → P j (slice_index_or xs j d)) → P i x → (j : ℕ) → P j (slice_index_or (slice_set xs i x) j d)
set_keeps P [] i x d all new j = all j
set_keeps P (y ∷ ys) zero x d all new zero = new
set_keeps P (y ∷ ys) zero x d all new (suc j) = all (suc j)
set_keeps P (y ∷ ys) (suc i) x d all new zero = all zero
set_keeps P (y ∷ ys) (suc i) x d all new (suc j) = set_keeps (λ k. P (suc k)) ys i x d (λ k. all (suc k)) new j

pub set_keeps_some : {A : Type 0} (P : Option A → Type 0) (xs : List A) (i : ℕ) (x : A) → ((j : ℕ) → P (slice_get xs j)) → P (Some x) → (j : ℕ) → P (slice_get (slice_set xs i x) j)
set_keeps_some P [] i x all new j = all j
set_keeps_some P (y ∷ ys) zero x all new zero = new
set_keeps_some P (y ∷ ys) zero x all new (suc j) = all (suc j)
set_keeps_some P (y ∷ ys) (suc i) x all new zero = all zero
set_keeps_some P (y ∷ ys) (suc i) x all new (suc j) = set_keeps_some P ys i x (λ k. all (suc k)) new j
