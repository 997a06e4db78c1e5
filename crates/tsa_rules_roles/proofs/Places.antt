-- The first place at which a test passes, and what comes before it.
use Rattle.std.proofs.Common.{◌≡◌, ◌∙◌, ℕ, ◌+◌, ◌<◌, ◌≤◌, one-add, take_all, nat_eq, nat_lt, Bool, true, false, List, [], ◌∷◌, ◌++◌, length}
use Rattle.std.proofs.Common.{take, position, Option, Some, None, if◌then◌else◌, refl, sym, ap, arith}
use Rattle.std.proofs.lemmas.Bool.Decides.{nat_tests}
use Rattle.std.proofs.lemmas.Iterator.Adapters.{position_from-zero}
use Rattle.std.specs.List.{position_from, position_or_len, cons_option}
use Rattle.std.specs.Option.{option_or}
use Rattle.tsa_rules_roles.specs.declared.duty.Duty.{Duty}
use Rattle.tsa_rules_roles.specs.declared.duty.Duty.TheVariants as duty
use Rattle.tsa_rules_roles.specs.Roles.{begins, declared_in, local_in, number_in, tries_in, variables_in}

-- one element more
push_step : (b c : Bool) (i n m : ℕ) (o o' : Option ℕ) → o' ≡ option_or o (if c then Some n else None) → n ≡ m
    → (if b then Some i else o') ≡ option_or (if b then Some i else o) (if c then Some m else None)
push_step true c i n m o o' h e = refl
push_step false c i n m o o' h e = h ∙ ap (λ k. option_or o (if c then Some k else None)) e

push_from : {X : Type 0} (p : X → Bool) (i : ℕ) (xs : List X) (y : X) → position_from p i (xs ++ y ∷ []) ≡ option_or (position_from p i xs) (if p y then Some (i + length xs) else None)
push_from p i [] y = let e : i ≡ i + 0 = omega arith in ap (λ k. if p y then Some k else None) e
push_from p i (x ∷ xs) y =
    let e : (i + 1) + length xs ≡ i + length (x ∷ xs) = omega arith in
    push_step (p x) (p y) i ((i + 1) + length xs) (i + length (x ∷ xs)) (position_from p (i + 1) xs) (position_from p (i + 1) (xs ++ y ∷ [])) (push_from p (i + 1) xs y) e

pub position_push : {X : Type 0} (p : X → Bool) (xs : List X) (y : X) → position p (xs ++ y ∷ []) ≡ option_or (position p xs) (if p y then Some (length xs) else None)
position_push p xs y =
    let e : 0 + length xs ≡ length xs = omega arith in
    position_from-zero p (xs ++ y ∷ []) ∙ push_from p 0 xs y
    ∙ ap (λ o. option_or o (if p y then Some (0 + length xs) else None)) (sym (position_from-zero p xs))
    ∙ ap (λ n. option_or (position p xs) (if p y then Some n else None)) e

-- by whether there is one
by_place : (i n : ℕ) (q : ℕ) (b : Bool) → nat_lt i n ≡ b → (if b then Some i else None) ≡ Some q → (i ≡ q) × (q < n)
by_place i n q true e h = let same : i ≡ q = cc in (same, grind (arith, nat_tests))
by_place i n q false e h = cc

pub place : {X : Type 0} (p : X → Bool) (xs : List X) (q : ℕ) → position p xs ≡ Some q → (position_or_len p xs ≡ q) × (q < length xs)
place p xs q h = by_place (position_or_len p xs) (length xs) q (nat_lt (position_or_len p xs) (length xs)) refl h

no_place : (i n : ℕ) (b : Bool) → nat_lt i n ≡ b → (if b then Some i else None) ≡ None → n ≤ i
no_place i n true e h = cc
no_place i n false e h = grind (arith, nat_tests)

pub nowhere : {X : Type 0} (p : X → Bool) (xs : List X) → position p xs ≡ None → length xs ≤ position_or_len p xs
nowhere p xs h = no_place (position_or_len p xs) (length xs) (nat_lt (position_or_len p xs) (length xs)) refl h

-- The number of a local is how many try variables come before the point that begins it.
turned : (m n : ℕ) (b : Bool) → nat_eq m n ≡ b → nat_eq n m ≡ b
turned m n true e = grind (arith, nat_tests)
turned m n false e = grind (arith, nat_tests)

before : (duties : List Duty) (d : Duty) (i : ℕ) → tries_in (take (1 + i) (d ∷ duties)) ≡ length (cons_option (local_in d) (variables_in (take i duties)))
before duties d i = ap (λ k. tries_in (take k (d ∷ duties))) (one-add i)

declared_step : (duties : List Duty) (local n : ℕ) (b : Bool) → nat_eq n local ≡ b → number_in duties local ≡ tries_in (take (position_or_len (begins local) duties) duties)
    → number_in (duty.Declares n ∷ duties) local ≡ tries_in (take (position_or_len (begins local) (duty.Declares n ∷ duties)) (duty.Declares n ∷ duties))
declared_step duties local n true e h = rw (e, turned n local true e) refl
declared_step duties local n false e h =
    rw (e, turned n local false e) (ap (λ k. 1 + k) h ∙ one-add (tries_in (take (position_or_len (begins local) duties) duties)) ∙ sym (before duties (duty.Declares n) (position_or_len (begins local) duties)))

pub counted : (duties : List Duty) (local : ℕ) → number_in duties local ≡ tries_in (take (position_or_len (begins local) duties) duties)
counted [] local = refl
counted (duty.Declares n ∷ duties) local = declared_step duties local n (nat_eq n local) refl (counted duties local)
counted (duty.Tests t ∷ duties) local = counted duties local ∙ sym (before duties (duty.Tests t) (position_or_len (begins local) duties))
counted (duty.Leaves a ∷ duties) local = counted duties local ∙ sym (before duties (duty.Leaves a) (position_or_len (begins local) duties))
counted (duty.Passes ∷ duties) local = counted duties local ∙ sym (before duties duty.Passes (position_or_len (begins local) duties))

pub counted_at : (duties : List Duty) (local q : ℕ) → declared_in duties local ≡ Some q → number_in duties local ≡ tries_in (take q duties)
counted_at duties local q h = counted duties local ∙ ap (λ k. tries_in (take k duties)) (place (begins local) duties q h).0

pub counted_all : (duties : List Duty) (local : ℕ) → declared_in duties local ≡ None → number_in duties local ≡ tries_in duties
counted_all duties local h = counted duties local ∙ ap tries_in (take_all (position_or_len (begins local) duties) duties (nowhere (begins local) duties h))
