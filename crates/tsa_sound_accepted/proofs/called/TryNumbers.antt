-- A local is declared at one point, and a try variable has its number.
use Rattle.std.proofs.Common.{◌≡◌, ◌∙◌, ◌⊎◌, inl, inr, ℕ, zero, suc, ◌+◌, ◌≤◌, arith, nat_eq, eqb-true, Bool, true, false, List, [], ◌∷◌}
use Rattle.std.proofs.Common.{find, filter_map, Option, Some, None, slice_get, if◌then◌else◌, refl, sym, ap, subst}
use Rattle.std.proofs.lemmas.List.Folds.{find_at}
use Rattle.std.specs.List.{cons_option, list_any}
use Rattle.tsa_core.specs.Bodies.{Point}
use Rattle.tsa_core.specs.Programs.{Function, Program}
use Rattle.tsa_core.proofs.TypedTerms.{some_same}
use Rattle.tsa_rules.specs.Points.{begins, declaration_of, is_a_try, local_begun, points_of, try_number, try_variable_at, try_variables}
use Rattle.tsa_rules.specs.TryVariables.{AreInOrder, IsNext, begun_count}
use Rattle.tsa_rules.proofs.Possible.{listed}
use Rattle.tsa_base.proofs.Numbers.{itself}
use Rattle.tsa_base.proofs.Truths.{never}

-- A local is declared at one point.
pub begins_later : (n : ℕ) (points : List Point) → AreInOrder n points → (p m : ℕ) (y : Point) → slice_get points p ≡ Some y → local_begun y.action ≡ Some m → n ≤ m
begins_later n [] h p m y at e = absurd cc
begins_later n (x ∷ points) h zero m y at e =
    let same : x ≡ y = cc in
    let next : m ≡ n = subst (IsNext n) (ap (λ z. local_begun z.action) same ∙ e) h.0 in
    omega (arith, next)
begins_later n (x ∷ points) h (suc p) m y at e =
    let more = begins_later (n + begun_count (local_begun x.action)) points h.1 p m y at e in
    omega (arith, more)

never_again : (n : ℕ) (points : List Point) (x : Point) → AreInOrder n (x ∷ points) → (p m : ℕ) (y : Point) → slice_get points p ≡ Some y
    → local_begun y.action ≡ Some m
    → local_begun x.action ≡ Some m → ⊥
never_again n points x h p m y at e f =
    let next : m ≡ n = subst (IsNext n) f h.0 in
    let one : begun_count (local_begun x.action) ≡ 1 = ap begun_count f in
    let more = begins_later (n + begun_count (local_begun x.action)) points h.1 p m y at e in
    absurd (omega (arith, next, one, more))

pub declared_once : (n : ℕ) (points : List Point) → AreInOrder n points → (p q m : ℕ) (y z : Point) → slice_get points p ≡ Some y → slice_get points q ≡ Some z
    → local_begun y.action ≡ Some m → local_begun z.action ≡ Some m → p ≡ q
declared_once n [] h p q m y z at_p at_q e f = absurd cc
declared_once n (x ∷ points) h zero zero m y z at_p at_q e f = refl
declared_once n (x ∷ points) h zero (suc q) m y z at_p at_q e f =
    let same : x ≡ y = cc in absurd (never_again n points x h q m z at_q f (ap (λ w. local_begun w.action) same ∙ e))
declared_once n (x ∷ points) h (suc p) zero m y z at_p at_q e f =
    let same : x ≡ z = cc in absurd (never_again n points x h p m y at_p e (ap (λ w. local_begun w.action) same ∙ f))
declared_once n (x ∷ points) h (suc p) (suc q) m y z at_p at_q e f =
    ap suc (declared_once (n + begun_count (local_begun x.action)) points h.1 p q m y z at_p at_q e f)

-- What is found is there, and passes.
abbrev Found : {A : Type 0} → (A → Bool) → List A → A → Type 0
Found test xs x = (find test xs ≡ Some x) × (test x ≡ true)

find_step : {A : Type 0} (test : A → Bool) (x : A) (xs : List A) → ((z : A) × Found test xs z) → (z : A) × Found test (x ∷ xs) z
find_step {A = A} test x xs later = by (test x) refl
  where
    by : (b : Bool) → test x ≡ b → (z : A) × Found test (x ∷ xs) z
    by true e = (x, (rw e refl, e))
    by false e = (later.0, (rw e later.1.0, later.1.1))

find_here : {A : Type 0} (test : A → Bool) (x : A) (xs : List A) → test x ≡ true → (z : A) × Found test (x ∷ xs) z
find_here test x xs e = (x, (rw e refl, e))

finds : {A : Type 0} (test : A → Bool) (xs : List A) (p : ℕ) (y : A) → slice_get xs p ≡ Some y → test y ≡ true → (z : A) × Found test xs z
finds test [] p y at e = absurd cc
finds test (x ∷ xs) zero y at e = let same : x ≡ y = cc in find_here test x xs (ap test same ∙ e)
finds test (x ∷ xs) (suc p) y at e = find_step test x xs (finds test xs p y at e)

begun_begins : (n : ℕ) (x : Point) → local_begun x.action ≡ Some n → begins n x ≡ true
begun_begins n x e = rw e (itself n)

begins_begun : (n : ℕ) (x : Point) → begins n x ≡ true → local_begun x.action ≡ Some n
begins_begun n x e = by (local_begun x.action) refl e
  where
    by : (o : Option ℕ) → local_begun x.action ≡ o → begins n x ≡ true → local_begun x.action ≡ Some n
    by None f g = let none : begins n x ≡ false = rw f refl in never (sym g ∙ none)
    by (Some m) f g = let same : nat_eq m n ≡ true = sym (rw f refl) ∙ g in f ∙ ap (λ k. Some k) (eqb-true m n same)

pub declared_at_point : (f : Function) (m : ℕ) → AreInOrder m (points_of f) → (p n : ℕ) (y : Point) → slice_get (points_of f) p ≡ Some y
    → local_begun y.action ≡ Some n
    → declaration_of f n ≡ p
declared_at_point f m order p n y at e =
    let x = finds (begins n) (points_of f) p y at (begun_begins n y e) in
    declared_once m (points_of f) order (declaration_of f n) p n x.0 y (sym (find_at (begins n) (points_of f)) ∙ x.1.0) at (begins_begun n x.0 x.1.1) e

-- a number that is listed is found
find_number : (n : ℕ) (xs : List ℕ) → list_any (nat_eq n) xs ≡ true → find (nat_eq n) xs ≡ Some n
find_number n [] h = never (sym h)
find_number n (x ∷ xs) h = by (nat_eq n x) refl h (find_number n xs)
  where
    by : (b : Bool) → nat_eq n x ≡ b → list_any (nat_eq n) (x ∷ xs) ≡ true → (list_any (nat_eq n) xs ≡ true → find (nat_eq n) xs ≡ Some n)
        → find (nat_eq n) (x ∷ xs) ≡ Some n
    by true e g later = let same : n ≡ x = eqb-true n x e in rw e (ap (λ k. Some k) (sym same))
    by false e g later = rw e (later (rw e at g))

tried_begins : (u : Program) (x : Point) (n : ℕ) → is_a_try u x.call ≡ true → local_begun x.action ≡ Some n → try_variable_at u x ≡ Some n
tried_begins u x n t e = ap (λ b. if b then local_begun x.action else None) t ∙ e

pub try_numbered : (u : Program) (f : Function) (p n : ℕ) (y : Point) → slice_get (points_of f) p ≡ Some y → is_a_try u y.call ≡ true → local_begun y.action ≡ Some n
    → slice_get (try_variables u f) (try_number u f n) ≡ Some n
try_numbered u f p n y at t e =
    sym (find_at (nat_eq n) (try_variables u f)) ∙ find_number n (try_variables u f) (listed u (points_of f) p y n at (tried_begins u y n t e))

-- A try variable is one that a point declares with a call of a try.
pub from_filter : {A B : Type 0} (f : A → Option B) (xs : List A) (w : ℕ) (b : B) → slice_get (filter_map f xs) w ≡ Some b
    → (p : ℕ) × ((x : A) × ((slice_get xs p ≡ Some x) × (f x ≡ Some b)))
from_filter f [] w b e = absurd cc
from_filter {A = A} {B = B} f (x ∷ xs) w b e = by (f x) refl w e (λ v h. from_filter f xs v b h)
  where
    by : (o : Option B) → f x ≡ o → (w : ℕ) → slice_get (cons_option o (filter_map f xs)) w ≡ Some b
        → ((v : ℕ) → slice_get (filter_map f xs) v ≡ Some b → (p : ℕ) × ((y : A) × ((slice_get xs p ≡ Some y) × (f y ≡ Some b))))
        → (p : ℕ) × ((y : A) × ((slice_get (x ∷ xs) p ≡ Some y) × (f y ≡ Some b)))
    by None is w h deeper = let z = deeper w h in (suc z.0, z.1)
    by (Some c) is zero h deeper = let same : c ≡ b = cc in (0, (x, (refl, is ∙ ap (λ y. Some y) same)))
    by (Some c) is (suc w) h deeper = let z = deeper w h in (suc z.0, z.1)

pub tried_and_begun : (b : Bool) (o : Option ℕ) (m : ℕ) → (if b then o else None) ≡ Some m → (b ≡ true) × (o ≡ Some m)
tried_and_begun true o m e = (refl, e)
tried_and_begun false o m e = absurd cc

pub other_variable : (u : Program) (f : Function) (k : ℕ) → AreInOrder k (points_of f) → (p n : ℕ) (y : Point) → slice_get (points_of f) p ≡ Some y
    → local_begun y.action ≡ Some n
    → (w m : ℕ) → slice_get (try_variables u f) w ≡ Some m → (nat_eq m n ≡ false) ⊎ ((is_a_try u y.call ≡ true) × (m ≡ n))
other_variable u f k order p n y at e w m there = by (nat_eq m n) refl
  where
    by : (b : Bool) → nat_eq m n ≡ b → (nat_eq m n ≡ false) ⊎ ((is_a_try u y.call ≡ true) × (m ≡ n))
    by false h = inl h
    by true h =
        let same : m ≡ n = eqb-true m n h in
        let x = from_filter (try_variable_at u) (points_of f) w m there in
        let t = tried_and_begun (is_a_try u x.1.0.call) (local_begun x.1.0.action) m x.1.1.1 in
        let one = declared_once k (points_of f) order x.0 p n x.1.0 y x.1.1.0 at (t.1 ∙ ap (λ z. Some z) same) e in
        let both : Some x.1.0 ≡ Some y = sym x.1.1.0 ∙ ap (λ q. slice_get (points_of f) q) one ∙ at in
        let equal : x.1.0 ≡ y = some_same both in
        inr (sym (ap (λ z. is_a_try u z.call) equal) ∙ t.0, same)
