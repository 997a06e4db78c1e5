-- Outcomes, one after another.
use Rattle.std.proofs.Common.{ℕ, ◌+◌, ◌≡◌, ap, sym, refl, Bool, true, false, List, [], ◌∷◌, ◌++◌, Ok, Err}
use Rattle.tsa_grammar.specs.Reading.{Outcome, refuse, syntax, deep, then, choose}
use Rattle.tsa_tree.specs.declared.attr.Attr.{Attr}
use Rattle.tsa_tree.specs.attributes.Syntax.{Attribute, attr_shape, attr_shapes}
use Rattle.tsa_attr.specs.Outcomes.{after}

pub then-then : {A B C : Type 0} (r : Outcome A) (f : A → ℕ → Outcome B) (go : B → ℕ → Outcome C) → then (then r f) go ≡ then r (λ x n. then (f x n) go)
unfolding then
then-then (Ok p) f go = refl
then-then (Err e) f go = refl

pub then-same : {A B : Type 0} (r : Outcome A) (f g : A → ℕ → Outcome B) → ((x : A) (n : ℕ) → f x n ≡ g x n) → then r f ≡ then r g
unfolding then
then-same (Ok p) f g h = h p.0 p.1
then-same (Err e) f g h = refl

pub then-choose : {A B : Type 0} (b : Bool) (x y : Outcome A) (go : A → ℕ → Outcome B) → then (choose b x y) go ≡ choose b (then x go) (then y go)
unfolding choose
then-choose true x y go = refl
then-choose false x y go = refl

pub then-ok : {A B : Type 0} (x : A) (n : ℕ) (go : A → ℕ → Outcome B) → then (Ok (x, n)) go ≡ go x n
unfolding then
then-ok x n go = refl

-- nothing is made
pub then-unit : (r : Outcome (Unit {0})) → then r (λ u e. Ok (tt, e)) ≡ r
unfolding then
then-unit (Ok p) = refl
then-unit (Err e) = refl

-- nothing is made up to a place
abbrev pub passed_at : ℕ → Outcome (Unit {0})
passed_at n = Ok (tt, n)

pub opens-law : {A : Type 0} (b c : Bool) (m : ℕ) (x y : Outcome A)
    → choose b (choose c (choose b x (Err (refuse syntax m))) (Err (refuse deep m))) (choose false y (Err (refuse syntax m)))
    ≡ then (choose b (choose c (passed_at (m + 1)) (Err (refuse deep m))) (Err (refuse syntax m))) (λ u n. x)
unfolding choose then
opens-law true true m x y = refl
opens-law true false m x y = refl
opens-law false c m x y = refl

pub token-law : {A : Type 0} (b : Bool) (m : ℕ) (x : Outcome A)
    → choose b x (Err (refuse syntax m)) ≡ then (choose b (passed_at (m + 1)) (Err (refuse syntax m))) (λ u n. x)
unfolding choose then
token-law true m x = refl
token-law false m x = refl

pub append-nil : {A : Type 0} (xs : List A) → xs ++ [] ≡ xs
append-nil [] = refl
append-nil (x ∷ xs) = ap (λ ys. x ∷ ys) (append-nil xs)

pub append-append : {A : Type 0} (xs ys zs : List A) → (xs ++ ys) ++ zs ≡ xs ++ (ys ++ zs)
append-append [] ys zs = refl
append-append (x ∷ xs) ys zs = ap (λ l. x ∷ l) (append-append xs ys zs)

pub shapes-push : (xs : List Attr) (x : Attr) → attr_shapes (xs ++ x ∷ []) ≡ attr_shapes xs ++ attr_shape x ∷ []
shapes-push [] x = refl
shapes-push (y ∷ xs) x = ap (λ ys. attr_shape y ∷ ys) (shapes-push xs x)

pub after-nothing : (r : Outcome (List Attribute)) → after [] r ≡ r
unfolding then
after-nothing (Ok p) = refl
after-nothing (Err e) = refl

-- what follows the attributes of a part follows those that were there before and them
pub after-then : (front : List Attribute) (r : Outcome (List Attribute)) (go : List Attribute → ℕ → Outcome (List Attribute))
    → ((xs : List Attribute) (n : ℕ) → after front (go xs n) ≡ go (front ++ xs) n) → after front (then r go) ≡ then (after front r) go
unfolding then
after-then front (Ok p) go h = h p.0 p.1
after-then front (Err e) go h = refl

pub after-after : (front xs : List Attribute) (r : Outcome (List Attribute)) → after front (after xs r) ≡ after (front ++ xs) r
unfolding then
after-after front xs (Ok p) = ap (λ ys. Ok (ys, p.1)) (sym (append-append front xs p.0))
after-after front xs (Err e) = refl

pub after-then-as : (front : List Attribute) (r : Outcome (List Attribute)) (f go : List Attribute → ℕ → Outcome (List Attribute))
    → ((xs : List Attribute) (n : ℕ) → after front (f xs n) ≡ go (front ++ xs) n) → after front (then r f) ≡ then (after front r) go
unfolding then
after-then-as front (Ok p) f go h = h p.0 p.1
after-then-as front (Err e) f go h = refl
