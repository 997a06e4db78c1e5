-- Lists that grow from after, and outcomes after those that were there before.
use Rattle.std.proofs.Common.{ℕ, ◌≡◌, ◌≤◌, ◌∙◌, ap, sym, refl, Bool, true, false, List, [], ◌∷◌, ◌++◌, length, map, take, arith, Ok, Err}
use Rattle.std.proofs.lemmas.List.{length-take, take-append-le}
use Rattle.tsa_grammar.specs.Reading.{Outcome, then, choose}
use Rattle.tsa_attr.proofs.Joining.{append-nil, append-append}
use Rattle.tsa_decl_declarators.specs.Outcomes.{after}

-- one more at the end
pub map-push : {A B : Type 0} (f : A → B) (xs : List A) (x : A) → map f (xs ++ x ∷ []) ≡ map f xs ++ f x ∷ []
map-push f [] x = refl
map-push f (y ∷ xs) x = ap (λ ys. f y ∷ ys) (map-push f xs x)

-- several more at the end
pub map-append : {A B : Type 0} (f : A → B) (xs ys : List A) → map f (xs ++ ys) ≡ map f xs ++ map f ys
map-append f [] ys = refl
map-append f (x ∷ xs) ys = ap (λ l. f x ∷ l) (map-append f xs ys)

pub after-nothing : {A : Type 0} (r : Outcome (List A)) → after [] r ≡ r
unfolding then
after-nothing (Ok p) = refl
after-nothing (Err e) = refl

pub after-ok : {A : Type 0} (front xs : List A) (n : ℕ) → after front (Ok (xs, n)) ≡ Ok (front ++ xs, n)
unfolding then
after-ok front xs n = refl

pub after-none : {A : Type 0} (front : List A) (n : ℕ) → after front (Ok ([], n)) ≡ Ok (front, n)
unfolding then
after-none front n = ap (λ xs. Ok (xs, n)) (append-nil front)

pub after-after : {A : Type 0} (front xs : List A) (r : Outcome (List A)) → after front (after xs r) ≡ after (front ++ xs) r
unfolding then
after-after front xs (Ok p) = ap (λ ys. Ok (ys, p.1)) (sym (append-append front xs p.0))
after-after front xs (Err e) = refl

-- what is read after one part, after what was there before
pub after-over : {A B : Type 0} (front : List B) (r : Outcome A) (f : A → ℕ → Outcome (List B))
    → after front (then r f) ≡ then r (λ x n. after front (f x n))
unfolding then
after-over front (Ok p) f = refl
after-over front (Err e) f = refl

-- what follows the nodes of a part follows those that were there before and them
pub after-then : {A : Type 0} (front : List A) (r : Outcome (List A)) (f go : List A → ℕ → Outcome (List A))
    → ((xs : List A) (n : ℕ) → after front (f xs n) ≡ go (front ++ xs) n) → after front (then r f) ≡ then (after front r) go
unfolding then
after-then front (Ok p) f go h = h p.0 p.1
after-then front (Err e) f go h = refl

pub after-choose : {A : Type 0} (front : List A) (b : Bool) (x y : Outcome (List A))
    → after front (choose b x y) ≡ choose b (after front x) (after front y)
unfolding choose
after-choose front true x y = refl
after-choose front false x y = refl

-- one node more, and then those that follow it
pub after-more : {A : Type 0} (front : List A) (x : A) (r : Outcome (List A))
    → after front (then r (λ xs e. Ok (x ∷ xs, e))) ≡ after (front ++ x ∷ []) r
unfolding then
after-more front x (Ok p) = ap (λ ys. Ok (ys, p.1)) (sym (append-append front (x ∷ []) p.0))
after-more front x (Err e) = refl

-- one more at the end leaves the first part of a list as it was
pub front_more : {X : Type 0} (old now new : List X) (x : X) → new ≡ now ++ x ∷ [] → take (length old) now ≡ old → take (length old) new ≡ old
front_more old now new x q h =
    let within : length old ≤ length now = omega (arith, ap length h, length-take (length old) now) in
    ap (take (length old)) q ∙ take-append-le (length old) now (x ∷ []) within ∙ h
