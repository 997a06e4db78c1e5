-- Lists whose parts are mapped.
use Rattle.std.proofs.Common.{◌≡◌, ◌∙◌, ℕ, zero, suc, List, [], ◌∷◌, ◌++◌, length, map, Some, option_map, slice_get, slice_set, refl, sym}
use Rattle.std.proofs.Common.{ap}
use Rattle.tsa_core.proofs.TypedTerms.{some_same}

pub map_append : {A B : Type 0} (f : A → B) (xs ys : List A) → map f (xs ++ ys) ≡ map f xs ++ map f ys
map_append f [] ys = refl
map_append f (x ∷ xs) ys = ap (λ zs. f x ∷ zs) (map_append f xs ys)

pub map_length : {A B : Type 0} (f : A → B) (xs : List A) → length (map f xs) ≡ length xs
map_length f [] = refl
map_length f (x ∷ xs) = ap suc (map_length f xs)

pub map_set : {A B : Type 0} (f : A → B) (xs : List A) (n : ℕ) (x y : A) → slice_get xs n ≡ Some x → f y ≡ f x → map f (slice_set xs n y) ≡ map f xs
map_set f [] zero x y e same = absurd cc
map_set f [] (suc n) x y e same = absurd cc
map_set f (z ∷ xs) zero x y e same = ap (λ w. w ∷ map f xs) (same ∙ sym (ap f (some_same e)))
map_set f (z ∷ xs) (suc n) x y e same = ap (λ ws. f z ∷ ws) (map_set f xs n x y e same)

pub map_at : {A B : Type 0} (f : A → B) (xs : List A) (i : ℕ) → slice_get (map f xs) i ≡ option_map f (slice_get xs i)
map_at f [] zero = refl
map_at f [] (suc i) = refl
map_at f (x ∷ xs) zero = refl
map_at f (x ∷ xs) (suc i) = map_at f xs i

pub map_front : {A B : Type 0} (f : A → B) (xs : List A) (ys : List B) (j : ℕ) (x : A) → slice_get xs j ≡ Some x → slice_get (map f xs ++ ys) j ≡ Some (f x)
map_front f [] ys zero x e = absurd cc
map_front f [] ys (suc j) x e = absurd cc
map_front f (y ∷ xs) ys zero x e = ap (λ z. Some (f z)) (some_same e)
map_front f (y ∷ xs) ys (suc j) x e = map_front f xs ys j x e
