-- Lists of edges into points.
use Rattle.std.proofs.Common.{◌≡◌, ◌∙◌, ℕ, zero, suc, ◌<◌, arith, List, [], ◌∷◌, ◌++◌, map, length, get_or, set, refl, ap, ap₂}
use Rattle.std.proofs.lemmas.List.{length-map}

map_set : {A B : Type 0} (f : A → B) (xs : List A) (i : ℕ) (y : A) → map f (set xs i y) ≡ set (map f xs) i (f y)
map_set f [] i y = refl
map_set f (x ∷ xs) zero y = refl
map_set f (x ∷ xs) (suc i) y = ap (λ zs. f x ∷ zs) (map_set f xs i y)

pub map_get : {A B : Type 0} (f : A → B) (xs : List A) (i : ℕ) (d : A) (c : B) → i < length xs → f (get_or xs i d) ≡ get_or (map f xs) i c
map_get f [] i d c h = let no : ⊥ = omega (arith, h) in absurd no
map_get f (x ∷ xs) zero d c h = refl
map_get f (x ∷ xs) (suc i) d c h = map_get f xs i d c (omega (arith, h))

-- a further edge in the list of a point
pub put_in : {A B : Type 0} (f : A → List B) (xs : List A) (now : List (List B)) (i : ℕ) (x y : A) (e : B) → map f xs ≡ now → i < length xs → x ≡ get_or xs i x
    → f y ≡ f x ++ e ∷ [] → map f (set xs i y) ≡ set now i (get_or now i [] ++ e ∷ [])
put_in f xs now i x y e is within at made =
    map_set f xs i y ∙ ap₂ (λ zs z. set zs i z) is (made ∙ ap (λ z. z ++ e ∷ []) (ap f at ∙ map_get f xs i x [] within ∙ ap (λ zs. get_or zs i []) is))

-- a further element in one of some lists, by what is seen of them
pub note_in : {A B : Type 0} (f : A → List B) (xs : List A) (now : List (List B)) (i : ℕ) (x y : A) (e : B) → map f xs ≡ now → i < length now → x ≡ get_or xs i x
    → f y ≡ f x ++ e ∷ [] → map f (set xs i y) ≡ set now i (get_or now i [] ++ e ∷ [])
note_in f xs now i x y e is within at made =
    let s = ap length is in
    let l = length-map xs f in put_in f xs now i x y e is (omega (arith, s, l, within)) at made
