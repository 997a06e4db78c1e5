-- Two lists that have the same, each before all that are told after it, are one list.
use Rattle.std.proofs.Common.{◌≡◌, zero, suc, arith, List, [], ◌∷◌, Contains, refl, sym, ap₂, subst}
use Rattle.std.specs.List.{AllPairs}

module _ {X : Type 0} (R : X → X → Type 0) where
  first_of : (x : X) (xs : List X) → AllPairs R (x ∷ xs) → (y : X) → Contains xs y → R x y
  first_of x xs sorted y (k, less, is) = subst (R x) is (sorted zero (suc k) y (omega arith) (omega (arith, less)))

  rest_of : (x : X) (xs : List X) → AllPairs R (x ∷ xs) → AllPairs R xs
  rest_of x xs sorted i j d i_j less = sorted (suc i) (suc j) d (omega (arith, i_j)) (omega (arith, less))

  pub data IsAmong (x y : X) (xs : List X) : Type 0 where
    it : y ≡ x → IsAmong x y xs
    later : Contains xs y → IsAmong x y xs

  among : (x : X) (xs : List X) (y : X) → Contains (x ∷ xs) y → IsAmong x y xs
  among x xs y (zero, less, is) = it (sym is)
  among x xs y (suc k, less, is) = later (k, omega (arith, less), is)

  here : (x : X) (xs : List X) → Contains (x ∷ xs) x
  here x xs = (zero, omega arith, refl)

  there : (x : X) (xs : List X) (y : X) → Contains xs y → Contains (x ∷ xs) y
  there x xs y (k, less, is) = (suc k, omega (arith, less), is)

  none_there : {A : Type 0} (y : X) → Contains [] y → A
  none_there y (k, less, is) = absurd (omega (arith, less))

  module _ (asymmetric : (x y : X) → R x y → R y x → ⊥) where
    -- the first ones are the same
    first_same : (x y : X) (xs ys : List X) → AllPairs R (x ∷ xs) → AllPairs R (y ∷ ys) → Contains (y ∷ ys) x → Contains (x ∷ xs) y → x ≡ y
    first_same x y xs ys s t has_x has_y = by (among y ys x has_x) (among x xs y has_y)
      where
        by : IsAmong y x ys → IsAmong x y xs → x ≡ y
        by (it is) other = is
        by (later in_ys) (it is) = sym is
        by (later in_ys) (later in_xs) = absurd (asymmetric y x (first_of y ys t x in_ys) (first_of x xs s y in_xs))

    -- what stands behind the one stands behind the other
    behind : (x : X) (xs ys : List X) → AllPairs R (x ∷ xs) → ((z : X) → Contains (x ∷ xs) z → Contains (x ∷ ys) z) → (z : X) → Contains xs z → Contains ys z
    behind x xs ys s to z in_xs = by (among x ys z (to z (there x xs z in_xs)))
      where
        by : IsAmong x z ys → Contains ys z
        by (later in_ys) = in_ys
        by (it is) = let r : R x x = subst (R x) is (first_of x xs s z in_xs) in absurd (asymmetric x x r r)

    pub sorted_once : (xs ys : List X) → AllPairs R xs → AllPairs R ys → ((z : X) → Contains xs z → Contains ys z) → ((z : X) → Contains ys z → Contains xs z) → xs ≡ ys
    sorted_once [] [] s t to from = refl
    sorted_once [] (y ∷ ys) s t to from = none_there y (from y (here y ys))
    sorted_once (x ∷ xs) [] s t to from = none_there x (to x (here x xs))
    sorted_once (x ∷ xs) (y ∷ ys) s t to from =
        let same = first_same x y xs ys s t (to x (here x xs)) (from y (here y ys)) in
        let to_x = subst (λ v. (z : X) → Contains (x ∷ xs) z → Contains (v ∷ ys) z) (sym same) to in
        let from_x = subst (λ v. (z : X) → Contains (v ∷ ys) z → Contains (x ∷ xs) z) (sym same) from in
        let t_x = subst (λ v. AllPairs R (v ∷ ys)) (sym same) t in
        ap₂ (λ v vs. v ∷ vs) same (sorted_once xs ys (rest_of x xs s) (rest_of y ys t) (behind x xs ys s to_x) (behind x ys xs t_x from_x))
