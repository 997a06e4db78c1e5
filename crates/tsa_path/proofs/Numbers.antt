-- What a table of paths keeps.
use Rattle.std.proofs.Common.{◌≡◌, ◌∙◌, ℕ, zero, suc, ◌+◌, ◌≤◌, arith, nat_le, Bool, true, false, not, ◌&&◌, ◌||◌, if◌then◌else◌, List, []}
use Rattle.std.proofs.Common.{◌∷◌, ◌++◌, length, Some, None, slice_get, ◌⊎◌, inl, inr, ap, refl, sym}
use Rattle.std.proofs.lemmas.Bool.Decides.{nat_tests}
use Rattle.std.proofs.lemmas.List.{length-append}
use Rattle.tsa_place_model.specs.Ways.{Way}
use Rattle.tsa_path.specs.Sameness.{same_way}
use Rattle.tsa_path.specs.PathTables.{path_limit, is_known, number_of, AreDifferent, TableHoldsDifferentPaths, TableStaysWithinItsLimit}
use Rattle.tsa_path.specs.PathTables.{NumbersStay}
use Rattle.tsa_path.proofs.PathsApart.{way_equal, way_itself}

never : {A : Type 0} → true ≡ false → A
never e = cc

nothing : {A : Type 0} {x : Way} → None ≡ Some x → A
nothing e = cc

the_same : {v w : Way} → Some v ≡ Some w → v ≡ w
the_same e = cc

-- a path that stands somewhere is known
stands_known : (ways : List Way) (w : Way) (n : ℕ) → slice_get ways n ≡ Some w → is_known ways w ≡ true
stands_known [] w n e = nothing e
stands_known (v ∷ ways) w zero e = ap (λ b. b || is_known ways w) (ap (same_way w) (the_same e) ∙ way_itself w)
stands_known (v ∷ ways) w (suc n) e = either (same_way w v) (is_known ways w) (stands_known ways w n e)
  where
    either : (a b : Bool) → b ≡ true → (a || b) ≡ true
    either true b e = refl
    either false b e = e

-- behind one more
after : (ways : List Way) (v w : Way) (n : ℕ) → slice_get ways n ≡ Some w → slice_get (v ∷ ways) (1 + n) ≡ Some w
after ways v w n there = let one : 1 + n ≡ suc n = omega arith in ap (slice_get (v ∷ ways)) one ∙ there

-- it stands at its number
known_stands : (ways : List Way) (w : Way) → is_known ways w ≡ true → slice_get ways (number_of ways w) ≡ Some w
known_stands [] w e = never (sym e)
known_stands (v ∷ ways) w e = by (same_way w v) refl (known_stands ways w) e
  where
    by : (b : Bool) → same_way w v ≡ b → (is_known ways w ≡ true → slice_get ways (number_of ways w) ≡ Some w) → (b || is_known ways w) ≡ true
        → slice_get (v ∷ ways) (number_of (v ∷ ways) w) ≡ Some w
    by true same go e = rw same (ap Some (sym (way_equal w v same)))
    by false same go e = rw same (after ways v w (number_of ways w) (go e))

-- a new one stands behind all others
new_stands : (ways : List Way) (w : Way) → is_known ways w ≡ false → slice_get (ways ++ w ∷ []) (number_of ways w) ≡ Some w
new_stands [] w e = refl
new_stands (v ∷ ways) w e = by (same_way w v) refl (new_stands ways w) e
  where
    by : (b : Bool) → same_way w v ≡ b → (is_known ways w ≡ false → slice_get (ways ++ w ∷ []) (number_of ways w) ≡ Some w) → (b || is_known ways w) ≡ false
        → slice_get (v ∷ ways ++ w ∷ []) (number_of (v ∷ ways) w) ≡ Some w
    by true same go e = never e
    by false same go e = rw same (after (ways ++ w ∷ []) v w (number_of ways w) (go e))

-- with a further one what stands somewhere stays there
stays_before : (ways : List Way) (v w : Way) (n : ℕ) → slice_get ways n ≡ Some w → slice_get (ways ++ v ∷ []) n ≡ Some w
stays_before [] v w n e = nothing e
stays_before (x ∷ ways) v w zero e = e
stays_before (x ∷ ways) v w (suc n) e = stays_before ways v w n e

-- and what stands there stood there before, or is the further one
stood : (ways : List Way) (v w : Way) (n : ℕ) → slice_get (ways ++ v ∷ []) n ≡ Some w → (slice_get ways n ≡ Some w) ⊎ ((n ≡ length ways) × (v ≡ w))
stood [] v w zero e = inr (refl, the_same e)
stood [] v w (suc n) e = nothing e
stood (x ∷ ways) v w zero e = inl e
stood (x ∷ ways) v w (suc n) e = behind (stood ways v w n e)
  where
    behind : (slice_get ways n ≡ Some w) ⊎ ((n ≡ length ways) × (v ≡ w)) → (slice_get ways n ≡ Some w) ⊎ ((suc n ≡ suc (length ways)) × (v ≡ w))
    behind (inl there) = inl there
    behind (inr last) = inr (ap suc last.0, last.1)

unknown : {A : Type 0} (ways : List Way) (v w : Way) (n : ℕ) → is_known ways v ≡ false → slice_get ways n ≡ Some w → v ≡ w → A
unknown ways v w n new there same = never (sym (stands_known ways w n there) ∙ ap (is_known ways) (sym same) ∙ new)

new_differs : (ways : List Way) (v : Way) → is_known ways v ≡ false → AreDifferent ways → AreDifferent (ways ++ v ∷ [])
new_differs ways v new differ i j w at_i at_j = by (stood ways v w i at_i) (stood ways v w j at_j)
  where
    by : (slice_get ways i ≡ Some w) ⊎ ((i ≡ length ways) × (v ≡ w)) → (slice_get ways j ≡ Some w) ⊎ ((j ≡ length ways) × (v ≡ w)) → i ≡ j
    by (inl a) (inl b) = differ i j w a b
    by (inl a) (inr b) = unknown ways v w i new a b.1
    by (inr a) (inl b) = unknown ways v w j new b a.1
    by (inr a) (inr b) = a.0 ∙ sym b.0

pub table_holds_different_paths : TableHoldsDifferentPaths
table_holds_different_paths ways w differ = by (is_known ways w) refl
  where
    by : (b : Bool) → is_known ways w ≡ b → AreDifferent (if b then ways else ways ++ w ∷ [])
    by true e = differ
    by false e = new_differs ways w e differ

pub table_stays_within : TableStaysWithinItsLimit
table_stays_within ways w few room = by (is_known ways w) room
  where
    more : length (ways ++ w ∷ []) ≡ length ways + 1
    more = length-append ways (w ∷ [])

    by : (b : Bool) → (not b && nat_le path_limit (length ways)) ≡ false → length (if b then ways else ways ++ w ∷ []) ≤ path_limit
    by true e = few
    by false e = grind (arith, nat_tests, e, few, more)

with_it : (ways : List Way) (w : Way) (b : Bool) → is_known ways w ≡ b → slice_get (if b then ways else ways ++ w ∷ []) (number_of ways w) ≡ Some w
with_it ways w true e = known_stands ways w e
with_it ways w false e = new_stands ways w e

with_another : (ways : List Way) (v w : Way) (n : ℕ) (b : Bool) → slice_get ways n ≡ Some w → slice_get (if b then ways else ways ++ v ∷ []) n ≡ Some w
with_another ways v w n true e = e
with_another ways v w n false e = stays_before ways v w n e

pub numbers_stay : NumbersStay
numbers_stay = record {
  stands = λ ways w. with_it ways w (is_known ways w) refl;
  known = λ ways w n e. ap (λ b. if b then ways else ways ++ w ∷ []) (stands_known ways w n e);
  stays = λ ways v w n e. with_another ways v w n (is_known ways v) e;
}
