-- Lanes are put behind those of points, in order.
use Rattle.std.proofs.Common.{◌≡◌, ◌∙◌, ℕ, zero, suc, ◌+◌, ◌-◌, ◌<◌, ◌≤◌, inl, inr, List, [], ◌∷◌, ◌++◌, length, get_or, set, take}
use Rattle.std.proofs.Common.{replicate, All, Contains, Some, slice_get, refl, sym, ap, subst, arith, length-append, length-set}
use Rattle.std.proofs.Common.{get_or-set_same, get_or-set_other}
use Rattle.std.proofs.Math.Decide.{dec_lt, ℕ_discrete}
use Rattle.std.proofs.Math.Seq.{get_or-append_seam}
use Rattle.std.proofs.lemmas.List.{get_or_append_left, length-replicate, set_past, take_more}
use Rattle.std.proofs.lemmas.List.Elements.{All-get_or, All-nil, All-push, All-weaker, Contains-append_left, Contains-push}
use Rattle.std.proofs.lemmas.List.Elements.{Contains-push_cases}
use Rattle.std.proofs.lemmas.Option.{get_or_from_slice_get, slice_get-get_or, slice_get_within}
use Rattle.tsa_flow_solver.specs.Rows.{AreRising}
use Rattle.tsa_flow_function.specs.ClaimLanes.{AreLanesAt, HasLane, HaveLanes, IsOpen, list_at}

-- one number more, which is above all
rising_more : (xs : List ℕ) (lane : ℕ) → AreRising xs → All (λ l. l ≤ lane) xs → ((k : ℕ) → k + 1 ≡ length xs → get_or xs k 0 ≡ lane → ⊥) → AreRising (xs ++ lane ∷ [])
rising_more xs lane rising low differs i j less inside = elim (dec_lt j (length xs)) [
  | yes within ↦ (
      let left : get_or (xs ++ lane ∷ []) i 0 ≡ get_or xs i 0 = get_or_append_left xs (lane ∷ []) 0 i (omega (arith, less, within)) in
      let right : get_or (xs ++ lane ∷ []) j 0 ≡ get_or xs j 0 = get_or_append_left xs (lane ∷ []) 0 j within in
      let under : get_or xs i 0 < get_or xs j 0 = rising i j less within in
      omega (arith, left, right, under))
  | no beyond ↦ (
      let count : length (xs ++ lane ∷ []) ≡ length xs + 1 = length-append xs (lane ∷ []) in
      let last : j ≡ length xs = omega (arith, inside, count, beyond) in
      let there : i < length xs = omega (arith, less, last) in
      let left : get_or (xs ++ lane ∷ []) i 0 ≡ get_or xs i 0 = get_or_append_left xs (lane ∷ []) 0 i there in
      let right : get_or (xs ++ lane ∷ []) j 0 ≡ lane = ap (λ k. get_or (xs ++ lane ∷ []) k 0) last ∙ get_or-append_seam xs lane [] 0 in
      let under : get_or xs i 0 < lane = below i there in
      omega (arith, left, right, under))
]
  where
    below : (i : ℕ) → i < length xs → get_or xs i 0 < lane
    below i there = elim (ℕ_discrete (i + 1) (length xs)) [
      | yes e ↦ (
          let most : get_or xs i 0 ≤ lane = All-get_or (λ l. l ≤ lane) xs i 0 there low in
          elim (ℕ_discrete (get_or xs i 0) lane) [ yes same ↦ absurd (differs i e same) | no other ↦ omega (arith, most, other) ])
      | no e ↦ (
          let k : ℕ = length xs - 1 in
          let inside' : length xs - 1 < length xs = omega (arith, there) in
          let under : get_or xs i 0 < get_or xs (length xs - 1) 0 = rising i (length xs - 1) (omega (arith, there, e)) inside' in
          let most : get_or xs (length xs - 1) 0 ≤ lane = All-get_or (λ l. l ≤ lane) xs (length xs - 1) 0 inside' low in
          omega (arith, under, most))
    ]

only : (q p : ℕ) → Contains (q ∷ []) p → q ≡ p
only q p (i, inside, is) = let first : i ≡ 0 = omega (arith, inside) in sym (ap (λ k. get_or (q ∷ []) k p) first) ∙ is

-- a lane that stands there last
pub stands_last : (point lane : ℕ) (lists : List (List ℕ)) → IsOpen lane lists → slice_get (list_at lists point) (length (list_at lists point) - 1) ≡ Some lane → HasLane point lane lists lists
stands_last point lane lists fits is = record {
  long = refl;
  fits = fits;
  keeps = λ p l h. h;
  has = λ p among within. subst (λ q. Contains (list_at lists q) lane) (only point p among)
      (length (list_at lists point) - 1, slice_get_within (list_at lists point) (length (list_at lists point) - 1) lane is, get_or_from_slice_get (list_at lists point) (length (list_at lists point) - 1) lane lane is);
}

-- and one that doesn't
module _ (point lane : ℕ) (lists : List (List ℕ)) (fits : IsOpen lane lists) (differs : (k : ℕ) → k + 1 ≡ length (list_at lists point) → get_or (list_at lists point) k 0 ≡ lane → ⊥) where
  abbrev new : List (List ℕ)
  new = set lists point (list_at lists point ++ lane ∷ [])

  inside_there : point < length lists → list_at new point ≡ list_at lists point ++ lane ∷ []
  inside_there within = get_or-set_same lists point (list_at lists point ++ lane ∷ []) [] within

  fits_at : (p : ℕ) → AreRising (list_at new p) × All (λ l. l ≤ lane) (list_at new p)
  fits_at p = elim (dec_lt point (length lists)) [
    | yes within ↦ elim (ℕ_discrete p point) [
      | yes e ↦ subst (λ q. AreRising (list_at new q) × All (λ l. l ≤ lane) (list_at new q)) (sym e)
          (subst (λ xs. AreRising xs × All (λ l. l ≤ lane) xs) (sym (inside_there within))
          (rising_more (list_at lists point) lane (fits point).0 (fits point).1 differs, All-push (λ l. l ≤ lane) (list_at lists point) lane (fits point).1 (omega arith)))
      | no other ↦ subst (λ xs. AreRising xs × All (λ l. l ≤ lane) xs) (sym (get_or-set_other lists point p (list_at lists point ++ lane ∷ []) [] other)) (fits p)
    ]
    | no beyond ↦ subst (λ ls. AreRising (list_at ls p) × All (λ l. l ≤ lane) (list_at ls p)) (sym (set_past lists point (list_at lists point ++ lane ∷ []) (omega (arith, beyond)))) (fits p)
  ]

  keeps_at : (p l : ℕ) → Contains (list_at lists p) l → Contains (list_at new p) l
  keeps_at p l h = elim (dec_lt point (length lists)) [
    | yes within ↦ elim (ℕ_discrete p point) [
      | yes e ↦ subst (λ q. Contains (list_at new q) l) (sym e) (subst (λ xs. Contains xs l) (sym (inside_there within))
          (Contains-append_left (list_at lists point) (lane ∷ []) l (subst (λ q. Contains (list_at lists q) l) e h)))
      | no other ↦ subst (λ xs. Contains xs l) (sym (get_or-set_other lists point p (list_at lists point ++ lane ∷ []) [] other)) h
    ]
    | no beyond ↦ subst (λ ls. Contains (list_at ls p) l) (sym (set_past lists point (list_at lists point ++ lane ∷ []) (omega (arith, beyond)))) h
  ]

  pub put_last : HasLane point lane lists new
  put_last = record {
    long = length-set lists point (list_at lists point ++ lane ∷ []);
    fits = fits_at;
    keeps = keeps_at;
    has = λ p among within. subst (λ q. Contains (list_at new q) lane) (only point p among)
        (subst (λ xs. Contains xs lane) (sym (inside_there (subst (λ q. q < length lists) (sym (only point p among)) within))) (Contains-push (list_at lists point) lane));
  }

-- where the last one is another, no last one is the lane
pub last_differs : (xs : List ℕ) (lane : ℕ) → (slice_get xs (length xs - 1) ≡ Some lane → ⊥) → (k : ℕ) → k + 1 ≡ length xs → get_or xs k 0 ≡ lane → ⊥
last_differs xs lane other k end e =
    let same : length xs - 1 ≡ k = omega (arith, end) in
    let inside : length xs - 1 < length xs = omega (arith, end) in
    other (slice_get-get_or xs (length xs - 1) 0 inside ∙ ap Some (ap (λ i. get_or xs i 0) same ∙ e))

-- lanes of points, one by one
pub no_lanes : (lane : ℕ) (lists : List (List ℕ)) → IsOpen lane lists → HaveLanes [] lane lists lists
no_lanes lane lists fits = record { long = refl; fits = fits; keeps = λ p l h. h; has = λ p among within. absurd (omega (arith, among.1)) }

pub one_lane_more : (points : List ℕ) (i lane : ℕ) (old mid new : List (List ℕ)) → i < length points → HaveLanes (take i points) lane old mid → HasLane (get_or points i 0) lane mid new
    → HaveLanes (take (i + 1) points) lane old new
one_lane_more points i lane old mid new there first second = record {
  long = second.long ∙ first.long;
  fits = second.fits;
  keeps = λ p l h. second.keeps p l (first.keeps p l h);
  has = λ p among within. elim (Contains-push_cases (take i points) (get_or points i 0) p (subst (λ ys. Contains ys p) (take_more points i 0 there) among)) [
    | inl before ↦ second.keeps p lane (first.has p before within)
    | inr now ↦ second.has p (0, omega arith, now) (subst (λ n. p < n) (sym first.long) within)
  ];
}

-- and lanes one by one
pub record AreLanesUpto (points upto : ℕ) (claims : List (List ℕ)) (caps : List ℕ) (lists : List (List ℕ)) : Type 0 where
  pub long : length lists ≡ points
  pub fits : IsOpen upto lists
  pub all : (lane p : ℕ) → lane < upto → p < points → Contains (list_at claims (get_or caps lane 0)) p → Contains (list_at lists p) lane

empty_at : (n p : ℕ) → list_at (replicate n []) p ≡ []
empty_at zero p = refl
empty_at (suc n) zero = refl
empty_at (suc n) (suc p) = empty_at n p

none_rising : AreRising []
none_rising i j less inside = absurd (omega (arith, inside))

pub none_upto : (points : ℕ) (claims : List (List ℕ)) (caps : List ℕ) → AreLanesUpto points 0 claims caps (replicate points [])
none_upto points claims caps = record {
  long = length-replicate points [];
  fits = λ p. subst (λ xs. AreRising xs × All (λ l. l ≤ 0) xs) (sym (empty_at points p)) (none_rising, All-nil (λ l. l ≤ 0));
  all = λ lane p less. absurd (omega (arith, less));
}

pub one_upto : (points lane : ℕ) (claims : List (List ℕ)) (caps : List ℕ) (old new : List (List ℕ)) → AreLanesUpto points lane claims caps old
    → HaveLanes (list_at claims (get_or caps lane 0)) lane old new → AreLanesUpto points (lane + 1) claims caps new
one_upto points lane claims caps old new before more = record {
  long = more.long ∙ before.long;
  fits = λ p. ((more.fits p).0, All-weaker (λ l. l ≤ lane) (λ l. l ≤ lane + 1) (λ l low. omega (arith, low)) (list_at new p) (more.fits p).1);
  all = λ l p less within among. elim (ℕ_discrete l lane) [
    | yes e ↦ subst (Contains (list_at new p)) (sym e) (more.has p (subst (λ k. Contains (list_at claims (get_or caps k 0)) p) e among) (subst (λ n. p < n) (sym before.long) within))
    | no other ↦ more.keeps p l (before.all l p (omega (arith, less, other)) within among)
  ];
}

pub all_upto : (points : ℕ) (claims : List (List ℕ)) (caps : List ℕ) (lists : List (List ℕ)) → AreLanesUpto points (length caps) claims caps lists → AreLanesAt points claims caps lists
all_upto points claims caps lists h = record { rising = λ p. (h.fits p).0; all = h.all }
