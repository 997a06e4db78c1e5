-- A path that guards what a point of a function reads or writes is among those of the function.
use Rattle.std.proofs.Common.{◌≡◌, ◌∙◌, ℕ, zero, suc, arith, Bool, true, false, ◌||◌, Contains, List, [], ◌∷◌, ◌++◌, length, map, Option}
use Rattle.std.proofs.Common.{Some, None, slice_get, refl, sym, ap, subst}
use Rattle.std.proofs.lemmas.List.Elements.{Contains-append_right, Contains-append_left, Contains-push}
use Rattle.std.proofs.lemmas.List.Folds.{list_any-append}
use Rattle.std.specs.List.{flat_map, list_any}
use Rattle.tsa_place_model.specs.Ways.{Way}
use Rattle.tsa_core.specs.Bodies.{Body, Point}
use Rattle.tsa_core.specs.Programs.{Function, Program}
use Rattle.tsa_core.specs.Uses.{Access, Uses}
use Rattle.tsa_core.proofs.KindTests.{or_left}
use Rattle.tsa_profile_points.specs.Ways.{each_once, present}
use Rattle.tsa_path.specs.Sameness.{same_way}
use Rattle.tsa_path.proofs.PathsApart.{way_equal}
use Rattle.tsa_profile.specs.Paths.{called, paths_of, point_ways, points_in, points_ways, ways_of}
use Rattle.tsa_profile.proofs.EachOnce.{comes}
use Rattle.tsa_rules.specs.Attributes.{is_path}
use Rattle.tsa_rules.specs.Points.{is_guarded_by, or_unused, uses_at}
use Rattle.tsa_base.proofs.Truths.{never, or_right}

at_contained : (ws : List Way) (n : ℕ) (w : Way) → slice_get ws n ≡ Some w → Contains ws w
at_contained [] zero w at = absurd cc
at_contained [] (suc n) w at = absurd cc
at_contained (v ∷ ws) zero w at =
    let same : v ≡ w = cc in subst (Contains (v ∷ ws)) same (Contains-append_left (v ∷ []) ws v (Contains-push [] v))
at_contained (v ∷ ws) (suc n) w at = Contains-append_right (v ∷ []) ws w (at_contained ws n w at)

module _ (c : Way) where
  abbrev among : List Way → Bool
  among ws = list_any (λ w. same_way w c) ws

  found : (ws : List Way) → among ws ≡ true → (k : ℕ) × (slice_get ws k ≡ Some c)
  found [] is = never (sym is)
  found (w ∷ ws) is = by (same_way w c) refl is (λ h. found ws h)
    where
      by : (b : Bool) → same_way w c ≡ b → (b || among ws) ≡ true → (among ws ≡ true → (k : ℕ) × (slice_get ws k ≡ Some c)) → (k : ℕ) × (slice_get (w ∷ ws) k ≡ Some c)
      by true same h deeper = (0, ap (λ x. Some x) (way_equal w c same))
      by false other h deeper = let x = deeper h in (suc x.0, x.1)

  among_left : (xs ys : List Way) → among xs ≡ true → among (xs ++ ys) ≡ true
  among_left xs ys h = list_any-append (λ w. same_way w c) xs ys ∙ or_left (among xs) (among ys) h

  among_right : (xs ys : List Way) → among ys ≡ true → among (xs ++ ys) ≡ true
  among_right xs ys h = list_any-append (λ w. same_way w c) xs ys ∙ or_right (among xs) (among ys) h

  -- paths where some stand and some don't, and accesses by their guards
  present_among : (ws : List (Option Way)) → among (present ws) ≡ list_any (is_path c) ws
  present_among [] = refl
  present_among (None ∷ ws) = present_among ws
  present_among (Some w ∷ ws) = ap (λ b. same_way w c || b) (present_among ws)

  guards_among : (accesses : List Access) → list_any (is_path c) (flat_map (λ a. a.guards) accesses) ≡ list_any (is_guarded_by c) accesses
  guards_among [] = refl
  guards_among (a ∷ accesses) =
      list_any-append (is_path c) a.guards (flat_map (λ x. x.guards) accesses) ∙ ap (λ b. list_any (is_path c) a.guards || b) (guards_among accesses)

  module _ (u : Program) where
    here_among : (x : Uses) (at : Point) → list_any (is_guarded_by c) (x.left ++ x.right) ≡ true → among (point_ways u x at) ≡ true
    here_among x at h =
        let guards = flat_map (λ a. a.guards) (x.left ++ x.right) in
        among_left (present guards) (present (called u x.arguments at.call)) (present_among guards ∙ guards_among (x.left ++ x.right) ∙ h)

    guarded_among : (uses : List Uses) (points : List Point) (p : ℕ) → length uses ≡ length points
        → list_any (is_guarded_by c) ((or_unused (slice_get uses p)).left ++ (or_unused (slice_get uses p)).right) ≡ true → among (points_ways u uses points) ≡ true
    guarded_among [] points zero beside h = never (sym h)
    guarded_among [] points (suc p) beside h = never (sym h)
    guarded_among (x ∷ uses) [] p beside h = absurd (omega (arith, beside))
    guarded_among (x ∷ uses) (at ∷ points) zero beside h = among_left (point_ways u x at) (points_ways u uses points) (here_among x at h)
    guarded_among (x ∷ uses) (at ∷ points) (suc p) beside h =
        among_right (point_ways u x at) (points_ways u uses points) (guarded_among uses points p (omega (arith, beside)) h)

    pub guards_named : (f : Function) (b : Body) → f.body ≡ Some b → length f.uses ≡ length b.points → (p : ℕ)
        → list_any (is_guarded_by c) ((uses_at f p).left ++ (uses_at f p).right) ≡ true → Contains (paths_of u f) c
    unfolding paths_of
    guards_named f b is beside p h =
        let points = ap points_in is in
        let inner = guarded_among f.uses b.points p beside h in
        let all = among_right (present (map (λ a. a.path) f.attrs)) (points_ways u f.uses (points_in f.body)) (ap (λ ps. among (points_ways u f.uses ps)) points ∙ inner) in
        let k = found (ways_of u f) all in
        let n = comes [] (ways_of u f) k.0 c k.1 in
        at_contained (each_once [] (ways_of u f)) n.0 c n.1
