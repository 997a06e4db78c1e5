-- The paths of a function: each of them once, and among them all that its attributes and those of what it calls name.
use Rattle.std.proofs.Common.{◌≡◌, ◌∙◌, ℕ, zero, suc, ◌<◌, arith, Bool, true, false, List, [], ◌∷◌, ◌++◌, length, map, All, AllPairs}
use Rattle.std.proofs.Common.{Contains, Option, Some, None, option_and_then, slice_get, slice_index_or, refl, sym, ap, subst}
use Rattle.std.specs.List.{flat_map}
use Rattle.tsa_place_model.specs.Ways.{Way}
use Rattle.tsa_core.specs.Bodies.{Body, Point}
use Rattle.tsa_core.specs.Meanings.{Call}
use Rattle.tsa_core.specs.Programs.{Attr, Function, Program}
use Rattle.tsa_core.specs.Uses.{Uses}
use Rattle.tsa_profile_points.specs.Ways.{each_once, present}
use Rattle.tsa_path.specs.PathTables.{AreDifferent, with_path}
use Rattle.tsa_path.specs.Sameness.{same_way}
use Rattle.tsa_path.specs.Substitution.{substituted}
use Rattle.tsa_path.proofs.Numbers.{numbers_stay, table_holds_different_paths}
use Rattle.tsa_path.proofs.PathsApart.{way_equal}
use Rattle.tsa_rules.specs.Attributes.{all_as_called, as_called}
use Rattle.tsa_rules.specs.Points.{attrs_at, attrs_called, or_idle, or_no_function, or_unused, points_of}
use Rattle.tsa_profile.specs.Paths.{called, called_in, paths_of, point_ways, points_in, points_ways, ways_of}
use Rattle.tsa_profile.proofs.EachOnce.{stays}
use Rattle.tsa_sound.specs.Facts.{IsAmong}
use Rattle.tsa_sound_accepted.specs.kept.Laws.{PathsAreNamedOnce}

-- an element of a list, by its number
abbrev In : {A : Type 0} → List A → A → Type 0
In xs x = (n : ℕ) × (slice_get xs n ≡ Some x)

in_left : {A : Type 0} (xs ys : List A) (x : A) → In xs x → In (xs ++ ys) x
in_left [] ys x (n, e) = absurd cc
in_left (y ∷ xs) ys x (zero, e) = (0, e)
in_left (y ∷ xs) ys x (suc n, e) = let h = in_left xs ys x (n, e) in (suc h.0, h.1)

in_right : {A : Type 0} (xs ys : List A) (x : A) → In ys x → In (xs ++ ys) x
in_right [] ys x h = h
in_right (y ∷ xs) ys x h = let g = in_right xs ys x h in (suc g.0, g.1)

contained : {A : Type 0} (xs : List A) (x : A) (n : ℕ) → slice_get xs n ≡ Some x → Contains xs x
contained [] x n e = absurd cc
contained (y ∷ xs) x zero e = let same : y ≡ x = cc in (0, omega arith, same)
contained (y ∷ xs) x (suc n) e = let h = contained xs x n e in let near : h.0 < length xs = h.1 in (suc h.0, omega (arith, near), h.2)

at_index : {A : Type 0} (xs : List A) (n : ℕ) (d : A) → n < length xs → slice_get xs n ≡ Some (slice_index_or xs n d)
at_index [] n d less = absurd (omega (arith, less))
at_index (x ∷ xs) zero d less = refl
at_index (x ∷ xs) (suc n) d less = at_index xs n d (omega (arith, less))

-- EACH ONCE

comes : (known ws : List Way) (k : ℕ) (w : Way) → slice_get ws k ≡ Some w → In (each_once known ws) w
comes known [] k w at = absurd cc
comes known (v ∷ ws) zero w at =
    let same : v ≡ w = cc in
    subst (λ x. In (each_once (with_path known v) ws) x) same (_, stays (with_path known v) ws _ v (numbers_stay.stands known v))
comes known (v ∷ ws) (suc k) w at = comes (with_path known v) ws k w at

differ : (known ws : List Way) → AreDifferent known → AreDifferent (each_once known ws)
differ known [] h = h
differ known (v ∷ ws) h = differ (with_path known v) ws (table_holds_different_paths known v h)

none_differ : AreDifferent []
none_differ i j w at_i at_j = absurd cc

apart : (ways : List Way) → AreDifferent ways → AllPairs (λ c d. same_way c d ≡ false) ways
apart ways h i j d less within =
    let near : i < length ways = omega (arith, less, within) in
    by (slice_index_or ways i d) (slice_index_or ways j d) (at_index ways i d near) (at_index ways j d within) (same_way (slice_index_or ways i d) (slice_index_or ways j d)) refl
  where
    by : (v w : Way) → slice_get ways i ≡ Some v → slice_get ways j ≡ Some w → (b : Bool) → same_way v w ≡ b → b ≡ false
    by v w at_i at_j false e = refl
    by v w at_i at_j true e =
        let same : i ≡ j = h i j w (at_i ∙ ap (λ x. Some x) (way_equal v w e)) at_j in
        absurd (omega (arith, less, same))

-- WHAT ATTRIBUTES NAME

behind : {A : Type 0} (o : Option A) (ws : List (Option A)) (w : A) → In (present ws) w → In (present (o ∷ ws)) w
behind None ws w h = h
behind (Some v) ws w h = (suc h.0, h.1)

first : {A : Type 0} (o : Option A) (ws : List (Option A)) (w : A) → o ≡ Some w → In (present (o ∷ ws)) w
first None ws w e = absurd cc
first (Some v) ws w e = (0, e)

present_in : {A : Type 0} (ws : List (Option A)) (k : ℕ) (w : A) → slice_get ws k ≡ Some (Some w) → In (present ws) w
present_in [] k w e = absurd cc
present_in (o ∷ ws) zero w e = let same : o ≡ Some w = cc in first o ws w same
present_in (o ∷ ws) (suc k) w e = behind o ws w (present_in ws k w e)

mapped_at : {A B : Type 0} (f : A → B) (xs : List A) (k : ℕ) (d : B) (b : B) → k < length (map f xs) → slice_index_or (map f xs) k d ≡ b
    → (x : A) × ((slice_get xs k ≡ Some x) × (f x ≡ b))
mapped_at f [] k d b less e = absurd (omega (arith, less))
mapped_at f (x ∷ xs) zero d b less e = (x, (refl, e))
mapped_at f (x ∷ xs) (suc k) d b less e = mapped_at f xs k d b (omega (arith, less)) e

map_get : {A B : Type 0} (f : A → B) (xs : List A) (k : ℕ) (x : A) → slice_get xs k ≡ Some x → slice_get (map f xs) k ≡ Some (f x)
map_get f [] k x e = absurd cc
map_get f (y ∷ xs) zero x e = let same : y ≡ x = cc in ap (λ z. Some (f z)) same
map_get f (y ∷ xs) (suc k) x e = map_get f xs k x e

module _ (u : Program) where
  own_in : (attrs : List Attr) (k : ℕ) (d : Attr) → k < length attrs → (c : Way) → (slice_index_or attrs k d).path ≡ Some c
      → In (present (map (λ a. a.path) attrs)) c
  own_in attrs k d less c e =
      present_in (map (λ a. a.path) attrs) k c (map_get (λ a. a.path) attrs k (slice_index_or attrs k d) (at_index attrs k d less) ∙ ap (λ x. Some x) e)

  -- of the function that is called
  abbrev called_paths : List (Option Way) → List Attr → List (Option Way)
  called_paths args attrs = map (λ a. option_and_then (substituted args) a.path) attrs

  called_same : (args : List (Option Way)) (call : Option Call) → called u args call ≡ called_paths args (attrs_called u call)
  called_same args None = refl
  called_same args (Some x) = by (slice_get u.functions x.function)
    where
      by : (o : Option Function) → called_in args o ≡ called_paths args (or_no_function o).attrs
      by None = refl
      by (Some f) = refl

  called_present : (args : List (Option Way)) (attrs : List Attr) (k : ℕ) (d : Attr) → k < length (all_as_called args attrs) → (c : Way)
      → (slice_index_or (all_as_called args attrs) k d).path ≡ Some c → In (present (called_paths args attrs)) c
  called_present args attrs k d less c e =
      let x = mapped_at (as_called args) attrs k d (slice_index_or (all_as_called args attrs) k d) less refl in
      present_in (called_paths args attrs) k c
      (map_get (λ a. option_and_then (substituted args) a.path) attrs k x.0 x.1.0 ∙ ap (λ y. Some y) (ap (λ a. a.path) x.1.1 ∙ e))

  called_here : (x : Uses) (at : Point) (k : ℕ) (d : Attr) → k < length (all_as_called x.arguments (attrs_called u at.call)) → (c : Way)
      → (slice_index_or (all_as_called x.arguments (attrs_called u at.call)) k d).path ≡ Some c → In (point_ways u x at) c
  called_here x at k d less c e =
      in_right (present (flat_map (λ a. a.guards) (x.left ++ x.right))) (present (called u x.arguments at.call)) c
      (subst (λ ws. In (present ws) c) (sym (called_same x.arguments at.call)) (called_present x.arguments (attrs_called u at.call) k d less c e))

  called_at : (uses : List Uses) (points : List Point) (p : ℕ) → length uses ≡ length points → (k : ℕ) (d : Attr)
      → k < length (all_as_called (or_unused (slice_get uses p)).arguments (attrs_called u (or_idle (slice_get points p)).call)) → (c : Way)
      → (slice_index_or (all_as_called (or_unused (slice_get uses p)).arguments (attrs_called u (or_idle (slice_get points p)).call)) k d).path ≡ Some c
      → In (points_ways u uses points) c
  called_at [] [] p beside k d less c e = absurd (omega (arith, less))
  called_at [] (at ∷ points) p beside k d less c e = absurd (omega (arith, beside))
  called_at (x ∷ uses) [] p beside k d less c e = absurd (omega (arith, beside))
  called_at (x ∷ uses) (at ∷ points) zero beside k d less c e = in_left (point_ways u x at) (points_ways u uses points) c (called_here x at k d less c e)
  called_at (x ∷ uses) (at ∷ points) (suc p) beside k d less c e =
      in_right (point_ways u x at) (points_ways u uses points) c (called_at uses points p (omega (arith, beside)) k d less c e)

  module _ (f : Function) where
    same_points : (o : Option Body) → f.body ≡ o → points_in f.body ≡ points_of f
    same_points None is = ap points_in is ∙ sym (rw is refl)
    same_points (Some b) is = ap points_in is ∙ sym (rw is refl)

    among : (c : Way) → In (ways_of u f) c → Contains (paths_of u f) c
    unfolding paths_of
    among c h = let n = comes [] (ways_of u f) h.0 c h.1 in contained (each_once [] (ways_of u f)) c n.0 n.1

    each_path_once : AllPairs (λ c d. same_way c d ≡ false) (paths_of u f)
    unfolding paths_of
    each_path_once = apart (each_once [] (ways_of u f)) (differ [] (ways_of u f) none_differ)

    own_paths : All (λ a. IsAmong (paths_of u f) a.path) f.attrs
    own_paths k d less c e =
        among c (in_left (present (map (λ a. a.path) f.attrs)) (points_ways u f.uses (points_in f.body)) c (own_in f.attrs k d less c e))

    paths_at : length f.uses ≡ length (points_of f) → (p : ℕ) → All (λ a. IsAmong (paths_of u f) a.path) (attrs_at u f p)
    paths_at beside p k d less c e =
        among c
        (in_right (present (map (λ a. a.path) f.attrs)) (points_ways u f.uses (points_in f.body)) c
        (subst (λ ps. In (points_ways u f.uses ps) c) (sym (same_points f.body refl)) (called_at f.uses (points_of f) p beside k d less c e)))

pub paths_are_named_once : PathsAreNamedOnce
paths_are_named_once = record { once = each_path_once; own = own_paths; called = paths_at }
