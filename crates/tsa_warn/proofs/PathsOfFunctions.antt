-- A path is among those of a function, or the function doesn't name it.
use Rattle.std.proofs.Common.{◌≡◌, ◌∙◌, ℕ, zero, suc, arith, Bool, true, false, ◌||◌, List, [], ◌∷◌, ◌++◌, length, map, Option, Some, None}
use Rattle.std.proofs.Common.{option_and_then, slice_get, refl, sym, ap, ap₂}
use Rattle.std.proofs.lemmas.List.Folds.{list_any-append}
use Rattle.std.specs.List.{flat_map, list_any}
use Rattle.tsa_place_model.specs.Ways.{Way}
use Rattle.tsa_core.specs.Bodies.{Body, Point}
use Rattle.tsa_core.specs.Meanings.{Call}
use Rattle.tsa_core.specs.Programs.{Attr, Function, Program}
use Rattle.tsa_core.specs.Uses.{Access, Uses}
use Rattle.tsa_profile_points.specs.Ways.{present}
use Rattle.tsa_path.specs.Sameness.{same_way}
use Rattle.tsa_path.specs.Substitution.{substituted}
use Rattle.tsa_path.proofs.PathsApart.{way_equal}
use Rattle.tsa_rules.specs.Attributes.{all_as_called, as_called, is_path, names}
use Rattle.tsa_rules.specs.Points.{attrs_at, attrs_called, is_guarded_by, or_idle, or_no_function, or_unused, point_at, points_of, uses_at}
use Rattle.tsa_rules.specs.StatusLaws.{IsUnnamed}
use Rattle.tsa_rules.proofs.OtherPaths.{rules_speak_of_named_paths}
use Rattle.tsa_warn.specs.CoverageLaws.{RulesFailForPathsOfFunctions}
use Rattle.tsa_warn_function.specs.Paths.{called, called_in, paths_of, point_ways, points_in, points_ways, ways_of}
use Rattle.tsa_warn_function.proofs.EachOnce.{comes}

module _ (c : Way) where
  abbrev among : List Way → Bool
  among ws = list_any (λ w. same_way w c) ws

  found : (ws : List Way) → among ws ≡ true → (k : ℕ) × (slice_get ws k ≡ Some c)
  found [] is = absurd cc
  found (w ∷ ws) is = by (same_way w c) refl is (λ h. found ws h)
    where
      by : (b : Bool) → same_way w c ≡ b → (b || among ws) ≡ true → (among ws ≡ true → (k : ℕ) × (slice_get ws k ≡ Some c)) → (k : ℕ) × (slice_get (w ∷ ws) k ≡ Some c)
      by true same h deeper = (0, ap (λ x. Some x) (way_equal w c same))
      by false other h deeper = let x = deeper h in (suc x.0, x.1)

  neither : (a b : Bool) → (a || b) ≡ false → (a ≡ false) × (b ≡ false)
  neither true b h = absurd cc
  neither false b h = (refl, h)

  none_of_both : (xs ys : List Way) → among (xs ++ ys) ≡ false → (among xs ≡ false) × (among ys ≡ false)
  none_of_both xs ys h = neither (among xs) (among ys) (sym (list_any-append (λ w. same_way w c) xs ys) ∙ h)

  -- paths where some stand and some don't
  present_among : (ws : List (Option Way)) → among (present ws) ≡ list_any (is_path c) ws
  present_among [] = refl
  present_among (None ∷ ws) = present_among ws
  present_among (Some w ∷ ws) = ap (λ b. same_way w c || b) (present_among ws)

  -- attributes by their paths
  attrs_among : (attrs : List Attr) → list_any (is_path c) (map (λ a. a.path) attrs) ≡ list_any (names c) attrs
  attrs_among [] = refl
  attrs_among (a ∷ attrs) = ap (λ b. is_path c a.path || b) (attrs_among attrs)

  called_among : (args : List (Option Way)) (attrs : List Attr)
      → list_any (is_path c) (map (λ a. option_and_then (substituted args) a.path) attrs) ≡ list_any (names c) (all_as_called args attrs)
  called_among args [] = refl
  called_among args (a ∷ attrs) = ap (λ b. is_path c (option_and_then (substituted args) a.path) || b) (called_among args attrs)

  -- accesses by their guards
  guards_among : (accesses : List Access) → list_any (is_path c) (flat_map (λ a. a.guards) accesses) ≡ list_any (is_guarded_by c) accesses
  guards_among [] = refl
  guards_among (a ∷ accesses) =
      list_any-append (is_path c) a.guards (flat_map (λ x. x.guards) accesses) ∙ ap (λ b. list_any (is_path c) a.guards || b) (guards_among accesses)

  module _ (u : Program) where
    call_among : (args : List (Option Way)) (call : Option Call) → list_any (is_path c) (called u args call) ≡ list_any (names c) (all_as_called args (attrs_called u call))
    call_among args None = refl
    call_among args (Some x) = by (slice_get u.functions x.function)
      where
        by : (o : Option Function) → list_any (is_path c) (called_in args o) ≡ list_any (names c) (all_as_called args (or_no_function o).attrs)
        by None = refl
        by (Some f) = called_among args f.attrs

    pub record IsQuiet (x : Uses) (at : Point) : Type 0 where
      pub guarding : list_any (is_guarded_by c) (x.left ++ x.right) ≡ false
      pub calling : list_any (names c) (all_as_called x.arguments (attrs_called u at.call)) ≡ false

    quiet_here : (x : Uses) (at : Point) → among (point_ways u x at) ≡ false → IsQuiet x at
    quiet_here x at none =
        let guards = flat_map (λ a. a.guards) (x.left ++ x.right) in
        let both = none_of_both (present guards) (present (called u x.arguments at.call)) none in
        record {
          guarding = sym (guards_among (x.left ++ x.right)) ∙ sym (present_among guards) ∙ both.0;
          calling = sym (call_among x.arguments at.call) ∙ sym (present_among (called u x.arguments at.call)) ∙ both.1;
        }

    quiet_nowhere : IsQuiet (or_unused None) (or_idle None)
    quiet_nowhere = record { guarding = refl; calling = refl }

    quiet_at : (uses : List Uses) (points : List Point) (p : ℕ) → length uses ≡ length points → among (points_ways u uses points) ≡ false
        → IsQuiet (or_unused (slice_get uses p)) (or_idle (slice_get points p))
    quiet_at [] [] p beside none = quiet_nowhere
    quiet_at [] (at ∷ points) p beside none = absurd (omega (arith, beside))
    quiet_at (x ∷ uses) [] p beside none = absurd (omega (arith, beside))
    quiet_at (x ∷ uses) (at ∷ points) zero beside none = quiet_here x at (none_of_both (point_ways u x at) (points_ways u uses points) none).0
    quiet_at (x ∷ uses) (at ∷ points) (suc p) beside none =
        quiet_at uses points p (omega (arith, beside)) (none_of_both (point_ways u x at) (points_ways u uses points) none).1

    module _ (f : Function) (beside : length f.uses ≡ length (points_of f)) where
      same_points : (o : Option Body) → f.body ≡ o → points_in f.body ≡ points_of f
      same_points None is = ap points_in is ∙ sym (rw is refl)
      same_points (Some b) is = ap points_in is ∙ sym (rw is refl)

      unnamed : among (ways_of u f) ≡ false → IsUnnamed u f c
      unnamed none =
          let both = none_of_both (present (map (λ a. a.path) f.attrs)) (points_ways u f.uses (points_in f.body)) none in
          let points = ap (λ ps. among (points_ways u f.uses ps)) (sym (same_points f.body refl)) ∙ both.1 in
          record {
            own = sym (attrs_among f.attrs) ∙ sym (present_among (map (λ a. a.path) f.attrs)) ∙ both.0;
            called = λ p. (quiet_at f.uses (points_of f) p beside points).calling;
            guarding = λ p. (quiet_at f.uses (points_of f) p beside points).guarding;
          }

      pub data IsCovered : Type 0 where
        it_is : (cap : ℕ) → slice_get (paths_of u f) cap ≡ Some c → IsCovered
        it_is_not : IsUnnamed u f c → IsCovered

      pub covered : IsCovered
      unfolding paths_of
      covered = by (among (ways_of u f)) refl
        where
          by : (b : Bool) → among (ways_of u f) ≡ b → IsCovered
          by true is =
              let k = found (ways_of u f) is in
              let n = comes [] (ways_of u f) k.0 c k.1 in
              it_is n.0 n.1
          by false is = it_is_not (unnamed is)

pub rules_fail_for_paths : RulesFailForPathsOfFunctions
rules_fail_for_paths u f beside point c rule fails = by (covered c u f beside)
  where
    by : IsCovered c u f beside → (cap : ℕ) × (slice_get (paths_of u f) cap ≡ Some c)
    by (it_is cap at) = (cap, at)
    by (it_is_not unnamed) = absurd (rules_speak_of_named_paths u f c unnamed rule point fails)
