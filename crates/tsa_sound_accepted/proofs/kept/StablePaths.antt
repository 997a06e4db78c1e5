-- All paths of a function with a body mention only locals that never change there.
use Rattle.std.proofs.Common.{◌≡◌, ◌∙◌, ℕ, zero, suc, ◌<◌, arith, nat_eq, eqb-true, Bool, true, false, ◌||◌, if◌then◌else◌, List, [], ◌∷◌}
use Rattle.std.proofs.Common.{◌++◌, length, map, All, Contains, Option, Some, None, option_and_then, slice_get, slice_index_or, refl, sym}
use Rattle.std.proofs.Common.{ap, subst}
use Rattle.std.proofs.lemmas.List.Elements.{All-cons, All-nil}
use Rattle.std.specs.List.{flat_map, list_any}
use Rattle.tsa_tree.specs.attributes.Syntax.{Attribute}
use Rattle.tsa_tree.specs.declarations.Syntax.{Initialiser, value, list}
use Rattle.tsa_tree.specs.declared.expr.BinaryOp.{BinaryOp}
use Rattle.tsa_tree.specs.declared.meaning.Entry.{Entry}
use Rattle.tsa_tree.specs.declared.meaning.Meaning.TheVariants as meant
use Rattle.tsa_tree.specs.expressions.Syntax.{Arguments, Expression, none, more}
use Rattle.tsa_tree.specs.points.Syntax.{Deed, declares, evaluates, assigns, tests, switches, jumps, idles, returns, ends}
use Rattle.tsa_tree.specs.types.Heads.{inside}
use Rattle.tsa_tree.specs.types.Scopes.{Scope, known_in}
use Rattle.tsa_place_model.specs.LockPaths.{stable_in}
use Rattle.tsa_place_model.specs.Ways.{Way}
use Rattle.tsa_place_model.specs.declared.path.PathStep.{PathStep}
use Rattle.tsa_place_model.specs.declared.path.PathStep.TheVariants.{Constant, Field, Follow, Variable}
use Rattle.tsa_place_model.specs.declared.path.Root.{Root}
use Rattle.tsa_place_model.specs.declared.path.Root.TheVariants.{Global, Local, Owner}
use Rattle.tsa_core.specs.Bodies.{Known, Point, known_in_body}
use Rattle.tsa_place_model.specs.Calls.{Layout}
use Rattle.tsa_core.specs.Cells.{cells_read, inner_cells, own_cell, read_before}
use Rattle.tsa_core.specs.Meanings.{Call}
use Rattle.tsa_core.specs.Programs.{Attr, Bodied, Declared, Function, Program, attr_args, attrs_of, body_in, function_of}
use Rattle.tsa_core.specs.Uses.{Access, Uses, accesses, call_ways, given_uses, init_uses, reads, uses_by, uses_of, value_uses, written}
use Rattle.tsa_profile_points.specs.Ways.{each_once, present}
use Rattle.tsa_path.specs.PathTables.{is_known, with_path}
use Rattle.tsa_path.specs.Substitution.{substituted}
use Rattle.tsa_rules.specs.Points.{is_index, is_rooted_at, mentions}
use Rattle.tsa_profile.specs.Paths.{called, called_in, paths_of, point_ways, points_ways, ways_of}
use Rattle.tsa_sound.specs.Facts.{IsUnmentioned}
use Rattle.tsa_sound.specs.LaidOut.{LaidOut}
use Rattle.tsa_sound_accepted.proofs.laid.Mentions.{AreFine, IsFine, IsFineIfAny, IsFineRoot, way_fine}
use Rattle.tsa_sound_accepted.proofs.kept.FinePaths.{AllFine, AllFineIfAny, access_fine, all_both, call_fine, substituted_fine}

module _ (Fine : ℕ → Type 0) where
  abbrev pub AllWays : List Way → Type 0
  AllWays [] = Unit {0}
  AllWays (w ∷ rest) = IsFine Fine w × AllWays rest

  present_fine : (ways : List (Option Way)) → AllFine Fine ways → AllWays (present ways)
  present_fine [] h = tt
  present_fine (None ∷ rest) h = present_fine rest h.1
  present_fine (Some w ∷ rest) h = (h.0, present_fine rest h.1)

  ways_both : (a b : List Way) → AllWays a → AllWays b → AllWays (a ++ b)
  ways_both [] b h g = g
  ways_both (w ∷ a) b h g = (h.0, ways_both a b h.1 g)

  with_fine : (known : List Way) (w : Way) → AllWays known → IsFine Fine w → AllWays (with_path known w)
  with_fine known w h g = by (is_known known w)
    where
      by : (b : Bool) → AllWays (if b then known else known ++ w ∷ [])
      by true = h
      by false = ways_both known (w ∷ []) h (g, tt)

  once_fine : (known ws : List Way) → AllWays known → AllWays ws → AllWays (each_once known ws)
  once_fine known [] h g = h
  once_fine known (w ∷ ws) h g = once_fine (with_path known w) ws (with_fine known w h g.0) g.1

  pub fine_at : (ways : List Way) (k : ℕ) (d : Way) → AllWays ways → k < length ways → IsFine Fine (slice_index_or ways k d)
  fine_at [] k d h less = absurd (omega (arith, less))
  fine_at (w ∷ ways) zero d h less = h.0
  fine_at (w ∷ ways) (suc k) d h less = fine_at ways k d h.1 (omega (arith, less))

  -- a fine path doesn't mention a local that isn't
  root_other : (n : ℕ) (root : Root) → (Fine n → ⊥) → IsFineRoot Fine root → is_rooted_at n root ≡ false
  root_other n (Global m) no_fine h = refl
  root_other n Owner no_fine h = refl
  root_other n (Local m) no_fine h = by (nat_eq m n) refl
    where
      by : (b : Bool) → nat_eq m n ≡ b → b ≡ false
      by false e = refl
      by true e = absurd (no_fine (subst Fine (eqb-true m n e) h))

  step_other : (n m : ℕ) → (Fine n → ⊥) → Fine m → nat_eq m n ≡ false
  step_other n m no_fine h = by (nat_eq m n) refl
    where
      by : (b : Bool) → nat_eq m n ≡ b → b ≡ false
      by false e = refl
      by true e = absurd (no_fine (subst Fine (eqb-true m n e) h))

  steps_other : (n : ℕ) (steps : List PathStep) → (Fine n → ⊥) → AreFine Fine steps → list_any (is_index n) steps ≡ false
  steps_other n [] no_fine h = refl
  steps_other n (Variable m ∷ rest) no_fine h = ap (λ b. b || list_any (is_index n) rest) (step_other n m no_fine h.0) ∙ steps_other n rest no_fine h.1
  steps_other n (Field k ∷ rest) no_fine h = steps_other n rest no_fine h.1
  steps_other n (Constant k ∷ rest) no_fine h = steps_other n rest no_fine h.1
  steps_other n (Follow ∷ rest) no_fine h = steps_other n rest no_fine h.1

  pub unmentioned : (n : ℕ) (c : Way) → (Fine n → ⊥) → IsFine Fine c → mentions n c ≡ false
  unmentioned n c no_fine h =
      ap (λ b. if b then true else list_any (is_index n) c.steps) (root_other n c.root no_fine h.0) ∙ steps_other n c.steps no_fine h.1

  -- WHAT POINTS USE

  abbrev AreGuardsFine : List Access → Type 0
  AreGuardsFine [] = Unit {0}
  AreGuardsFine (a ∷ rest) = AllFine Fine a.guards × AreGuardsFine rest

  guards_both : (a b : List Access) → AreGuardsFine a → AreGuardsFine b → AreGuardsFine (a ++ b)
  guards_both [] b h g = g
  guards_both (x ∷ a) b h g = (h.0, guards_both a b h.1 g)

  flat_fine : (xs : List Access) → AreGuardsFine xs → AllFine Fine (flat_map (λ a. a.guards) xs)
  flat_fine [] h = tt
  flat_fine (a ∷ xs) h = all_both Fine a.guards (flat_map (λ x. x.guards) xs) h.0 (flat_fine xs h.1)

  record FineUses (x : Uses) : Type 0 where
    left : AreGuardsFine x.left
    right : AreGuardsFine x.right
    arguments : AllFine Fine x.arguments

  attrs_called : (args : List (Option Way)) (attrs : List Attr) → AllFine Fine args → AllFine Fine (map (λ a. option_and_then (substituted args) a.path) attrs)
  attrs_called args [] h = tt
  attrs_called args (a ∷ attrs) h = (substituted_fine Fine args a.path h, attrs_called args attrs h)

  function_called : (args : List (Option Way)) (o : Option Function) → AllFine Fine args → AllFine Fine (called_in args o)
  function_called args None h = tt
  function_called args (Some f) h = attrs_called args f.attrs h

  module _ (u : Program) where
    called_fine : (args : List (Option Way)) (call : Option Call) → AllFine Fine args → AllFine Fine (called u args call)
    called_fine args None h = tt
    called_fine args (Some c) h = function_called args (slice_get u.functions c.function) h

    point_fine : (x : Uses) (at : Point) → FineUses x → AllWays (point_ways u x at)
    point_fine x at h =
        ways_both (present (flat_map (λ a. a.guards) (x.left ++ x.right))) (present (called u x.arguments at.call))
        (present_fine (flat_map (λ a. a.guards) (x.left ++ x.right)) (flat_fine (x.left ++ x.right) (guards_both x.left x.right h.left h.right)))
        (present_fine (called u x.arguments at.call) (called_fine x.arguments at.call h.arguments))

    points_fine : (ks : List Known) (make : Known → Uses) → ((k : Known) → FineUses (make k)) → (points : List Point) → AllWays (points_ways u (map make ks) points)
    points_fine [] make h points = tt
    points_fine (k ∷ ks) make h [] = tt
    points_fine (k ∷ ks) make h (at ∷ points) = ways_both (point_ways u (make k) at) (points_ways u (map make ks) points) (point_fine (make k) at (h k)) (points_fine ks make h points)

  module _ (stable : ℕ → Bool) (here : Scope) (told : (name : List ℕ) (e : Entry) (k : ℕ) → known_in here name ≡ Some e → e.meaning ≡ meant.Local k → stable k ≡ true → Fine k) where
    args_fine : (a : Attribute) (args : Arguments) → AllFine Fine (map (λ x. x.path) (attr_args stable here a args))
    unfolding attr_args
    args_fine a none = tt
    args_fine a (more first rest) = (way_fine Fine stable here told first, args_fine a rest)

    map_both : (xs ys : List Attr) → AllFine Fine (map (λ x. x.path) xs) → AllFine Fine (map (λ x. x.path) ys) → AllFine Fine (map (λ x. x.path) (xs ++ ys))
    map_both [] ys h g = g
    map_both (x ∷ xs) ys h g = (h.0, map_both xs ys h.1 g)

    pub attrs_fine : (attrs : List Attribute) → AllFine Fine (map (λ x. x.path) (attrs_of stable here attrs))
    unfolding attrs_of
    attrs_fine [] = tt
    attrs_fine (a ∷ rest) = map_both (attr_args stable here a a.args) (attrs_of stable here rest) (args_fine a a.args) (attrs_fine rest)

  -- attributes whose paths are fine don't mention a local that isn't
  path_unmentioned : (n : ℕ) (w : Option Way) → (Fine n → ⊥) → IsFineIfAny Fine w → IsUnmentioned n w
  path_unmentioned n None no_fine h = tt
  path_unmentioned n (Some c) no_fine h = unmentioned n c no_fine h

  pub attrs_unmentioned : (n : ℕ) (attrs : List Attr) → (Fine n → ⊥) → AllFine Fine (map (λ x. x.path) attrs) → All (λ a. IsUnmentioned n a.path) attrs
  attrs_unmentioned n [] no_fine h = All-nil (λ a. IsUnmentioned n a.path)
  attrs_unmentioned n (a ∷ attrs) no_fine h =
      All-cons (λ a. IsUnmentioned n a.path) a attrs (path_unmentioned n a.path no_fine h.0) (attrs_unmentioned n attrs no_fine h.1)

  module _ (stable : ℕ → Bool) (fine : (k : ℕ) → stable k ≡ true → Fine k) where
    module _ (l : Layout) (laid : LaidOut l) where
      cells_fine : (here : Scope) (is_write : Bool) (cells : List Expression) → AreGuardsFine (accesses l stable here is_write cells)
      cells_fine here w [] = tt
      cells_fine here w (e ∷ cells) = (access_fine Fine stable fine l laid here e, cells_fine here w cells)

      passed_fine : (here : Scope) (e : Expression) → AllFine Fine (value_uses l stable here e).arguments
      passed_fine here e = by (call_ways stable here e) refl (call_fine Fine stable fine here e)
        where
          by : (o : Option (List (Option Way))) → call_ways stable here e ≡ o → AllFineIfAny Fine stable fine o → AllFine Fine (value_uses l stable here e).arguments
          by None f h = rw f tt
          by (Some ways) f h = rw f h

      value_fine : (here : Scope) (e : Expression) → FineUses (value_uses l stable here e)
      value_fine here e = record { left = tt; right = cells_fine here false (cells_read here e); arguments = passed_fine here e }

      none_fine : (right : List Access) → AreGuardsFine right → FineUses (record { left = []; right = right; arguments = [] })
      none_fine right h = record { left = tt; right = h; arguments = tt }

      given_fine : (here : Scope) (e : Option Expression) → FineUses (given_uses l stable here e)
      given_fine here None = none_fine [] tt
      given_fine here (Some e) = value_fine here e

      init_fine : (here : Scope) (init : Option Initialiser) → FineUses (init_uses l stable here init)
      init_fine here None = none_fine [] tt
      init_fine here (Some (value e)) = value_fine here e
      init_fine here (Some (list items span)) = none_fine [] tt

      written_fine : (here : Scope) (o : Option BinaryOp) (e : Expression) → AreGuardsFine (written l stable here o e)
      written_fine here o e =
          guards_both (accesses l stable here false (read_before here o e)) (accesses l stable here true (own_cell here e) ++ accesses l stable here false (inner_cells here e))
          (cells_fine here false (read_before here o e))
          (guards_both (accesses l stable here true (own_cell here e)) (accesses l stable here false (inner_cells here e)) (cells_fine here true (own_cell here e))
          (cells_fine here false (inner_cells here e)))

      deed_fine : (here : Scope) (d : Deed) → FineUses (uses_by l stable here d)
      deed_fine here (declares d) = init_fine here d.init
      deed_fine here (evaluates e) = value_fine here e
      deed_fine here (assigns left o right) = record {
        left = written_fine here o left;
        right = cells_fine here false (cells_read here right);
        arguments = passed_fine here right;
      }
      deed_fine here (tests e) = given_fine here e
      deed_fine here (switches e) = none_fine (reads l stable here e) (cells_fine here false (cells_read here e))
      deed_fine here jumps = none_fine [] tt
      deed_fine here idles = none_fine [] tt
      deed_fine here (returns e) = given_fine here e
      deed_fine here ends = none_fine [] tt

-- of a function with its body
module _ (u : Program) (l : Layout) (laid : LaidOut l) (d : Declared) (b : Bodied) where
  abbrev pub Stays : ℕ → Type 0
  Stays n = stable_in (body_in b).stable n ≡ true

  pub own_stay : AllFine Stays (map (λ a. a.path) (function_of l d (Some b)).attrs)
  own_stay = attrs_fine Stays (stable_in (body_in b).stable) (inside d.here d.head d.with_body) (λ name e k is means s. s) d.head.attrs

  pub paths_stay : AllWays Stays (paths_of u (function_of l d (Some b)))
  unfolding paths_of
  paths_stay =
      let f = function_of l d (Some b) in
      once_fine Stays [] (ways_of u f) tt
      (ways_both Stays (present (map (λ a. a.path) f.attrs)) (points_ways u f.uses (body_in b).points)
      (present_fine Stays (map (λ a. a.path) f.attrs) own_stay)
      (points_fine Stays u (known_in_body b.here b.body) (uses_of l (stable_in (body_in b).stable))
      (λ k. deed_fine Stays (stable_in (body_in b).stable) (λ n s. s) l laid k.here k.deed) (body_in b).points))

  pub unstable_unmentioned : (n : ℕ) (c : Way) → stable_in (body_in b).stable n ≡ false → Contains (paths_of u (function_of l d (Some b))) c → mentions n c ≡ false
  unstable_unmentioned n c e (k, less, at) =
      unmentioned Stays n c (λ s. let z = sym s ∙ e in absurd cc) (subst (IsFine Stays) at (fine_at Stays (paths_of u (function_of l d (Some b))) k c paths_stay less))
