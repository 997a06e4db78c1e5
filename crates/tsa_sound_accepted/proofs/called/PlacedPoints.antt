-- Each point of a body that calls is one that the profile judges, beside the functions that are declared up to there.
use Rattle.std.proofs.Common.{◌≡◌, ◌∙◌, ℕ, zero, suc, Bool, true, false, List, [], ◌∷◌, ◌++◌, length, map, Option, Some, None, option_map}
use Rattle.std.proofs.Common.{slice_get, refl, sym, ap, subst}
use Rattle.std.proofs.lemmas.List.{map-append}
use Rattle.std.specs.Str.{bytes_eq}
use Rattle.tsa_base.specs.declared.token.Span.{Span}
use Rattle.tsa_tree.specs.declarations.Syntax.{Head}
use Rattle.tsa_tree.specs.declared.kind.Kind.{Kind}
use Rattle.tsa_tree.specs.points.Syntax.{Deed, declares, evaluates, assigns, tests, switches, jumps, idles, returns, ends}
use Rattle.tsa_tree.specs.statements.Syntax.{Statements}
use Rattle.tsa_tree.specs.types.FirstFailing.{first_failing}
use Rattle.tsa_tree.specs.types.Heads.{behind_head, inside}
use Rattle.tsa_tree.specs.types.Scopes.{Scope, further}
use Rattle.tsa_tree.specs.types.Targets.{declared_in_all}
use Rattle.tsa_tree.specs.types.Units as stated
use Rattle.tsa_tree.specs.types.Units.{outset, behind_item}
use Rattle.tsa_tree.specs.units.Syntax.{UnitItem, structure_item, alias_item, enumeration_item, global_item, function_item, body_item}
use Rattle.tsa_tree.proofs.types.UnitNodes.{premises_tell_it}
use Rattle.tsa_place_model.specs.LockPaths.{stable_in}
use Rattle.tsa_core.specs.Bodies.{Known, known_in_body, point_by, point_of}
use Rattle.tsa_core.specs.Meanings.{Call}
use Rattle.tsa_core.specs.Programs.{Bodied, Declared, Function, Program, bodied_by, bodied_function, body_in, declared_by}
use Rattle.tsa_core.specs.Programs.{declared_functions, first_head, function_in, or_body, program_of, stable_locals}
use Rattle.tsa_core.specs.Uses.{uses_of}
use Rattle.tsa_place_model.proofs.GlobalsInRow.{by_last, front_at}
use Rattle.tsa_core.proofs.MappedLists.{map_at}
use Rattle.tsa_core.proofs.NoFailure as typing
use Rattle.tsa_core.proofs.TypedTerms.{some_same}
use Rattle.tsa_rules.specs.Points.{function_at, or_no_function}
use Rattle.tsa_profile_accesses.specs.Locks.{tries}
use Rattle.tsa_profile_accesses.specs.Premises.{first}
use Rattle.tsa_profile_guards.proofs.NoneFails.{none_of_both}
use Rattle.tsa_profile_points.specs.Bodies.{Around, point_premises, points_premises}
use Rattle.tsa_core_points.specs.CoreLaws.{known_of, seen_at}
use Rattle.tsa_profile_accesses.specs.Expressions.{attributes_at}
use Rattle.tsa_core_points.specs.Points.{PlacedPoint, placed, placed_all}
use Rattle.tsa_profile.specs.Units as profile
use Rattle.tsa_profile.specs.Units.{Unit, around, attributes_behind, attributes_by, heads_premises, own_attributes, paths_limits}
use Rattle.tsa_profile.specs.Units.{points_in, refusal_of_profile, stable_of, tries_limits, unit_of}
use Rattle.tsa_core_points.proofs.PointsOfCore.{placed_are_known, points_are_of_the_core, uses_are_of_the_core}
use Rattle.tsa_profile.proofs.AddedNames.{adds_inside}
use Rattle.tsa_profile.proofs.BodyWays as ways
use Rattle.tsa_profile.proofs.FunctionPaths.{functions_are}
use Rattle.tsa_profile.proofs.FunctionScopes.{KnowsFunctions, body_told, knows_data}
use Rattle.tsa_profile.proofs.KnownCalls.{Reaches, points_reach}
use Rattle.tsa_profile.proofs.PathTables.{Reads, bodies_behind, head_told, is_first, none_came_yet, own_body, reads_on}
use Rattle.tsa_sound_accepted.proofs.kept.SetLocals.{at_index}

-- what the profile asks at one of some points
premise_at : (a : Around) (qs : List PlacedPoint) (p : ℕ) (q : PlacedPoint) → first (points_premises a qs) ≡ None → slice_get qs p ≡ Some q
    → first (point_premises a q) ≡ None
unfolding points_premises
premise_at a [] p q h at = absurd cc
premise_at a (x ∷ qs) zero q h at = let same : x ≡ q = cc in subst (λ y. first (point_premises a y) ≡ None) same
    (none_of_both (point_premises a x) (points_premises a qs) h).0
premise_at a (x ∷ qs) (suc p) q h at = premise_at a qs p q (none_of_both (point_premises a x) (points_premises a qs) h).1 at

module _ (items : List UnitItem) where
  abbrev u : Unit
  u = unit_of [] items

  abbrev p : Program
  p = program_of items

  abbrev function : Declared → Function
  function d = function_in p.layout items d

  -- A body as the profile judges it: beside the functions that are declared up to there, and the locals that never change in it.
  abbrev pub judged_by : List Declared → Bool → Bodied → Around
  judged_by before does_try b = record { layout = p.layout; attributes = map (attributes_by u) before; tries = does_try; stable = stable_in (body_in b).stable }

  pub record Judged (b : Bodied) : Type 0 where
    pub before : List Declared
    pub more : List Declared
    pub all : declared_functions (outset items) items ≡ before ++ more
    pub knows : KnowsFunctions before b.here
    pub does_try : Bool
    pub kept : first (points_premises (judged_by before does_try b) (placed_all b.here b.body)) ≡ None

  judged_here : (ds : List Declared) (bodies : List ℕ → Option Bodied) (here : Scope) (head : Head) (body : Statements) (close : Span) (rest : List UnitItem)
      → Reads [] items ds bodies here (body_item head body close ∷ rest)
      → first (points_premises (around u (attributes_behind u (map (attributes_by u) ds) here (body_item head body close)) here head)
      (points_in here head body)) ≡ None
      → Judged (own_body here head body)
  unfolding stated.items_premises
  judged_here ds bodies here head body close rest r h =
      let item = body_item head body close in
      let there = behind_item here item in
      let n = reads_on [] items ds bodies here item rest r in
      let typed = (typing.none_of_both (stated.item_premises here item) (stated.items_premises there rest) r.typed).0 in
      let told = body_told ds bodies here r.stands head (head_told here head body typed) in
      let only = is_first [] items ds bodies here head body close rest r n told in
      let b = own_body here head body in
      let after = ds ++ first_head here head true in
      let behind = attributes_behind u (map (attributes_by u) ds) here item in
      let known : behind ≡ map (attributes_by u) after = sym (map-append (attributes_by u) ds (first_head here head true)) in
      let stable : stable_of u head ≡ stable_in (body_in b).stable = ap (λ o. stable_in (stable_locals (length head.params) o)) only in
      record {
        before = after;
        more = declared_functions there rest;
        all = n.declared;
        knows = knows_data after (behind_head here head true) (inside here head true) (adds_inside here head true) n.stands.named;
        does_try = tries (own_attributes behind here head);
        kept =
            subst (λ st. first (points_premises (record {
              layout = p.layout;
              attributes = map (attributes_by u) after;
              tries = tries (own_attributes behind here head);
              stable = st;
            }) (placed_all b.here b.body)) ≡ None) stable
            (subst (λ xs. first (points_premises (record {
              layout = p.layout;
              attributes = xs;
              tries = tries (own_attributes behind here head);
              stable = stable_of u head;
            }) (placed_all b.here b.body)) ≡ None) known h);
      }

  by_item : (name : List ℕ) (b : Bodied) (ds : List Declared) (bodies : List ℕ → Option Bodied) (here : Scope) (item : UnitItem) (rest : List UnitItem)
      (other : Option Bodied)
      → Reads [] items ds bodies here (item ∷ rest)
      → first (profile.item_premises u (map (attributes_by u) ds) (attributes_behind u (map (attributes_by u) ds) here item) here item) ≡ None
      → (other ≡ Some b → Judged b) → bodied_by name here item other ≡ Some b → Judged b
  by_item name b ds bodies here (body_item head body close) rest other r h later is = by (bytes_eq name head.name.text) is
    where
      by : (hit : Bool) → or_body hit (own_body here head body) other ≡ Some b → Judged b
      by true is =
          subst Judged (some_same is)
          (judged_here ds bodies here head body close rest r
          (none_of_both (heads_premises u (map (attributes_by u) ds) here head true)
          (points_premises (around u (attributes_behind u (map (attributes_by u) ds) here (body_item head body close)) here head) (points_in here head body)) h).1)
      by false is = later is
  by_item name b ds bodies here (structure_item tag alias attrs members span) rest other r h later is = later is
  by_item name b ds bodies here (alias_item text ctype span) rest other r h later is = later is
  by_item name b ds bodies here (enumeration_item tag alias values span) rest other r h later is = later is
  by_item name b ds bodies here (global_item d) rest other r h later is = later is
  by_item name b ds bodies here (function_item head) rest other r h later is = later is

  judged : (name : List ℕ) (b : Bodied) (ds : List Declared) (bodies : List ℕ → Option Bodied) (here : Scope) (rest : List UnitItem)
      → Reads [] items ds bodies here rest
      → first (profile.items_premises u (map (attributes_by u) ds) here rest) ≡ None → bodied_function name here rest ≡ Some b → Judged b
  unfolding bodied_function profile.items_premises
  judged name b ds bodies here [] r h is = absurd cc
  judged name b ds bodies here (item ∷ rest) r h is =
      let there = behind_item here item in
      let known = map (attributes_by u) ds in
      let behind = attributes_behind u known here item in
      let n = reads_on [] items ds bodies here item rest r in
      let x = none_of_both (profile.item_premises u known behind here item) (profile.items_premises u behind there rest) h in
      let same : behind ≡ map (attributes_by u) (ds ++ declared_by here item) = sym (map-append (attributes_by u) ds (declared_by here item)) in
      by_item name b ds bodies here item rest (bodied_function name there rest) r x.0
      (judged name b (ds ++ declared_by here item) (bodies_behind bodies here item) there rest n
      (subst (λ xs. first (profile.items_premises u xs there rest) ≡ None) same x.1)) is

  pub unit_judged : first_failing items ≡ None → refusal_of_profile items ≡ None → (name : List ℕ) (b : Bodied)
      → bodied_function name (outset items) items ≡ Some b → Judged b
  unit_judged typed fits name b is =
      let asked = none_of_both (profile.items_premises u [] (outset items) items)
      (tries_limits u [] (outset items) items ++ paths_limits u [] (outset items) items) fits in
      judged name b [] (λ other. None) (outset items) items
      (record { stands = none_came_yet items; declared = refl; bodied = λ other. refl; typed = sym (premises_tell_it items) ∙ typed }) asked.0 is

  module _ (b : Bodied) (j : Judged b) where
    abbrev pub a : Around
    a = judged_by j.before j.does_try b

    are : p.functions ≡ map function (j.before ++ j.more)
    are = functions_are items ∙ ap (map function) j.all

    -- the function of a number that is declared up to there, with its attributes
    pub function_declared : (n : ℕ) (d : Declared) → slice_get j.before n ≡ Some d → slice_get p.functions n ≡ Some (function d)
    function_declared n d at = ways.function_at p j.before j.more function are n d at

    pub attributes_same : (n : ℕ) (d : Declared) → slice_get j.before n ≡ Some d → attributes_at a.attributes n ≡ (function_at p n).attrs
    attributes_same n d at =
        ways.attributes_of p j.before j.more function are n d at ∙ sym (ap (λ o. (or_no_function o).attrs) (function_declared n d at))

    pub declared_there : (n : ℕ) (d : Declared) → slice_get j.before n ≡ Some d → slice_get (declared_functions (outset items) items) n ≡ Some d
    declared_there n d at = ap (λ ds. slice_get ds n) j.all ∙ front_at j.before j.more n d at

    -- a point of the core program that calls is one that the profile judges
    pub record PlacedAt (result : Kind) (n : ℕ) (k : Known) : Type 0 where
      pub q : PlacedPoint
      pub seen_same : seen_at (known_of q) ≡ seen_at k
      pub asked : first (point_premises a q) ≡ None
      pub point_is : point_of result (known_of q) ≡ point_of result k
      pub uses_are : uses_of p.layout a.stable (known_of q) ≡ uses_of p.layout a.stable k

    module _ (result : Kind) (close : Span) (n : ℕ) (k : Known) (at : slice_get (known_in_body b.here b.body) n ≡ Some k) (c : Call)
        (calls : (point_of result k).call ≡ Some c) where
      abbrev all_placed : List PlacedPoint
      all_placed = placed_all b.here b.body

      abbrev last : PlacedPoint
      last = placed (further (declared_in_all b.body) b.here) ends close

      seen_there : (o : Option PlacedPoint) → option_map (λ q. seen_at (known_of q)) o ≡ Some (seen_at k)
          → (q : PlacedPoint) × ((o ≡ Some q) × (seen_at (known_of q) ≡ seen_at k))
      seen_there None e = absurd cc
      seen_there (Some q) e = (q, (refl, some_same e))

      placed_there : (q : PlacedPoint) × ((slice_get (all_placed ++ last ∷ []) n ≡ Some q) × (seen_at (known_of q) ≡ seen_at k))
      placed_there =
          let qs = all_placed ++ last ∷ [] in
          seen_there (slice_get qs n)
          (sym (map_at (λ q. seen_at (known_of q)) qs n) ∙ ap (λ xs. slice_get xs n) (placed_are_known b.here b.body close)
          ∙ map_at seen_at (known_in_body b.here b.body) n ∙ ap (option_map seen_at) at)

      no_end : (deed : Deed) → (point_by k.here result deed).call ≡ Some c → ends ≡ deed → ⊥
      no_end ends f e = cc
      no_end (declares d) f e = cc
      no_end (evaluates x) f e = cc
      no_end (assigns left o right) f e = cc
      no_end (tests x) f e = cc
      no_end (switches x) f e = cc
      no_end jumps f e = cc
      no_end idles f e = cc
      no_end (returns x) f e = cc

      front : (q : PlacedPoint) → slice_get (all_placed ++ last ∷ []) n ≡ Some q → seen_at (known_of q) ≡ seen_at k → slice_get all_placed n ≡ Some q
      front q there same =
          by_last all_placed last n q there (λ f. f) (λ m e. absurd (no_end k.deed calls (ap (λ x. x.deed) e ∙ ap (λ x. x.deed) same)))

      same_at : {A : Type 0} (f : Known → A) (q : PlacedPoint) → slice_get (all_placed ++ last ∷ []) n ≡ Some q
          → map (λ x. f (known_of x)) (all_placed ++ last ∷ []) ≡ map f (known_in_body b.here b.body) → f (known_of q) ≡ f k
      same_at f q there e =
          some_same
          (sym (ap (option_map (λ x. f (known_of x))) there) ∙ sym (map_at (λ x. f (known_of x)) (all_placed ++ last ∷ []) n) ∙ ap (λ xs. slice_get xs n) e
          ∙ map_at f (known_in_body b.here b.body) n ∙ ap (option_map f) at)

      pub placed_at : PlacedAt result n k
      placed_at =
          let x = placed_there in
          record {
            q = x.0;
            seen_same = x.1.1;
            asked = premise_at a all_placed n x.0 j.kept (front x.0 x.1.0 x.1.1);
            point_is = same_at (point_of result) x.0 x.1.0 (points_are_of_the_core b.here result b.body close);
            uses_are = same_at (uses_of p.layout a.stable) x.0 x.1.0 (uses_are_of_the_core p.layout a.stable b.here b.body close);
          }

      pub reaches : Reaches j.before (Some c)
      reaches =
          let points = points_reach j.before b.here result b.body j.knows in
          let i = at_index (map (point_of result) (known_in_body b.here b.body)) n (point_of result k) (point_of result k)
          (map_at (point_of result) (known_in_body b.here b.body) n ∙ ap (option_map (point_of result)) at) in
          subst (Reaches j.before) calls (subst (λ x. Reaches j.before x.call) i.1 (points n (point_of result k) i.0))
