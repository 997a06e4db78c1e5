-- A local that begins with what a try gives never changes.
use Rattle.std.proofs.Common.{◌≡◌, ◌∙◌, ℕ, zero, suc, Bool, true, false, not, ◌&&◌, ◌||◌, List, [], ◌∷◌, ◌++◌, length, map, Option, Some}
use Rattle.std.proofs.Common.{None, is_some, option_and_then, option_map, slice_get, refl, sym, ap, subst}
use Rattle.std.proofs.lemmas.List.{map-append}
use Rattle.std.specs.List.{list_any}
use Rattle.std.specs.Str.{bytes_eq}
use Rattle.tsa_base.specs.declared.token.Span.{Span}
use Rattle.tsa_tree.specs.declarations.Syntax.{Declaration, Head, Initialiser, value, list}
use Rattle.tsa_tree.specs.declared.attr.AttrKind.{AttrKind}
use Rattle.tsa_tree.specs.declared.attr.AttrKind.TheVariants as attr
use Rattle.tsa_tree.specs.declared.kind.Kind.{Kind}
use Rattle.tsa_tree.specs.declared.kind.ThingType.{ThingType}
use Rattle.tsa_tree.specs.declared.meaning.Entry.{Entry}
use Rattle.tsa_tree.specs.declared.meaning.Meaning.{Meaning}
use Rattle.tsa_tree.specs.declared.meaning.Meaning.TheVariants as meant
use Rattle.tsa_tree.specs.expressions.Syntax.{Expression, Arguments, number, null, named, call, unary, binary, field, index}
use Rattle.tsa_tree.specs.points.Syntax.{declares, ends}
use Rattle.tsa_tree.specs.statements.Syntax.{Statements}
use Rattle.tsa_tree.specs.types.DeclaredTypes.{thing_type}
use Rattle.tsa_tree.specs.types.Expressions.{function_of as means_function}
use Rattle.tsa_tree.specs.types.FirstFailing.{first_failing}
use Rattle.tsa_tree.specs.types.Heads.{behind_head, inside}
use Rattle.tsa_tree.specs.types.Runnable.{has_call, is_small}
use Rattle.tsa_tree.specs.types.Scopes.{Scope, further, known_in}
use Rattle.tsa_tree.specs.types.Targets.{declared_in_all}
use Rattle.tsa_tree.specs.types.Units as stated
use Rattle.tsa_tree.specs.types.Units.{outset, behind_item}
use Rattle.tsa_tree.specs.units.Syntax.{UnitItem, structure_item, alias_item, enumeration_item, global_item, function_item, body_item}
use Rattle.tsa_tree.proofs.types.UnitNodes.{premises_tell_it}
use Rattle.tsa_place_model.specs.LockPaths.{stable_in}
use Rattle.tsa_core.specs.Bodies.{Known, declared, known_in_body, point_by, point_of}
use Rattle.tsa_core.specs.Meanings.{call_in, call_of}
use Rattle.tsa_core.specs.Programs.{Attr, Bodied, Declared, Function, Program, bodied_by, bodied_function, body_in, declared_by}
use Rattle.tsa_core.specs.Programs.{declared_functions, first_head, function_in, or_body, program_of, stable_locals}
use Rattle.tsa_place_model.proofs.GlobalsInRow.{by_last}
use Rattle.tsa_core.proofs.MappedLists.{map_at}
use Rattle.tsa_core.proofs.NoFailure as typing
use Rattle.tsa_core.proofs.TypedTerms.{some_same}
use Rattle.tsa_core.proofs.ValuesServe.{no_call}
use Rattle.tsa_rules.specs.Attributes as rules
use Rattle.tsa_rules.specs.Points.{function_at, is_a_try, or_no_function}
use Rattle.tsa_profile_accesses.specs.Locks.{is_try, tries}
use Rattle.tsa_profile_accesses.specs.Premises.{first, premise}
use Rattle.tsa_profile_accesses.specs.declared.premise.ProfileCode.TheVariants.{PF1, PF2, PF4, PF5}
use Rattle.tsa_profile_accesses.specs.declared.standing.Standing.TheVariants.{Whole}
use Rattle.tsa_profile_guards.proofs.NoneFails.{none_of_both, none_of_first}
use Rattle.tsa_profile_points.specs.Bodies.{Around, begins_a_try, deed_premises, local_init, point_premises, points_premises, standing_of}
use Rattle.tsa_profile_points.specs.Bodies.{view_at}
use Rattle.tsa_profile_declarations.specs.Declarations.{is_int}
use Rattle.tsa_core_points.specs.CoreLaws.{known_of, seen, seen_at}
use Rattle.tsa_profile_accesses.specs.Expressions.{attributes_at, callee, expression, is_try_call, lacks_a_path, of_callee, own, parts}
use Rattle.tsa_core_points.specs.Points.{PlacedPoint, placed, placed_all}
use Rattle.tsa_profile.specs.Units as profile
use Rattle.tsa_profile.specs.Units.{Unit, around, attributes_behind, attributes_by, heads_premises, own_attributes, paths_limits}
use Rattle.tsa_profile.specs.Units.{points_in, refusal_of_profile, stable_of, tries_limits, unit_of}
use Rattle.tsa_core_points.proofs.PointsOfCore.{placed_are_known}
use Rattle.tsa_profile.proofs.AddedNames.{adds_inside}
use Rattle.tsa_profile.proofs.BodyWays as ways
use Rattle.tsa_profile.proofs.CallsStand.{whole_stands}
use Rattle.tsa_profile.proofs.FunctionPaths.{functions_are}
use Rattle.tsa_profile.proofs.FunctionScopes.{KnowsFunctions, body_told, knows_data}
use Rattle.tsa_profile.proofs.KnownCalls.{Reaches, points_reach}
use Rattle.tsa_profile.proofs.PathTables.{Reads, bodies_behind, head_told, is_first, none_came_yet, own_body, reads_on}
use Rattle.tsa_sound_accepted.proofs.kept.SetLocals.{at_index}

-- the two tests of kinds are one
same_test : (kind : AttrKind) → rules.is_try kind ≡ is_try kind
same_test attr.TryAcquire = refl
same_test attr.TryAcquireShared = refl
same_test attr.Requires = refl
same_test attr.RequiresShared = refl
same_test attr.Acquire = refl
same_test attr.AcquireShared = refl
same_test attr.Release = refl
same_test attr.ReleaseShared = refl
same_test attr.ReleaseGeneric = refl
same_test attr.Excludes = refl
same_test attr.GuardedBy = refl
same_test attr.AcquiredBefore = refl
same_test attr.AcquiredAfter = refl
same_test attr.Capability = refl

pub same_tries : (attrs : List Attr) → list_any (λ a. rules.is_try a.kind) attrs ≡ tries attrs
same_tries [] = refl
same_tries (a ∷ attrs) = ap (λ b. b || list_any (λ a. rules.is_try a.kind) attrs) (same_test a.kind) ∙ ap (λ b. is_try a.kind || b) (same_tries attrs)

contradiction : {A : Type 0} (b : Bool) → b ≡ true → b ≡ false → A
contradiction true h g = absurd cc
contradiction false h g = absurd cc

second : (a b c : Bool) → (a && (b && c)) ≡ true → c ≡ true
second true true c h = h
second true false c h = absurd cc
second false b c h = absurd cc

-- what the profile asks at one of some points
premise_at : (a : Around) (qs : List PlacedPoint) (p : ℕ) (q : PlacedPoint) → first (points_premises a qs) ≡ None → slice_get qs p ≡ Some q
    → first (point_premises a q) ≡ None
unfolding points_premises
premise_at a [] p q h at = absurd cc
premise_at a (x ∷ qs) zero q h at = let same : x ≡ q = cc in subst (λ y. first (point_premises a y) ≡ None) same (none_of_both (point_premises a x) (points_premises a qs) h).0
premise_at a (x ∷ qs) (suc p) q h at = premise_at a qs p q (none_of_both (point_premises a x) (points_premises a qs) h).1 at

module _ (items : List UnitItem) where
  abbrev u : Unit
  u = unit_of [] items

  abbrev p : Program
  p = program_of items

  abbrev function : Declared → Function
  function d = function_in p.layout items d

  -- A body as the profile judges it: beside the functions that are declared up to there, and the locals that never change in it.
  abbrev judged_by : List Declared → Bool → Bodied → Around
  judged_by before does_try b = record { layout = p.layout; attributes = map (attributes_by u) before; tries = does_try; stable = stable_in (body_in b).stable }

  record Judged (b : Bodied) : Type 0 where
    before : List Declared
    more : List Declared
    all : declared_functions (outset items) items ≡ before ++ more
    knows : KnowsFunctions before b.here
    does_try : Bool
    kept : first (points_premises (judged_by before does_try b) (placed_all b.here b.body)) ≡ None

  judged_here : (ds : List Declared) (bodies : List ℕ → Option Bodied) (here : Scope) (head : Head) (body : Statements) (close : Span) (rest : List UnitItem)
      → Reads [] items ds bodies here (body_item head body close ∷ rest)
      → first (points_premises (around u (attributes_behind u (map (attributes_by u) ds) here (body_item head body close)) here head) (points_in here head body)) ≡ None
      → Judged (own_body here head body)
  unfolding stated.items_premises
  judged_here ds bodies here head body close rest r h =
      let item = body_item head body close in
      let there = behind_item here item in
      let n = reads_on [] items ds bodies here item rest r in
      let typed = (typing.none_of_both (stated.item_premises here item) (stated.items_premises there rest) r.typed).0 in
      let told = body_told ds bodies here r.stands head (head_told here head body typed) in
      let only = is_first [] items ds bodies here head body close rest r n told in
      let b = own_body here head body in
      let after = ds ++ first_head here head true in
      let behind = attributes_behind u (map (attributes_by u) ds) here item in
      let known : behind ≡ map (attributes_by u) after = sym (map-append (attributes_by u) ds (first_head here head true)) in
      let stable : stable_of u head ≡ stable_in (body_in b).stable = ap (λ o. stable_in (stable_locals (length head.params) o)) only in
      record {
        before = after;
        more = declared_functions there rest;
        all = n.declared;
        knows = knows_data after (behind_head here head true) (inside here head true) (adds_inside here head true) n.stands.named;
        does_try = tries (own_attributes behind here head);
        kept =
            subst (λ st. first (points_premises (record { layout = p.layout; attributes = map (attributes_by u) after; tries = tries (own_attributes behind here head); stable = st }) (placed_all b.here b.body)) ≡ None) stable
            (subst (λ xs. first (points_premises (record { layout = p.layout; attributes = xs; tries = tries (own_attributes behind here head); stable = stable_of u head }) (placed_all b.here b.body)) ≡ None) known h);
      }

  by_item : (name : List ℕ) (b : Bodied) (ds : List Declared) (bodies : List ℕ → Option Bodied) (here : Scope) (item : UnitItem) (rest : List UnitItem) (other : Option Bodied)
      → Reads [] items ds bodies here (item ∷ rest)
      → first (profile.item_premises u (map (attributes_by u) ds) (attributes_behind u (map (attributes_by u) ds) here item) here item) ≡ None
      → (other ≡ Some b → Judged b) → bodied_by name here item other ≡ Some b → Judged b
  by_item name b ds bodies here (body_item head body close) rest other r h later is = by (bytes_eq name head.name.text) is
    where
      by : (hit : Bool) → or_body hit (own_body here head body) other ≡ Some b → Judged b
      by true is =
          subst Judged (some_same is)
          (judged_here ds bodies here head body close rest r
          (none_of_both (heads_premises u (map (attributes_by u) ds) here head true)
          (points_premises (around u (attributes_behind u (map (attributes_by u) ds) here (body_item head body close)) here head) (points_in here head body)) h).1)
      by false is = later is
  by_item name b ds bodies here (structure_item tag alias attrs members span) rest other r h later is = later is
  by_item name b ds bodies here (alias_item text ctype span) rest other r h later is = later is
  by_item name b ds bodies here (enumeration_item tag alias values span) rest other r h later is = later is
  by_item name b ds bodies here (global_item d) rest other r h later is = later is
  by_item name b ds bodies here (function_item head) rest other r h later is = later is

  judged : (name : List ℕ) (b : Bodied) (ds : List Declared) (bodies : List ℕ → Option Bodied) (here : Scope) (rest : List UnitItem)
      → Reads [] items ds bodies here rest
      → first (profile.items_premises u (map (attributes_by u) ds) here rest) ≡ None → bodied_function name here rest ≡ Some b → Judged b
  unfolding bodied_function profile.items_premises
  judged name b ds bodies here [] r h is = absurd cc
  judged name b ds bodies here (item ∷ rest) r h is =
      let there = behind_item here item in
      let known = map (attributes_by u) ds in
      let behind = attributes_behind u known here item in
      let n = reads_on [] items ds bodies here item rest r in
      let x = none_of_both (profile.item_premises u known behind here item) (profile.items_premises u behind there rest) h in
      let same : behind ≡ map (attributes_by u) (ds ++ declared_by here item) = sym (map-append (attributes_by u) ds (declared_by here item)) in
      by_item name b ds bodies here item rest (bodied_function name there rest) r x.0
      (judged name b (ds ++ declared_by here item) (bodies_behind bodies here item) there rest n (subst (λ xs. first (profile.items_premises u xs there rest) ≡ None) same x.1)) is

  module _ (b : Bodied) (j : Judged b) where
    abbrev a : Around
    a = judged_by j.before j.does_try b

    are : p.functions ≡ map function (j.before ++ j.more)
    are = functions_are items ∙ ap (map function) j.all

    same_function : (n : ℕ) → ((d : Declared) × (slice_get j.before n ≡ Some d))
        → list_any (λ x. rules.is_try x.kind) (function_at p n).attrs ≡ tries (attributes_at a.attributes n)
    same_function n d =
        ap (λ o. list_any (λ x. rules.is_try x.kind) (or_no_function o).attrs) (ways.function_at p j.before j.more function are n d.0 d.1)
        ∙ same_tries (function d.0).attrs ∙ sym (ap tries (ways.attributes_of p j.before j.more function are n d.0 d.1))

    abbrev tried_by : Option ℕ → Bool
    tried_by o = of_callee (λ n. tries (attributes_at a.attributes n)) o

    module _ (here : Scope) where
      called_entry : (args : Arguments) (m : Meaning) (t : ThingType) → Reaches j.before (call_of here args (Some (record { meaning = m; thing = t })))
          → is_a_try p (call_of here args (Some (record { meaning = m; thing = t }))) ≡ true → tried_by (means_function m) ≡ true
      called_entry args (meant.Function n) t reach h = sym (same_function n reach) ∙ h
      called_entry args (meant.Global n) t reach h = absurd cc
      called_entry args (meant.Local n) t reach h = absurd cc
      called_entry args meant.Owned t reach h = absurd cc
      called_entry args (meant.Constant z) t reach h = absurd cc
      called_entry args meant.TypeName t reach h = absurd cc

      called_named : (args : Arguments) (o : Option Entry) → Reaches j.before (call_of here args o) → is_a_try p (call_of here args o) ≡ true
          → tried_by (option_and_then (λ e. means_function e.meaning) o) ≡ true
      called_named args None reach h = absurd cc
      called_named args (Some x) reach h = called_entry args x.meaning x.thing reach h

      -- a call of a try stands where a try may
      no_call_tries : (e : Expression) → has_call e ≡ false → is_a_try p (call_in here e) ≡ true → ⊥
      no_call_tries e free h = contradiction (is_a_try p (call_in here e)) h (ap (is_a_try p) (no_call here e free))

      free_of : (e : Expression) → not (has_call e) ≡ true → has_call e ≡ false
      free_of e = by (has_call e)
        where
          by : (b : Bool) → not b ≡ true → b ≡ false
          by false h = refl
          by true h = absurd cc

      not_whole : (e : Expression) → first (expression (view_at a here) Whole e) ≡ None → Reaches j.before (call_in here e) → is_a_try p (call_in here e) ≡ true → ⊥
      unfolding call_in
      not_whole (call name args span) h reach t =
          let v = view_at a here in
          let e = call name args span in
          let x = none_of_both (own v Whole true e) (parts v Whole e) h in
          let y = none_of_first PF1 span false (premise PF2 span (of_callee (lacks_a_path v args) (callee v e)) ∷ premise PF5 span (is_try_call v e && true) ∷ []) x.0 in
          let z = none_of_first PF2 span (of_callee (lacks_a_path v args) (callee v e)) (premise PF5 span (is_try_call v e && true) ∷ []) y.1 in
          let w = none_of_first PF5 span (is_try_call v e && true) [] z.1 in
          contradiction (is_try_call v e && true) (ap (λ b. b && true) (called_named args (known_in here name.text) reach t)) w.0
      not_whole (number n u span) h reach t = no_call_tries (number n u span) refl t
      not_whole (null span) h reach t = no_call_tries (null span) refl t
      not_whole (named name span) h reach t = no_call_tries (named name span) refl t
      not_whole (unary o inner span) h reach t =
          no_call_tries (unary o inner span) (free_of (unary o inner span) (whole_stands (view_at a here) (unary o inner span) h)) t
      not_whole (binary o left right span) h reach t =
          no_call_tries (binary o left right span) (free_of (binary o left right span) (whole_stands (view_at a here) (binary o left right span) h)) t
      not_whole (field base name arrow span) h reach t =
          no_call_tries (field base name arrow span) (free_of (field base name arrow span) (whole_stands (view_at a here) (field base name arrow span) h)) t
      not_whole (index base at span) h reach t =
          no_call_tries (index base at span) (free_of (index base at span) (whole_stands (view_at a here) (index base at span) h)) t

      begun_stays : (t : ThingType) (e : Expression) → first (local_init a here t (Some (value e))) ≡ None → Reaches j.before (call_in here e)
          → is_a_try p (call_in here e) ≡ true
          → a.stable here.locals ≡ true
      begun_stays t e h reach tries_it = by (begins_a_try a here t) refl h
        where
          by : (begins : Bool) → begins_a_try a here t ≡ begins → first (expression (view_at a here) (standing_of begins) e) ≡ None → a.stable here.locals ≡ true
          by true is g = second (is_int t.kind) (not (is_some t.length)) (a.stable here.locals) is
          by false is g = absurd (not_whole e g reach tries_it)

      init_stays : (kind : Kind) (t : ThingType) (init : Option Initialiser) → first (local_init a here t init) ≡ None
          → Reaches j.before (declared here kind init).call
          → is_a_try p (declared here kind init).call ≡ true → a.stable here.locals ≡ true
      init_stays kind t None h reach tries_it = absurd cc
      init_stays kind t (Some (list xs span)) h reach tries_it = absurd cc
      init_stays kind t (Some (value e)) h reach tries_it = begun_stays t e h reach tries_it

    -- a point of the core program is one that the profile judges
    module _ (result : Kind) (n : ℕ) (k : Known) (at : slice_get (known_in_body b.here b.body) n ≡ Some k) (d : Declaration) (is : k.deed ≡ declares d) (close : Span) where
      abbrev all_placed : List PlacedPoint
      all_placed = placed_all b.here b.body

      seen_same : (o : Option PlacedPoint) → option_map (λ q. seen_at (known_of q)) o ≡ Some (seen_at k)
          → (q : PlacedPoint) × ((o ≡ Some q) × (seen_at (known_of q) ≡ seen_at k))
      seen_same None e = absurd cc
      seen_same (Some q) e = (q, (refl, some_same e))

      placed_there : (q : PlacedPoint) × ((slice_get (all_placed ++ placed (further (declared_in_all b.body) b.here) ends close ∷ []) n ≡ Some q) × (seen_at (known_of q) ≡ seen_at k))
      placed_there =
          let qs = all_placed ++ placed (further (declared_in_all b.body) b.here) ends close ∷ [] in
          seen_same (slice_get qs n)
          (sym (map_at (λ q. seen_at (known_of q)) qs n) ∙ ap (λ xs. slice_get xs n) (placed_are_known b.here b.body close)
          ∙ map_at seen_at (known_in_body b.here b.body) n ∙ ap (option_map seen_at) at)

      deed_same : (q : PlacedPoint) → seen_at (known_of q) ≡ seen_at k → q.deed ≡ declares d
      deed_same q same = ap (λ x. x.deed) same ∙ is

      here_same : (q : PlacedPoint) → seen_at (known_of q) ≡ seen_at k → q.here ≡ k.here
      here_same q same = sym (ap (seen q.here) (deed_same q same)) ∙ ap (λ x. x.here) same ∙ ap (seen k.here) is

      asked : (q : PlacedPoint) → seen_at (known_of q) ≡ seen_at k → slice_get all_placed n ≡ Some q
          → first (local_init a k.here (thing_type k.here d.ctype) d.init) ≡ None
      asked q same front =
          let h = premise_at a all_placed n q j.kept front in
          let g = subst (λ here. first (deed_premises a here q.span (declares d)) ≡ None) (here_same q same)
          (subst (λ x. first (deed_premises a q.here q.span x) ≡ None) (deed_same q same) h) in
          let t = thing_type k.here d.ctype in
          (none_of_first PF4 d.span (not (is_small t)) (local_init a k.here t d.init) g).1

      no_end : (q : PlacedPoint) → seen_at (known_of q) ≡ seen_at k → placed (further (declared_in_all b.body) b.here) ends close ≡ q → ⊥
      no_end q same last =
          let both : ends ≡ declares d = ap (λ x. x.deed) last ∙ deed_same q same in
          absurd cc

      asked_there : first (local_init a k.here (thing_type k.here d.ctype) d.init) ≡ None
      asked_there =
          let x = placed_there in
          by_last all_placed (placed (further (declared_in_all b.body) b.here) ends close) n x.0 x.1.0 (λ front. asked x.0 x.1.1 front) (λ m last. absurd (no_end x.0 x.1.1 last))

      reaches : Reaches j.before (point_of result k).call
      reaches =
          let points = points_reach j.before b.here result b.body j.knows in
          let i = at_index (map (point_of result) (known_in_body b.here b.body)) n (point_of result k) (point_of result k) (map_at (point_of result) (known_in_body b.here b.body) n ∙ ap (option_map (point_of result)) at) in
          subst (λ x. Reaches j.before x.call) i.1 (points n (point_of result k) i.0)

      declared_call : (point_of result k).call ≡ (declared k.here (thing_type k.here d.ctype).kind d.init).call
      declared_call = ap (λ x. (point_by k.here result x).call) is

      stays : is_a_try p (point_of result k).call ≡ true → a.stable k.here.locals ≡ true
      stays h =
          init_stays k.here (thing_type k.here d.ctype).kind (thing_type k.here d.ctype) d.init asked_there (subst (Reaches j.before) declared_call reaches)
          (sym (ap (is_a_try p) declared_call) ∙ h)

-- in a unit in the profile a local that begins with a try never changes
pub tries_stay : (items : List UnitItem) → first_failing items ≡ None → refusal_of_profile items ≡ None → (name : List ℕ) (b : Bodied)
    → bodied_function name (outset items) items ≡ Some b
    → (result : Kind) (n : ℕ) (k : Known) → slice_get (known_in_body b.here b.body) n ≡ Some k → (d : Declaration) → k.deed ≡ declares d
    → is_a_try (program_of items) (point_of result k).call ≡ true → stable_in (body_in b).stable k.here.locals ≡ true
tries_stay items typed fits name b is result n k at d deed h =
    let asked = none_of_both (profile.items_premises (unit_of [] items) [] (outset items) items) (tries_limits (unit_of [] items) [] (outset items) items ++ paths_limits (unit_of [] items) [] (outset items) items) fits in
    let j = judged items name b [] (λ name. None) (outset items) items
    (record { stands = none_came_yet items; declared = refl; bodied = λ name. refl; typed = sym (premises_tell_it items) ∙ typed }) asked.0 is in
    stays items b j result n k at d deed d.span h
