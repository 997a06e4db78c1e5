-- What typing and the profile say of the heads of a unit's functions, and of their bodies.
use Rattle.std.proofs.Common.{◌≡◌, ◌∙◌, ℕ, zero, suc, Bool, true, false, ◌||◌, List, [], ◌∷◌, ◌++◌, map, Option, Some, None, is_some}
use Rattle.std.proofs.Common.{option_map, unwrap_or, slice_get, refl, sym, ap, subst}
use Rattle.std.proofs.lemmas.List.{append-nil, map-append}
use Rattle.std.proofs.lemmas.Slice.Eq.{bytes_eq-Decides}
use Rattle.std.specs.Str.{bytes_eq}
use Rattle.tsa_base.specs.declared.token.Span.{Span}
use Rattle.tsa_tree.specs.declarations.Syntax.{Head}
use Rattle.tsa_tree.specs.statements.Syntax.{Statements}
use Rattle.tsa_tree.specs.types.Heads as heads
use Rattle.tsa_tree.specs.types.Heads.{behind_head, inside}
use Rattle.tsa_tree.specs.types.Premises as typing
use Rattle.tsa_tree.specs.types.Runnable.{has_body}
use Rattle.tsa_tree.specs.types.Scopes.{Scope, found}
use Rattle.tsa_tree.specs.types.Statements.{statements_premises}
use Rattle.tsa_tree.specs.types.Symbols.{number_of}
use Rattle.tsa_tree.specs.types.Units as stated
use Rattle.tsa_tree.specs.types.Units.{around_body, behind_item, body_premises, outset}
use Rattle.tsa_tree.specs.units.Syntax.{UnitItem, structure_item, alias_item, enumeration_item, global_item, function_item, body_item}
use Rattle.tsa_core.specs.Programs.{Attr, Bodied, Declared, bodied_by, bodied_function, declared_by, declared_functions, first_head}
use Rattle.tsa_core.specs.Programs.{or_body, unless_known}
use Rattle.tsa_core.proofs.MappedLists.{map_at}
use Rattle.tsa_core.proofs.NoFailure as typed
use Rattle.tsa_core.proofs.TypedTerms.{some_same}
use Rattle.tsa_core.proofs.BodiesAgree.{Means}
use Rattle.tsa_place_model.proofs.GlobalsInRow.{front_at}
use Rattle.tsa_profile_accesses.specs.Locks.{tries}
use Rattle.tsa_profile_accesses.specs.Premises.{first}
use Rattle.tsa_profile_guards.proofs.NoneFails.{none_of_both}
use Rattle.tsa_profile_points.specs.Bodies.{Around, points_premises}
use Rattle.tsa_core_points.specs.Points.{placed_all}
use Rattle.tsa_profile.specs.Units as profile
use Rattle.tsa_profile.specs.Units.{Unit, around, attributes_behind, attributes_by, heads_premises, points_in, unit_of}
use Rattle.tsa_profile.proofs.FunctionScopes.{Bodies, Stands, body_told, one_meant}
use Rattle.tsa_profile.proofs.PathTables.{Reads, bodies_behind, head_told, none_came_yet, own_body, reads_on}

-- a name that has a body has one
or_has : (name : List ℕ) (hit : Bool) (x b : Bodied) (other : Option Bodied) (rest : Bool) → (other ≡ Some b → rest ≡ true) → or_body hit x other ≡ Some b
    → (hit || rest) ≡ true
or_has name true x b other rest later is = refl
or_has name false x b other rest later is = later is

pub body_has : (name : List ℕ) (here : Scope) (items : List UnitItem) (b : Bodied) → bodied_function name here items ≡ Some b → has_body name items ≡ true
unfolding bodied_function
body_has name here [] b is = absurd cc
body_has name here (body_item head body close ∷ rest) b is =
    let there = behind_item here (body_item head body close) in
    or_has name (bytes_eq name head.name.text) (own_body here head body) b (bodied_function name there rest) (has_body name rest)
    (λ later. body_has name there rest b later) is
body_has name here (structure_item tag alias attrs members span ∷ rest) b is = body_has name (behind_item here (structure_item tag alias attrs members span)) rest b is
body_has name here (alias_item text ctype span ∷ rest) b is = body_has name (behind_item here (alias_item text ctype span)) rest b is
body_has name here (enumeration_item tag alias values span ∷ rest) b is = body_has name (behind_item here (enumeration_item tag alias values span)) rest b is
body_has name here (global_item d ∷ rest) b is = body_has name (behind_item here (global_item d)) rest b is
body_has name here (function_item head ∷ rest) b is = body_has name (behind_item here (function_item head)) rest b is

-- the first body of a name has the name
or_named : (name : List ℕ) (x b : Bodied) (other : Option Bodied) → (other ≡ Some b → name ≡ b.head.name.text) → (hit : Bool) → bytes_eq name x.head.name.text ≡ hit
    → or_body hit x other ≡ Some b → name ≡ b.head.name.text
or_named name x b other later true e is = (bytes_eq-Decides name x.head.name.text).0 e ∙ ap (λ y. y.head.name.text) (some_same is)
or_named name x b other later false e is = later is

pub body_name : (name : List ℕ) (b : Bodied) (here : Scope) (items : List UnitItem) → bodied_function name here items ≡ Some b → name ≡ b.head.name.text
unfolding bodied_function
body_name name b here [] is = absurd cc
body_name name b here (body_item head body close ∷ rest) is =
    let there = behind_item here (body_item head body close) in
    or_named name (own_body here head body) b (bodied_function name there rest) (λ later. body_name name b there rest later) (bytes_eq name head.name.text) refl is
body_name name b here (structure_item tag alias attrs members span ∷ rest) is = body_name name b (behind_item here (structure_item tag alias attrs members span)) rest is
body_name name b here (alias_item text ctype span ∷ rest) is = body_name name b (behind_item here (alias_item text ctype span)) rest is
body_name name b here (enumeration_item tag alias values span ∷ rest) is = body_name name b (behind_item here (enumeration_item tag alias values span)) rest is
body_name name b here (global_item d ∷ rest) is = body_name name b (behind_item here (global_item d)) rest is
body_name name b here (function_item head ∷ rest) is = body_name name b (behind_item here (function_item head)) rest is

module _ (items : List UnitItem) where
  abbrev u : Unit
  u = unit_of [] items

  -- THE FIRST DECLARATION OF A FUNCTION

  pub record HeadJudged (d : Declared) : Type 0 where
    pub known : List (List Attr)
    pub typed_head : typing.first (heads.head_premises d.here d.head d.with_body) ≡ None
    pub asked : first (heads_premises u known d.here d.head d.with_body) ≡ None

  in_either : (xs ys : List Declared) → ((n : ℕ) (d : Declared) → slice_get xs n ≡ Some d → HeadJudged d)
      → ((n : ℕ) (d : Declared) → slice_get ys n ≡ Some d → HeadJudged d)
      → (n : ℕ) (d : Declared) → slice_get (xs ++ ys) n ≡ Some d → HeadJudged d
  in_either [] ys h g n d e = g n d e
  in_either (x ∷ xs) ys h g zero d e = h 0 d e
  in_either (x ∷ xs) ys h g (suc n) d e = in_either xs ys (λ k y f. h (suc k) y f) g n d e

  first_judged : (x : Declared) (b : Bool) → HeadJudged x → (n : ℕ) (d : Declared) → slice_get (unless_known b x) n ≡ Some d → HeadJudged d
  first_judged x true h n d e = absurd cc
  first_judged x false h zero d e = let same : x ≡ d = cc in subst HeadJudged same h
  first_judged x false h (suc n) d e = absurd cc

  none_judged : (n : ℕ) (d : Declared) → slice_get [] n ≡ Some d → HeadJudged d
  none_judged n d e = absurd cc

  item_judged : (known behind : List (List Attr)) (here : Scope) (item : UnitItem) → typing.first (stated.item_premises here item) ≡ None
      → first (profile.item_premises u known behind here item) ≡ None → (n : ℕ) (d : Declared) → slice_get (declared_by here item) n ≡ Some d → HeadJudged d
  unfolding body_premises
  item_judged known behind here (function_item head) t h n d e =
      first_judged (record { here = here; head = head; with_body = false }) (is_some (found here.names head.name.text))
      (record { known = known; typed_head = t; asked = h }) n d e
  item_judged known behind here (body_item head body close) t h n d e =
      let x = typed.none_of_both (heads.head_premises here head true) (statements_premises (around_body here head body) (inside here head true) body) t in
      let y = none_of_both (heads_premises u known here head true) (points_premises (around u behind here head) (points_in here head body)) h in
      first_judged (record { here = here; head = head; with_body = true }) (is_some (found here.names head.name.text))
      (record { known = known; typed_head = x.0; asked = y.0 }) n d e
  item_judged known behind here (structure_item tag alias attrs members span) t h n d e = none_judged n d e
  item_judged known behind here (alias_item text ctype span) t h n d e = none_judged n d e
  item_judged known behind here (enumeration_item tag alias values span) t h n d e = none_judged n d e
  item_judged known behind here (global_item x) t h n d e = none_judged n d e

  pub heads_judged : (known : List (List Attr)) (here : Scope) (rest : List UnitItem) → typing.first (stated.items_premises here rest) ≡ None
      → first (profile.items_premises u known here rest) ≡ None → (n : ℕ) (d : Declared) → slice_get (declared_functions here rest) n ≡ Some d → HeadJudged d
  unfolding stated.items_premises profile.items_premises declared_functions
  heads_judged known here [] t h n d e = none_judged n d e
  heads_judged known here (item ∷ rest) t h n d e =
      let behind = attributes_behind u known here item in
      let x = typed.none_of_both (stated.item_premises here item) (stated.items_premises (behind_item here item) rest) t in
      let y = none_of_both (profile.item_premises u known behind here item) (profile.items_premises u behind (behind_item here item) rest) h in
      in_either (declared_by here item) (declared_functions (behind_item here item) rest) (item_judged known behind here item x.0 y.0)
      (heads_judged behind (behind_item here item) rest x.1 y.1) n d e

  -- THE FIRST BODY OF A NAME

  -- a body as the profile judges it, beside the function of its name
  pub record BodyJudged (b : Bodied) : Type 0 where
    pub here : Scope
    pub begins : b.here ≡ inside here b.head true
    pub typed_head : typing.first (heads.head_premises here b.head true) ≡ None
    pub known : List (List Attr)
    pub asked : first (heads_premises u known here b.head true) ≡ None
    pub number : ℕ
    pub declared : Declared
    pub at : slice_get (declared_functions (outset items) items) number ≡ Some declared
    pub named : declared.head.name.text ≡ b.head.name.text
    pub beside : Around
    pub same_tries : beside.tries ≡ tries (attributes_by u declared)
    pub kept : first (points_premises beside (placed_all b.here b.body)) ≡ None

  judged_here : (ds : List Declared) (bodies : Bodies) (here : Scope) (head : Head) (body : Statements) (close : Span) (rest : List UnitItem)
      → Reads [] items ds bodies here (body_item head body close ∷ rest)
      → first (profile.item_premises u (map (attributes_by u) ds) (attributes_behind u (map (attributes_by u) ds) here (body_item head body close)) here
      (body_item head body close)) ≡ None
      → BodyJudged (own_body here head body)
  unfolding stated.items_premises body_premises
  judged_here ds bodies here head body close rest r h =
      let item = body_item head body close in
      let there = behind_item here item in
      let n = reads_on [] items ds bodies here item rest r in
      let t = (typed.none_of_both (stated.item_premises here item) (stated.items_premises there rest) r.typed).0 in
      let told = body_told ds bodies here r.stands head (head_told here head body t) in
      let after = ds ++ first_head here head true in
      let behind = attributes_behind u (map (attributes_by u) ds) here item in
      let same : behind ≡ map (attributes_by u) after = sym (map-append (attributes_by u) ds (first_head here head true)) in
      let x = typed.none_of_both (heads.head_premises here head true) (statements_premises (around_body here head body) (inside here head true) body) t in
      let y = none_of_both (heads_premises u (map (attributes_by u) ds) here head true) (points_premises (around u behind here head) (points_in here head body)) h in
      let k = number_of here head in
      let d = n.stands.named head.name.text told.means.0 k told.means.1.0 told.means.1.1 in
      record {
        here = here;
        begins = refl;
        typed_head = x.0;
        known = map (attributes_by u) ds;
        asked = y.0;
        number = k;
        declared = d.0;
        at = ap (λ xs. slice_get xs k) n.declared ∙ front_at after (declared_functions there rest) k d.0 d.1.0;
        named = d.1.1;
        beside = around u behind here head;
        same_tries =
            ap (λ xs. tries (unwrap_or (slice_get xs k) [])) same
            ∙ ap (λ o. tries (unwrap_or o [])) (map_at (attributes_by u) after k ∙ ap (option_map (attributes_by u)) d.1.0);
        kept = y.1;
      }

  by_item : (name : List ℕ) (b : Bodied) (ds : List Declared) (bodies : Bodies) (here : Scope) (item : UnitItem) (rest : List UnitItem) (other : Option Bodied)
      → Reads [] items ds bodies here (item ∷ rest)
      → first (profile.item_premises u (map (attributes_by u) ds) (attributes_behind u (map (attributes_by u) ds) here item) here item) ≡ None
      → (other ≡ Some b → BodyJudged b) → bodied_by name here item other ≡ Some b → BodyJudged b
  by_item name b ds bodies here (body_item head body close) rest other r h later is = by (bytes_eq name head.name.text) is
    where
      by : (hit : Bool) → or_body hit (own_body here head body) other ≡ Some b → BodyJudged b
      by true is = subst BodyJudged (some_same is) (judged_here ds bodies here head body close rest r h)
      by false is = later is
  by_item name b ds bodies here (structure_item tag alias attrs members span) rest other r h later is = later is
  by_item name b ds bodies here (alias_item text ctype span) rest other r h later is = later is
  by_item name b ds bodies here (enumeration_item tag alias values span) rest other r h later is = later is
  by_item name b ds bodies here (global_item d) rest other r h later is = later is
  by_item name b ds bodies here (function_item head) rest other r h later is = later is

  all_judged : (name : List ℕ) (b : Bodied) (ds : List Declared) (bodies : Bodies) (here : Scope) (rest : List UnitItem) → Reads [] items ds bodies here rest
      → first (profile.items_premises u (map (attributes_by u) ds) here rest) ≡ None → bodied_function name here rest ≡ Some b → BodyJudged b
  unfolding bodied_function profile.items_premises
  all_judged name b ds bodies here [] r h is = absurd cc
  all_judged name b ds bodies here (item ∷ rest) r h is =
      let there = behind_item here item in
      let known = map (attributes_by u) ds in
      let behind = attributes_behind u known here item in
      let n = reads_on [] items ds bodies here item rest r in
      let x = none_of_both (profile.item_premises u known behind here item) (profile.items_premises u behind there rest) h in
      let same : behind ≡ map (attributes_by u) (ds ++ declared_by here item) = sym (map-append (attributes_by u) ds (declared_by here item)) in
      by_item name b ds bodies here item rest (bodied_function name there rest) r x.0
      (λ later. all_judged name b (ds ++ declared_by here item) (bodies_behind bodies here item) there rest n
      (subst (λ xs. first (profile.items_premises u xs there rest) ≡ None) same x.1) later) is

  -- before the first item
  reads_all : typing.first (stated.items_premises (outset items) items) ≡ None → Reads [] items [] (λ name. None) (outset items) items
  reads_all t = record { stands = none_came_yet items; declared = refl; bodied = λ name. refl; typed = t }

  pub body_judged : typing.first (stated.items_premises (outset items) items) ≡ None → first (profile.items_premises u [] (outset items) items) ≡ None
      → (name : List ℕ) (b : Bodied) → bodied_function name (outset items) items ≡ Some b → BodyJudged b
  body_judged t h name b is = all_judged name b [] (λ name. None) (outset items) items (reads_all t) h is

  -- at the end each name means one function
  record AtEnd : Type 0 where
    bodies : Bodies
    there : Scope
    stands : Stands (declared_functions (outset items) items) bodies there

  at_end : (ds : List Declared) (bodies : Bodies) (here : Scope) (rest : List UnitItem) → Reads [] items ds bodies here rest → AtEnd
  unfolding declared_functions
  at_end ds bodies here [] r = record { bodies = bodies; there = here; stands = subst (λ xs. Stands xs bodies here) (sym (r.declared ∙ append-nil ds)) r.stands }
  at_end ds bodies here (item ∷ rest) r =
      at_end (ds ++ declared_by here item) (bodies_behind bodies here item) (behind_item here item) rest (reads_on [] items ds bodies here item rest r)

  pub one_function : typing.first (stated.items_premises (outset items) items) ≡ None → (n m : ℕ) (d x : Declared)
      → slice_get (declared_functions (outset items) items) n ≡ Some d → slice_get (declared_functions (outset items) items) m ≡ Some x
      → d.head.name.text ≡ x.head.name.text → d ≡ x
  one_function t n m d x at other name =
      let e = at_end [] (λ name. None) (outset items) items (reads_all t) in
      let same = one_meant e.there d.head.name.text n m (e.stands.meant_by n d at) (subst (λ y. Means e.there y m) (sym name) (e.stands.meant_by m x other)) in
      some_same (sym at ∙ ap (slice_get (declared_functions (outset items) items)) same ∙ other)
