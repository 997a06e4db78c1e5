-- Behind the items of a typed unit the table of paths is that of the core program's functions.
use Rattle.std.proofs.Common.{◌≡◌, ◌∙◌, ℕ, zero, suc, arith, Bool, true, false, List, [], ◌∷◌, ◌++◌, map, Option, Some, None, is_some}
use Rattle.std.proofs.Common.{slice_get, slice_set, refl, sym, ap, ap₂, subst, append_assoc}
use Rattle.std.proofs.lemmas.List.{append-nil, map-append}
use Rattle.std.proofs.lemmas.Slice.Eq.{bytes_eq-Decides}
use Rattle.std.specs.Str.{bytes_eq}
use Rattle.tsa_base.specs.declared.token.Span.{Span}
use Rattle.tsa_tree.specs.declarations.Syntax.{Head}
use Rattle.tsa_tree.specs.declared.kind.Declaring.TheVariants as declaring
use Rattle.tsa_tree.specs.declared.meaning.Entry.{Entry}
use Rattle.tsa_tree.specs.declared.premise.Bearer.TheVariants as on
use Rattle.tsa_tree.specs.statements.Syntax.{Statements}
use Rattle.tsa_tree.specs.types.Attributes.{attributes_premises}
use Rattle.tsa_tree.specs.types.DeclaredTypes.{declared_premises}
use Rattle.tsa_tree.specs.types.Heads.{is_another, params_premises, inside, behind_head, head_premises}
use Rattle.tsa_tree.specs.types.Premises.{first}
use Rattle.tsa_tree.specs.types.Scopes.{Scope, found}
use Rattle.tsa_tree.specs.types.Statements.{statements_premises}
use Rattle.tsa_tree.specs.types.Symbols.{number_of}
use Rattle.tsa_tree.specs.types.Units.{outset, around_body, body_premises, behind_item, item_premises, items_premises}
use Rattle.tsa_tree.specs.units.Syntax.{UnitItem, structure_item, alias_item, enumeration_item, global_item, function_item, body_item}
use Rattle.tsa_tree.proofs.types.UnitNodes.{premises_tell_it}
use Rattle.tsa_place_model.specs.Ways.{Way}
use Rattle.tsa_core.specs.Programs.{Bodied, Declared, Program, unless_known, first_head, declared_by, declared_functions, bodied_by}
use Rattle.tsa_core.specs.Programs.{bodied_function, function_in, function_of, program_of}
use Rattle.tsa_core.specs.Programs as program
use Rattle.tsa_core.proofs.NoFailure.{none_of_both}
use Rattle.tsa_core.proofs.TypedTerms.{some_same}
use Rattle.tsa_core.proofs.UnitScopes.{declared_told}
use Rattle.tsa_core.proofs.BodiesAgree.{Means}
use Rattle.tsa_profile.specs.Paths.{paths_if}
use Rattle.tsa_profile_items.specs.Tables.{with_declared, tables_behind, tables_of_all}
use Rattle.tsa_profile.specs.Tables.{PathsAreThoseOfTheCore}
use Rattle.tsa_profile_items.specs.Units.{Unit, attributes_by, attributes_behind, paths_at, points_in, unit_of}
use Rattle.tsa_profile.proofs.AddedNames.{adds_structure, adds_alias, adds_enumeration, adds_global}
use Rattle.tsa_profile.proofs.FunctionPaths.{functions_are, body_paths}
use Rattle.tsa_profile.proofs.FunctionScopes.{Bodies, IsMarked, Stands, TellsBody, stands_data, one_meant, head_stands, none_came}
use Rattle.tsa_profile.proofs.FunctionScopes.{body_told}

-- Lists whose parts are mapped.
mapped_same : {A B : Type 0} (f g : A → B) (xs : List A) → ((n : ℕ) (x : A) → slice_get xs n ≡ Some x → g x ≡ f x) → map f xs ≡ map g xs
mapped_same f g [] h = refl
mapped_same f g (x ∷ xs) h = ap₂ (λ y ys. y ∷ ys) (sym (h 0 x refl)) (mapped_same f g xs (λ n y at. h (suc n) y at))

set_mapped : {A B : Type 0} (f g : A → B) (xs : List A) (n : ℕ) (v : B) → ((x : A) → slice_get xs n ≡ Some x → g x ≡ v)
    → ((m : ℕ) (x : A) → slice_get xs m ≡ Some x → (m ≡ n → ⊥) → g x ≡ f x) → slice_set (map f xs) n v ≡ map g xs
set_mapped f g [] zero v here others = refl
set_mapped f g [] (suc n) v here others = refl
set_mapped f g (x ∷ xs) zero v here others =
    ap₂ (λ y ys. y ∷ ys) (sym (here x refl)) (mapped_same f g xs (λ m y at. others (suc m) y at (λ e. absurd (omega (arith, e)))))
set_mapped f g (x ∷ xs) (suc n) v here others =
    ap₂ (λ y ys. y ∷ ys) (sym (others 0 x refl (λ e. absurd (omega (arith, e)))))
    (set_mapped f g xs n v here (λ m y at other. others (suc m) y at (λ e. other (omega (arith, e)))))

pub map_both : {A B C : Type 0} (f : B → C) (g : A → B) (xs : List A) → map f (map g xs) ≡ map (λ x. f (g x)) xs
map_both f g [] = refl
map_both f g (x ∷ xs) = ap (λ ys. f (g x) ∷ ys) (map_both f g xs)

-- The bodies that came, and those that come.
abbrev pub or_first : Option Bodied → Option Bodied → Option Bodied
or_first None other = other
or_first (Some b) other = Some b

pub or_nothing : (o : Option Bodied) → or_first o None ≡ o
or_nothing None = refl
or_nothing (Some b) = refl

-- the body of an item, and the first of a name
abbrev pub own_body : Scope → Head → Statements → Bodied
own_body here head body = record { here = inside here head true; head = head; body = body }

abbrev pub bodies_behind : Bodies → Scope → UnitItem → Bodies
bodies_behind bodies here (body_item head body close) = λ name. or_first (bodies name) (program.or_body (bytes_eq name head.name.text) (own_body here head body) None)
bodies_behind bodies here item = bodies

first_of_all : (o other : Option Bodied) (hit : Bool) (b : Bodied) → or_first (or_first o (program.or_body hit b None)) other ≡ or_first o (program.or_body hit b other)
first_of_all (Some x) other hit b = refl
first_of_all None other true b = refl
first_of_all None other false b = refl

came_so_far : (bodies : Bodies) (here : Scope) (item : UnitItem) (name : List ℕ) (other : Option Bodied)
    → or_first (bodies_behind bodies here item name) other ≡ or_first (bodies name) (bodied_by name here item other)
came_so_far bodies here (body_item head body close) name other = first_of_all (bodies name) other (bytes_eq name head.name.text) (own_body here head body)
came_so_far bodies here (structure_item tag alias attrs members span) name other = refl
came_so_far bodies here (alias_item text ctype span) name other = refl
came_so_far bodies here (enumeration_item tag alias values span) name other = refl
came_so_far bodies here (global_item d) name other = refl
came_so_far bodies here (function_item head) name other = refl

-- what a typed body tells of its head
pub head_told : (here : Scope) (head : Head) (body : Statements) → first (body_premises here head body) ≡ None → is_another here head true (found here.names head.name.text) ≡ false
unfolding body_premises head_premises
head_told here head body typed =
    let result = declared_premises here declaring.Result (is_another here head true (found here.names head.name.text)) head.name.span head.result in
    let rest = params_premises (behind_head here head true) 0 head.params ++ attributes_premises (inside here head true) on.Function head.attrs in
    (declared_told here declaring.Result (is_another here head true (found here.names head.name.text)) head.name.span head.result
    (none_of_both result rest (none_of_both (head_premises here head true) (statements_premises (around_body here head body) (inside here head true) body) typed).0).0).0

-- the body of an item is among those that came
module _ (ds : List Declared) (bodies : Bodies) (here : Scope) (h : Stands ds bodies here) where
  body_stands : (head : Head) (body : Statements) (close : Span) → TellsBody ds bodies here h head
      → Stands (ds ++ first_head here head true) (bodies_behind bodies here (body_item head body close)) (behind_head here head true)
  body_stands head body close told =
      let same = head_stands ds bodies here h head true in
      record {
        count = same.count;
        named = same.named;
        meant_by = same.meant_by;
        marked = λ name b came. by same name b (bodies name) refl (bytes_eq name head.name.text) refl came;
      }
    where
      by : Stands (ds ++ first_head here head true) bodies (behind_head here head true) → (name : List ℕ) (b : Bodied) (o : Option Bodied) → bodies name ≡ o
          → (hit : Bool) → bytes_eq name head.name.text ≡ hit → or_first o (program.or_body hit (own_body here head body) None) ≡ Some b → IsMarked (behind_head here head true) name
      by same name b (Some x) before hit is came = same.marked name x before
      by same name b None before true is came =
          subst (IsMarked (behind_head here head true)) (sym ((bytes_eq-Decides name head.name.text).0 is)) (number_of here head, (told.means, told.marked))
      by same name b None before false is came = absurd cc

  pub item_stands : (item : UnitItem) → first (item_premises here item) ≡ None → Stands (ds ++ declared_by here item) (bodies_behind bodies here item) (behind_item here item)
  item_stands (structure_item tag alias attrs members span) typed =
      stands_data ds bodies here (behind_item here (structure_item tag alias attrs members span)) (adds_structure here tag alias attrs members span) h
  item_stands (alias_item name ctype span) typed = stands_data ds bodies here (behind_item here (alias_item name ctype span)) (adds_alias here name ctype span) h
  item_stands (enumeration_item tag alias values span) typed =
      stands_data ds bodies here (behind_item here (enumeration_item tag alias values span)) (adds_enumeration here tag alias values span) h
  item_stands (global_item d) typed = stands_data ds bodies here (behind_item here (global_item d)) (adds_global here d) h
  item_stands (function_item head) typed = head_stands ds bodies here h head false
  item_stands (body_item head body close) typed = body_stands head body close (body_told ds bodies here h head (head_told here head body typed))

module _ (outside : List ℕ) (items : List UnitItem) where
  abbrev u : Unit
  u = unit_of outside items

  abbrev p : Program
  p = program_of items

  abbrev start : Scope
  start = outset items

  -- the paths of a function by the bodies that came
  abbrev paths_by : Bodies → Declared → Option (List Way)
  paths_by bodies d = paths_if p (function_of p.layout d (bodies d.head.name.text))

  -- What was declared and what came, beside what is still to come, is all of the unit.
  pub record Reads (ds : List Declared) (bodies : Bodies) (here : Scope) (rest : List UnitItem) : Type 0 where
    pub stands : Stands ds bodies here
    pub declared : declared_functions start items ≡ ds ++ declared_functions here rest
    pub bodied : (name : List ℕ) → or_first (bodies name) (bodied_function name here rest) ≡ bodied_function name start items
    pub typed : first (items_premises here rest) ≡ None

  module _ (ds : List Declared) (bodies : Bodies) (here : Scope) where
    -- a function that is declared for the first time has no paths
    new_none : Stands ds bodies here → (head : Head) (with_body : Bool) (o : Option Entry) → found here.names head.name.text ≡ o
        → map (λ d. None) (unless_known (is_some o) (record { here = here; head = head; with_body = with_body }))
        ≡ map (paths_by bodies) (unless_known (is_some o) (record { here = here; head = head; with_body = with_body }))
    new_none h head with_body (Some e) is = refl
    new_none h head with_body None is =
        ap (λ o. paths_if p (function_of p.layout (record { here = here; head = head; with_body = with_body }) o) ∷ []) (sym (none_came ds bodies here h head.name.text is))

    new_ones : Stands ds bodies here → (item : UnitItem) → map (λ d. None) (declared_by here item) ≡ map (paths_by bodies) (declared_by here item)
    new_ones h (structure_item tag alias attrs members span) = refl
    new_ones h (alias_item text ctype span) = refl
    new_ones h (enumeration_item tag alias values span) = refl
    new_ones h (global_item d) = refl
    new_ones h (function_item head) = new_none h head false (found here.names head.name.text) refl
    new_ones h (body_item head body close) = new_none h head true (found here.names head.name.text) refl

    declared_tables : Stands ds bodies here → (item : UnitItem) → with_declared (map (paths_by bodies) ds) here item ≡ map (paths_by bodies) (ds ++ declared_by here item)
    declared_tables h item = ap (λ ys. map (paths_by bodies) ds ++ ys) (new_ones h item) ∙ sym (map-append (paths_by bodies) ds (declared_by here item))

    -- what is read of a unit behind an item
    pub reads_on : (item : UnitItem) (rest : List UnitItem) → Reads ds bodies here (item ∷ rest)
        → Reads (ds ++ declared_by here item) (bodies_behind bodies here item) (behind_item here item) rest
    unfolding declared_functions bodied_function items_premises
    reads_on item rest r =
        let there = behind_item here item in
        let told = none_of_both (item_premises here item) (items_premises there rest) r.typed in
        record {
          stands = item_stands ds bodies here r.stands item told.0;
          declared = r.declared ∙ sym (append_assoc ds (declared_by here item) (declared_functions there rest));
          bodied = λ name. came_so_far bodies here item name (bodied_function name there rest) ∙ r.bodied name;
          typed = told.1;
        }

    module _ (head : Head) (body : Statements) (close : Span) (rest : List UnitItem) (r : Reads ds bodies here (body_item head body close ∷ rest))
        (n : Reads (ds ++ first_head here head true) (bodies_behind bodies here (body_item head body close)) (behind_head here head true) rest)
        (told : TellsBody ds bodies here r.stands head) where
      abbrev pub after : List Declared
      after = ds ++ first_head here head true

      abbrev pub came : Bodies
      came = bodies_behind bodies here (body_item head body close)

      pub came_own : came head.name.text ≡ Some (own_body here head body)
      came_own =
          ap (λ o. or_first o (program.or_body (bytes_eq head.name.text head.name.text) (own_body here head body) None)) told.unknown
          ∙ ap (λ hit. program.or_body hit (own_body here head body) None) ((bytes_eq-Decides head.name.text head.name.text).1 refl)

      pub is_first : bodied_function head.name.text start items ≡ Some (own_body here head body)
      is_first = sym (n.bodied head.name.text) ∙ ap (λ o. or_first o (bodied_function head.name.text (behind_head here head true) rest)) came_own

      -- the function of the body's number has the body's name, and no other one has it
      pub own_name : (d : Declared) → slice_get after (number_of here head) ≡ Some d → d.head.name.text ≡ head.name.text
      own_name d at =
          let x = n.stands.named head.name.text told.means.0 (number_of here head) told.means.1.0 told.means.1.1 in
          ap (λ y. y.head.name.text) (some_same (sym at ∙ x.1.0)) ∙ x.1.1

      own_paths : (d : Declared) → slice_get after (number_of here head) ≡ Some d
          → paths_by came d ≡ paths_at u (map (attributes_by u) after) here head (points_in here head body)
      own_paths d at =
          let name = own_name d at in
          let first_there : bodied_function d.head.name.text start items ≡ Some (own_body here head body) = ap (λ x. bodied_function x start items) name ∙ is_first in
          ap (λ o. paths_if p (function_of p.layout d o)) (ap came name ∙ came_own)
          ∙ sym (body_paths outside items after (declared_functions (behind_head here head true) rest) n.declared here head body d close n.stands.named at first_there is_first)

      other_paths : (m : ℕ) (d : Declared) → slice_get after m ≡ Some d → (m ≡ number_of here head → ⊥) → paths_by came d ≡ paths_by bodies d
      other_paths m d at other = by (bytes_eq d.head.name.text head.name.text) refl
        where
          by : (hit : Bool) → bytes_eq d.head.name.text head.name.text ≡ hit → paths_by came d ≡ paths_by bodies d
          by true is =
              let name = (bytes_eq-Decides d.head.name.text head.name.text).0 is in
              absurd (other (one_meant (behind_head here head true) head.name.text m (number_of here head) (subst (λ x. Means (behind_head here head true) x m) name (n.stands.meant_by m d at)) told.means))
          by false is =
              ap (λ o. paths_if p (function_of p.layout d o))
              (ap (λ hit. or_first (bodies d.head.name.text) (program.or_body hit (own_body here head body) None)) is ∙ or_nothing (bodies d.head.name.text))

      body_tables : tables_behind u (map (attributes_by u) after) (map (paths_by bodies) ds) here (body_item head body close) ≡ map (paths_by came) after
      body_tables =
          ap (λ ts. slice_set ts (number_of here head) (paths_at u (map (attributes_by u) after) here head (points_in here head body)))
          (declared_tables r.stands (body_item head body close))
          ∙ set_mapped (paths_by bodies) (paths_by came) after (number_of here head) (paths_at u (map (attributes_by u) after) here head (points_in here head body)) own_paths other_paths

    -- the table behind an item
    item_tables : (item : UnitItem) (rest : List UnitItem) → (r : Reads ds bodies here (item ∷ rest))
        → Reads (ds ++ declared_by here item) (bodies_behind bodies here item) (behind_item here item) rest
        → first (item_premises here item) ≡ None
        → tables_behind u (map (attributes_by u) (ds ++ declared_by here item)) (map (paths_by bodies) ds) here item ≡ map (paths_by (bodies_behind bodies here item)) (ds ++ declared_by here item)
    item_tables (structure_item tag alias attrs members span) rest r n typed = declared_tables r.stands (structure_item tag alias attrs members span)
    item_tables (alias_item text ctype span) rest r n typed = declared_tables r.stands (alias_item text ctype span)
    item_tables (enumeration_item tag alias values span) rest r n typed = declared_tables r.stands (enumeration_item tag alias values span)
    item_tables (global_item d) rest r n typed = declared_tables r.stands (global_item d)
    item_tables (function_item head) rest r n typed = declared_tables r.stands (function_item head)
    item_tables (body_item head body close) rest r n typed =
        body_tables head body close rest r n (body_told ds bodies here r.stands head (head_told here head body typed))

  -- at the end all bodies came
  at_the_end : (ds : List Declared) (bodies : Bodies) (here : Scope) → Reads ds bodies here [] → map (paths_by bodies) ds ≡ map (paths_if p) p.functions
  unfolding declared_functions bodied_function
  at_the_end ds bodies here r =
      mapped_same (paths_by bodies) (λ d. paths_if p (function_in p.layout items d)) ds
      (λ n d at. ap (λ o. paths_if p (function_of p.layout d o)) (sym (r.bodied d.head.name.text) ∙ or_nothing (bodies d.head.name.text)))
      ∙ ap (map (λ d. paths_if p (function_in p.layout items d))) (sym (r.declared ∙ append-nil ds))
      ∙ sym (map_both (paths_if p) (function_in p.layout items) (declared_functions start items))
      ∙ ap (map (paths_if p)) (sym (functions_are items))

  all_tables : (ds : List Declared) (bodies : Bodies) (here : Scope) (rest : List UnitItem) → Reads ds bodies here rest
      → tables_of_all u (map (attributes_by u) ds) (map (paths_by bodies) ds) here rest ≡ map (paths_if p) p.functions
  unfolding tables_of_all items_premises
  all_tables ds bodies here [] r = at_the_end ds bodies here r
  all_tables ds bodies here (item ∷ rest) r =
      let there = behind_item here item in
      let after = ds ++ declared_by here item in
      let n = reads_on ds bodies here item rest r in
      let behind : attributes_behind u (map (attributes_by u) ds) here item ≡ map (attributes_by u) after = sym (map-append (attributes_by u) ds (declared_by here item)) in
      let typed = (none_of_both (item_premises here item) (items_premises there rest) r.typed).0 in
      ap (λ known. tables_of_all u known (tables_behind u known (map (paths_by bodies) ds) here item) there rest) behind
      ∙ ap (λ ts. tables_of_all u (map (attributes_by u) after) ts there rest) (item_tables ds bodies here item rest r n typed)
      ∙ all_tables after (bodies_behind bodies here item) there rest n

-- before the first item
pub none_came_yet : (items : List UnitItem) → Stands [] (λ name. None) (outset items)
none_came_yet items = record {
  count = refl;
  named = λ name e n is means. absurd cc;
  meant_by = none_at;
  marked = λ name b is. absurd cc;
}
  where
    none_at : (n : ℕ) (d : Declared) → slice_get [] n ≡ Some d → Means (outset items) d.head.name.text n
    none_at zero d e = absurd cc
    none_at (suc n) d e = absurd cc

pub paths_are_those_of_the_core : PathsAreThoseOfTheCore
paths_are_those_of_the_core outside items typed =
    all_tables outside items [] (λ name. None) (outset items) items
    (record { stands = none_came_yet items; declared = refl; bodied = λ name. refl; typed = sym (premises_tell_it items) ∙ typed })
