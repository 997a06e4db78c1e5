-- A global that is declared behind all items of a unit holds at the start what its initialiser is worth there.
use Rattle.std.proofs.Common.{◌≡◌, ◌∙◌, ℕ, suc, Bool, true, false, not, ◌&&◌, List, [], ◌∷◌, ◌++◌, length, Option, Some, None, is_none}
use Rattle.std.proofs.Common.{slice_get, if◌then◌else◌, refl, sym, ap, ap₂, subst}
use Rattle.tsa_base.specs.declared.value.Value.{Value}
use Rattle.tsa_tree.specs.declarations.Syntax.{Declaration, value}
use Rattle.tsa_tree.specs.declared.kind.Declaring.TheVariants as declaring
use Rattle.tsa_tree.specs.declared.kind.Kind.{Kind}
use Rattle.tsa_tree.specs.declared.kind.Kind.TheVariants as type
use Rattle.tsa_tree.specs.declared.kind.ThingType.{ThingType}
use Rattle.tsa_tree.specs.declared.meaning.Tag.TheVariants as kept
use Rattle.tsa_tree.specs.declared.premise.TypeCode.TheVariants.{TY9}
use Rattle.tsa_tree.specs.expressions.Syntax.{Expression}
use Rattle.tsa_tree.specs.points.Syntax.{expression_span}
use Rattle.tsa_tree.specs.types.Attributes.{attributes_premises}
use Rattle.tsa_tree.specs.types.DeclaredTypes.{thing_type, length_premises, typed_premises}
use Rattle.tsa_tree.specs.types.Expressions.{type_of, premises_of, known_and}
use Rattle.tsa_tree.specs.types.Globals.{global_init, global_premises, inside_global, with_global, bearer_of}
use Rattle.tsa_tree.specs.types.Initialisers.{cell_premises, initialiser_premises, is_constant_for}
use Rattle.tsa_tree.specs.types.Operands.{goes_to}
use Rattle.tsa_tree.specs.types.Premises.{premise, first}
use Rattle.tsa_tree.specs.types.Scopes.{Scope, context_of, is_taken}
use Rattle.tsa_tree.specs.types.Units.{Tags, with_tag, is_marked, outset, tags_behind, locks_of, item_premises, behind_item, items_premises}
use Rattle.tsa_tree.specs.units.Syntax.{UnitItem, structure_item, alias_item, enumeration_item, global_item, function_item, body_item}
use Rattle.tsa_place_model.specs.Calls.{Layout}
use Rattle.tsa_place_model.specs.declared.place.Placed.{Placed}
use Rattle.tsa_place_model.specs.Places.{Given, Values, Inside, a_place, kind_places, places_inside, places_of}
use Rattle.tsa_place_model.specs.Layouts.{size_of}
use Rattle.tsa_place_model.specs.Items.{known_global, global_part, behind_data}
use Rattle.tsa_place_model.specs.GlobalPlaces.{cell_value, given_by, values_in, no_places}
use Rattle.tsa_place_model.specs.Units.{data_placed, laid_behind}
use Rattle.tsa_core.proofs.KindTests.{both_true, not_false}
use Rattle.tsa_core.proofs.NoFailure.{keeps_typed, none_of_both, none_of_first}
use Rattle.tsa_core.proofs.ScopesAlike.{Alike}
use Rattle.tsa_core.proofs.TypedTerms.{some_same}
use Rattle.tsa_core.proofs.UnitScopes.{global_told, item_alike, part_same}
use Rattle.tsa_profile.specs.Arguments.{behind_items}
use Rattle.tsa_profile.specs.ArgumentLaws.{DeclaredGlobalsHoldIt}
use Rattle.tsa_profile.proofs.EndingScopes.{cell_is, data_behind}

-- TAGS AND LOCKS ARE THOSE OF THE ITEMS

tags_same : (d : Declaration) (tags : Tags) (n : ℕ) (items : List UnitItem) → tags_behind tags n (items ++ global_item d ∷ []) ≡ tags_behind tags n items
unfolding tags_behind
tags_same d tags n [] = refl
tags_same d tags n (structure_item tag alias attrs members span ∷ rest) = tags_same d (with_tag tag (kept.Structure n) tags) (suc n) rest
tags_same d tags n (enumeration_item tag alias values span ∷ rest) = tags_same d (with_tag tag (kept.Enumeration span.from) tags) n rest
tags_same d tags n (alias_item name ctype span ∷ rest) = tags_same d tags n rest
tags_same d tags n (global_item g ∷ rest) = tags_same d tags n rest
tags_same d tags n (function_item head ∷ rest) = tags_same d tags n rest
tags_same d tags n (body_item head body close ∷ rest) = tags_same d tags n rest

locks_same : (d : Declaration) (items : List UnitItem) → locks_of (items ++ global_item d ∷ []) ≡ locks_of items
unfolding locks_of
locks_same d [] = refl
locks_same d (structure_item tag alias attrs members span ∷ rest) = ap (λ locks. is_marked attrs ∷ locks) (locks_same d rest)
locks_same d (enumeration_item tag alias values span ∷ rest) = locks_same d rest
locks_same d (alias_item name ctype span ∷ rest) = locks_same d rest
locks_same d (global_item g ∷ rest) = locks_same d rest
locks_same d (function_item head ∷ rest) = locks_same d rest
locks_same d (body_item head body close ∷ rest) = locks_same d rest

outset_same : (d : Declaration) (items : List UnitItem) → outset (items ++ global_item d ∷ []) ≡ outset items
outset_same d items =
    ap₂ (λ tags locks. record { tags = tags; locks = locks; structs = []; owned = []; names = []; functions = []; globals = 0; locals = 0 })
    (tags_same d [] 0 items) (locks_same d items)

-- BEHIND ALL ITEMS

alike_last : (here there : Scope) (items : List UnitItem) (last : UnitItem) → Alike here there → first (items_premises here (items ++ last ∷ [])) ≡ None
    → Alike (behind_items here items) (data_behind there items) × (first (item_premises (behind_items here items) last) ≡ None)
unfolding items_premises behind_items
alike_last here there [] last alike h = (alike, (none_of_both (item_premises here last) [] h).0)
alike_last here there (item ∷ rest) last alike h =
    let both = none_of_both (item_premises here item) (items_premises (behind_item here item) (rest ++ last ∷ [])) h in
    alike_last (behind_item here item) (behind_data there item) rest last (item_alike here there item alike both.0) both.1

laid_last : (here : Scope) (front : Layout) (items : List UnitItem) (last : UnitItem)
    → data_placed (data_behind here items) (laid_behind here front items) last ≡ laid_behind here front (items ++ last ∷ [])
unfolding laid_behind
laid_last here front [] last = refl
laid_last here front (item ∷ rest) last = laid_last (behind_data here item) (data_placed here front item) rest last

-- THE FIRST PLACE OF A THING

at_length : (xs : List Placed) (x : Placed) (rest : List Placed) → slice_get (xs ++ x ∷ rest) (length xs) ≡ Some x
at_length [] x rest = refl
at_length (y ∷ xs) x rest = at_length xs x rest

module _ (inside : Inside) (size : ℕ → ℕ) (values : Values) (g : Given) (o : ℕ) (xs : List Placed) where
  first_of_kind : (kind : Kind) → slice_get (xs ++ kind_places inside size values g None o kind) (length xs) ≡ Some (a_place values g None kind)
  first_of_kind (type.Structure n) = at_length xs (a_place values g None (type.Structure n)) (inside n o g)
  first_of_kind type.Int = at_length xs (a_place values g None type.Int) []
  first_of_kind type.Unsigned = at_length xs (a_place values g None type.Unsigned) []
  first_of_kind type.Void = at_length xs (a_place values g None type.Void) []
  first_of_kind (type.Pointer target to_const) = at_length xs (a_place values g None (type.Pointer target to_const)) []
  first_of_kind type.Null = at_length xs (a_place values g None type.Null) []
  first_of_kind type.Function = at_length xs (a_place values g None type.Function) []

first_placed : (l : Layout) (values : Values) (g : Given) (t : ThingType) → t.length ≡ None
    → slice_get (l.places ++ places_of l.structs values g (length l.places) t) (length l.places) ≡ Some (a_place values g None t.kind)
first_placed l values g t one = by t.kind t.length t.is_const one
  where
    by : (kind : Kind) (n : Option ℕ) (is_const : Bool) → n ≡ None
        → slice_get (l.places ++ places_of l.structs values g (length l.places) (record { kind = kind; length = n; is_const = is_const })) (length l.places) ≡ Some (a_place values g None kind)
    by kind None is_const one = first_of_kind (places_inside l.structs values) (size_of l.structs) values g (length l.places) l.places kind
    by kind (Some n) is_const one = absurd cc

-- A CELL THAT IS TYPED

no_length : (n : Option ℕ) → is_none n ≡ true → n ≡ None
no_length None h = refl
no_length (Some k) h = absurd cc

module _ (here : Scope) (d : Declaration) (e : Expression) (given : d.init ≡ Some (value e)) (typed : first (global_premises here d) ≡ None) where
  abbrev inner : Scope
  inner = with_global here d

  abbrev thing : ThingType
  thing = thing_type here d.ctype

  init_told : first (global_init inner here.globals thing (Some (value e))) ≡ None
  unfolding inside_global
  init_told =
      let both = none_of_both (typed_premises here declaring.Thing (is_taken d.name.text here) d.span d.ctype) (inside_global inner here.globals thing d) typed in
      let rest = none_of_both (length_premises (context_of inner) d.ctype.length) (attributes_premises inner (bearer_of inner thing) d.attrs ++ global_init inner here.globals thing d.init) both.1 in
      subst (λ i. first (global_init inner here.globals thing i) ≡ None) given
      (none_of_both (attributes_premises inner (bearer_of inner thing) d.attrs) (global_init inner here.globals thing d.init) rest.1).1

  cell_told : (thing.length ≡ None) × (is_constant_for (context_of inner) here.globals thing.kind e ≡ true)
  unfolding initialiser_premises cell_premises
  cell_told =
      let c = context_of inner in
      let own = here.globals in
      let both = none_of_both (premises_of c e) (premise TY9 (expression_span e) (known_and (λ x. not (goes_to x thing && is_constant_for c own thing.kind e)) (type_of c e)) ∷ []) init_told in
      let x = keeps_typed c e both.0 in
      let told = (none_of_first TY9 (expression_span e) (known_and (λ x. not (goes_to x thing && is_constant_for c own thing.kind e)) (type_of c e)) [] both.1).0 in
      let kept = not_false (goes_to x.0 thing && is_constant_for c own thing.kind e) (sym (ap (known_and (λ x. not (goes_to x thing && is_constant_for c own thing.kind e))) x.1) ∙ told) in
      let parts = both_true (goes_to x.0 thing) (is_constant_for c own thing.kind e) kept in
      (no_length thing.length (both_true (is_none thing.length) _ parts.0).0, parts.1)

  -- the first place of the global behind those of a layout
  initial_is : (there : Scope) → Alike here there → (l : Layout) (p : Placed) → slice_get (data_placed there l (global_item d)).places (length l.places) ≡ Some p
      → p.initial ≡ cell_value here l thing.kind e
  initial_is there alike l p at =
      let same = part_same here there alike d.ctype (global_told here d typed).1 in
      let values = values_in (known_global there d) l in
      let g = given_by (global_part there d) (length l.globals) d.init in
      let placed : slice_get (l.places ++ places_of l.structs values g (length l.places) thing) (length l.places) ≡ Some p =
      ap (λ t. slice_get (l.places ++ places_of l.structs values g (length l.places) t) (length l.places)) (sym same) ∙ at in
      ap (λ q. q.initial) (some_same (sym placed ∙ first_placed l values g thing cell_told.0))
      ∙ ap (values thing.kind) given
      ∙ cell_is here there alike d typed l thing.kind e cell_told.1

-- THE UNIT

alone : (items : List UnitItem) → Alike (outset items) (outset items)
alone items = record { tags = refl; structs = refl; owned = refl; no_owned = refl; globals = refl; names = λ name. refl }

seen_value : (b : Bool) (v x : Value) → (if b then Some v else None) ≡ Some x → v ≡ x
seen_value true v x h = some_same h
seen_value false v x h = absurd cc

pub declared_globals_hold_it : DeclaredGlobalsHoldIt
declared_globals_hold_it items d e l m p x typed given placed further at seen =
    let o = outset items in
    let same = outset_same d items in
    let told = alike_last o o items (global_item d) (alone items) (ap (λ s. first (items_premises s (items ++ global_item d ∷ []))) (sym same) ∙ typed) in
    let m_is =
    ap (λ k. data_placed (data_behind o items) k (global_item d)) (sym placed)
    ∙ laid_last o no_places items (global_item d)
    ∙ ap (λ s. laid_behind s no_places (items ++ global_item d ∷ [])) (sym same)
    ∙ further in
    initial_is (behind_items o items) d e given told.1 (data_behind o items) told.0 l p (ap (λ k. slice_get k.places (length l.places)) m_is ∙ at)
    ∙ seen_value _ (cell_value (behind_items o items) l (thing_type (behind_items o items) d.ctype).kind e) x seen
