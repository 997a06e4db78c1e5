-- Where a body begins, functions that are known by name have the results and the parameters of the program's functions; and a body's text
-- is sound.
use Rattle.std.proofs.Common.{◌≡◌, ◌∙◌, ℕ, ℤ, suc, ◌+ℤ◌, pos, Bool, true, false, List, [], ◌∷◌, ◌++◌, All, slice_index_or, length, map}
use Rattle.std.proofs.Common.{Option, Some, None, is_some, option_map, slice_get, refl, sym, ap, subst, append_assoc}
use Rattle.std.proofs.lemmas.List.{append-nil}
use Rattle.std.proofs.lemmas.List.Elements.{All-append, All-cons, All-nil}
use Rattle.std.specs.Str.{bytes_eq}
use Rattle.tsa_tree.specs.declarations.Syntax.{EnumConstant, Parameter, Head}
use Rattle.tsa_tree.specs.declared.kind.Kind.{Kind}
use Rattle.tsa_tree.specs.declared.kind.Kind.TheVariants as type
use Rattle.tsa_tree.specs.declared.kind.ThingType.{ThingType}
use Rattle.tsa_tree.specs.declared.meaning.Entry.{Entry}
use Rattle.tsa_tree.specs.declared.meaning.Meaning.{Meaning}
use Rattle.tsa_tree.specs.declared.meaning.Meaning.TheVariants as meant
use Rattle.tsa_tree.specs.expressions.Syntax.{Identifier}
use Rattle.tsa_tree.specs.statements.Sound.{SoundStatements}
use Rattle.tsa_tree.specs.expressions.Sound.{all_words}
use Rattle.tsa_tree.specs.types.DeclaredTypes.{thing_type}
use Rattle.tsa_tree.specs.types.Enums.{enumerator_entry, enumerator_value, behind_enumerators}
use Rattle.tsa_tree.specs.types.Globals.{global_entry}
use Rattle.tsa_tree.specs.types.Heads.{params_of, declares_function, function_entry, or_body, bodied, again, behind_known, behind_head}
use Rattle.tsa_tree.specs.types.Heads.{local_entry, with_param, inside_params, inside}
use Rattle.tsa_tree.specs.types.Scopes.{Scope, FunctionEntry, found, with_name, with_named, with_struct, a_type_name}
use Rattle.tsa_tree.specs.types.Structs.{members_behind}
use Rattle.tsa_tree.specs.types.Types.{single}
use Rattle.tsa_tree.specs.types.Units.{outset, behind_item}
use Rattle.tsa_tree.specs.units.Sound.{SpellableItem, SpellableItems}
use Rattle.tsa_tree.specs.units.Syntax.{UnitItem, structure_item, alias_item, enumeration_item, global_item, function_item, body_item}
use Rattle.tsa_tree.specs.types.Lookups.{params_in}
use Rattle.tsa_place_model.proofs.GlobalsInRow.{front_at, last_at}
use Rattle.tsa_core.proofs.MappedLists.{map_append, map_length, map_set, map_at}
use Rattle.tsa_core.specs.PointKinds.{Signatures}
use Rattle.tsa_core.specs.Programs.{Declared, unless_known, first_head, declared_by, declared_functions, Bodied, bodied_by, bodied_function}
use Rattle.tsa_core.specs.Programs as program
use Rattle.tsa_core.proofs.TypedTerms.{some_same}

abbrev pub result_kind : Declared → Kind
result_kind d = (thing_type d.here d.head.result).kind

abbrev pub own_params : Declared → List ThingType
own_params d = params_of d.here d.head.params

-- the function of a number gives a kind
abbrev pub HasResult : List Declared → ℕ → Kind → Type 0
HasResult ds n kind = (d : Declared) × ((slice_get ds n ≡ Some d) × (result_kind d ≡ kind))

longer : (ds more : List Declared) (n : ℕ) (kind : Kind) → HasResult ds n kind → HasResult (ds ++ more) n kind
longer ds more n kind h = (h.0, (front_at ds more n h.0 h.1.0, h.1.1))

abbrev pub HasItsResult : List Declared → List ℕ × Entry → Type 0
HasItsResult ds x = (n : ℕ) → x.1.meaning ≡ meant.Function n → HasResult ds n x.1.thing.kind

abbrev pub HaveTheirResults : List Declared → Scope → Type 0
HaveTheirResults ds here = All (HasItsResult ds) here.names

-- functions have the parameters and the results of those that are declared, in order
abbrev pub Signature : Type 0
Signature = List ThingType × Kind

abbrev pub entry_signed : FunctionEntry → Signature
entry_signed f = (f.params, f.result.kind)

abbrev pub own_signed : Declared → Signature
own_signed d = (own_params d, result_kind d)

abbrev pub Agree : List Declared → Scope → Type 0
Agree ds here = (map entry_signed here.functions ≡ map own_signed ds) × HaveTheirResults ds here

named_longer : (ds more : List Declared) (here : Scope) → HaveTheirResults ds here → HaveTheirResults (ds ++ more) here
named_longer ds more here h k d less n is = longer ds more n (slice_index_or here.names k d).1.thing.kind (h k d less n is)

further_name : (ds : List Declared) (here : Scope) (name : List ℕ) (e : Entry) → HasItsResult ds (name, e) → HaveTheirResults ds here → HaveTheirResults ds (with_name name e here)
further_name ds here name e own h = All-append (HasItsResult ds) here.names ((name, e) ∷ []) h (All-cons (HasItsResult ds) (name, e) [] own (All-nil (HasItsResult ds)))

further_named : (ds : List Declared) (here : Scope) (name : Option Identifier) (e : Entry) → ((text : List ℕ) → HasItsResult ds (text, e)) → HaveTheirResults ds here → HaveTheirResults ds (with_named name e here)
further_named ds here None e own h = h
further_named ds here (Some name) e own h = further_name ds here name.text e (own name.text) h

module _ (ds : List Declared) where
  enumerators_named : (here : Scope) (next : ℤ) (values : List EnumConstant) → HaveTheirResults ds here → HaveTheirResults ds (behind_enumerators here next values)
  unfolding behind_enumerators
  enumerators_named here next [] h = h
  enumerators_named here next (e ∷ rest) h =
      enumerators_named (with_name e.name.text (enumerator_entry (enumerator_value here e next)) here) (enumerator_value here e next +ℤ pos 1) rest
      (further_name ds here e.name.text (enumerator_entry (enumerator_value here e next)) (λ n is. absurd cc) h)

  enumerators_same : (here : Scope) (next : ℤ) (values : List EnumConstant) → (behind_enumerators here next values).functions ≡ here.functions
  unfolding behind_enumerators
  enumerators_same here next [] = refl
  enumerators_same here next (e ∷ rest) = enumerators_same (with_name e.name.text (enumerator_entry (enumerator_value here e next)) here) (enumerator_value here e next +ℤ pos 1) rest

  alias_same : (here : Scope) (alias : Option Identifier) (t : ThingType) → (with_named alias (a_type_name t) here).functions ≡ here.functions
  alias_same here None t = refl
  alias_same here (Some name) t = refl

  bodied_agree : (here : Scope) (with_body : Bool) (k : ℕ) (o : Option FunctionEntry) → slice_get here.functions k ≡ o → Agree ds here → Agree ds (bodied here with_body k o)
  bodied_agree here with_body k None is h = h
  bodied_agree here with_body k (Some f) is h = (map_set entry_signed here.functions k f (or_body with_body f) is refl ∙ h.0, h.1)

  again_agree : (here : Scope) (head : Head) (with_body : Bool) (m : Meaning) → Agree ds here → Agree ds (again here head with_body m)
  again_agree here head with_body (meant.Function k) h = bodied_agree here with_body k (slice_get here.functions k) refl h
  again_agree here head with_body (meant.Global k) h = h
  again_agree here head with_body (meant.Local k) h = h
  again_agree here head with_body meant.Owned h = h
  again_agree here head with_body (meant.Constant z) h = h
  again_agree here head with_body meant.TypeName h = h

  last_named : (here : Scope) (head : Head) (with_body : Bool) → map entry_signed here.functions ≡ map own_signed ds
      → HasItsResult (ds ++ record { here = here; head = head; with_body = with_body } ∷ []) (head.name.text, function_entry here head (length here.functions))
  last_named here head with_body same n is =
      let d : Declared = record { here = here; head = head; with_body = with_body } in
      let number : length here.functions ≡ n = cc in
      let count : length ds ≡ length here.functions = sym (map_length own_signed ds) ∙ sym (ap length same) ∙ map_length entry_signed here.functions in
      (d, (ap (slice_get (ds ++ d ∷ [])) (sym (count ∙ number)) ∙ last_at ds d, refl))

  known_agree : (here : Scope) (head : Head) (with_body : Bool) (o : Option Entry) → Agree ds here → Agree (ds ++ unless_known (is_some o) (record { here = here; head = head; with_body = with_body })) (behind_known here head with_body o)
  known_agree here head with_body None h =
      let d : Declared = record { here = here; head = head; with_body = with_body } in (
        map_append entry_signed here.functions (declares_function here head with_body ∷ []) ∙ ap (λ xs. xs ++ own_signed d ∷ []) h.0 ∙ sym (map_append own_signed ds (d ∷ [])),
        further_name (ds ++ d ∷ []) here head.name.text (function_entry here head (length here.functions)) (last_named here head with_body h.0) (named_longer ds (d ∷ []) here h.1),
      )
  known_agree here head with_body (Some e) h = subst (λ xs. Agree xs (again here head with_body e.meaning)) (sym (append-nil ds)) (again_agree here head with_body e.meaning h)

  pub head_agree : (here : Scope) (head : Head) (with_body : Bool) → Agree ds here → Agree (ds ++ first_head here head with_body) (behind_head here head with_body)
  head_agree here head with_body h = known_agree here head with_body (found here.names head.name.text) h

  data_agree : (here : Scope) → Agree ds here → Agree (ds ++ []) here
  data_agree here h = subst (λ xs. Agree xs here) (sym (append-nil ds)) h

  pub item_agree : (here : Scope) (item : UnitItem) → Agree ds here → Agree (ds ++ declared_by here item) (behind_item here item)
  item_agree here (structure_item tag alias attrs members span) h =
      let t = single (type.Structure (length here.structs)) false in
      let there = with_struct (members_behind here [] members) here in
      data_agree (with_named alias (a_type_name t) there)
      (ap (map entry_signed) (alias_same there alias t) ∙ h.0, further_named ds there alias (a_type_name t) (λ text n is. absurd cc) h.1)
  item_agree here (alias_item name ctype span) h =
      data_agree (with_name name.text (a_type_name (thing_type here ctype)) here) (h.0, further_name ds here name.text (a_type_name (thing_type here ctype)) (λ n is. absurd cc) h.1)
  item_agree here (enumeration_item tag alias values span) h =
      let t = single type.Int false in
      let there = behind_enumerators here (pos 0) values in
      data_agree (with_named alias (a_type_name t) there) (
        ap (map entry_signed) (alias_same there alias t ∙ enumerators_same here (pos 0) values) ∙ h.0,
        further_named ds there alias (a_type_name t) (λ text n is. absurd cc) (enumerators_named here (pos 0) values h.1),
      )
  item_agree here (global_item d) h =
      data_agree (behind_item here (global_item d)) (h.0, further_name ds here d.name.text (global_entry here d) (λ n is. absurd cc) h.1)
  item_agree here (function_item head) h = head_agree here head false h
  item_agree here (body_item head body close) h = head_agree here head true h

  params_named : (here : Scope) (n : ℕ) (params : List Parameter) → HaveTheirResults ds here → HaveTheirResults ds (inside_params here n params)
  unfolding inside_params
  params_named here n [] h = h
  params_named here n (p ∷ rest) h = params_named (with_param n p here) (suc n) rest (further_named ds here p.name (local_entry here n p.ctype) (λ text m is. absurd cc) h)

params_functions : (here : Scope) (n : ℕ) (params : List Parameter) → (inside_params here n params).functions ≡ here.functions
unfolding inside_params
params_functions here n [] = refl
params_functions here n (p ∷ rest) = params_functions (with_param n p here) (suc n) rest ∙ by p.name
  where
    by : (name : Option Identifier) → (with_named name (local_entry here n p.ctype) here).functions ≡ here.functions
    by None = refl
    by (Some name) = refl

-- Names that mean functions by their signatures.
abbrev pub CallBy : Signatures → Scope → Meaning → ThingType → Type 0
CallBy sig here (meant.Function n) t = (sig.result n ≡ Some t.kind) × (sig.params n ≡ Some (map (λ p. p.kind) (params_in here n)))
CallBy sig here _ t = Unit {0}

abbrev pub NamesCall : Signatures → Scope → Type 0
NamesCall sig here = All (λ x. CallBy sig here x.1.meaning x.1.thing) here.names

-- signatures are those of declared functions
abbrev pub AreOf : Signatures → List Declared → Type 0
AreOf sig ds = (n : ℕ) (d : Declared) → slice_get ds n ≡ Some d → (sig.result n ≡ Some (result_kind d)) × (sig.params n ≡ Some (map (λ p. p.kind) (own_params d)))

module _ (sig : Signatures) (ds more : List Declared) (are : AreOf sig (ds ++ more)) (here : Scope) (h : Agree ds here) where
  own_is : (n : ℕ) (d : Declared) → slice_get ds n ≡ Some d → option_map entry_signed (slice_get here.functions n) ≡ Some (own_signed d)
  own_is n d is = sym (map_at entry_signed here.functions n) ∙ ap (λ xs. slice_get xs n) h.0 ∙ map_at own_signed ds n ∙ ap (option_map own_signed) is

  own_are : (n : ℕ) (d : Declared) → slice_get ds n ≡ Some d → params_in here n ≡ own_params d
  own_are n d is = by (slice_get here.functions n) refl (own_is n d is)
    where
      by : (o : Option FunctionEntry) → slice_get here.functions n ≡ o → option_map entry_signed (slice_get here.functions n) ≡ Some (own_signed d) → params_in here n ≡ own_params d
      by None e f = let g : ◌≡◌ {A = Option Signature} None (Some (own_signed d)) = rw e at f in absurd cc
      by (Some x) e f = let g : Some (entry_signed x) ≡ Some (own_signed d) = rw e at f in rw e (ap (λ y. y.0) (some_same g))

  call_by : (m : Meaning) (t : ThingType) → ((n : ℕ) → m ≡ meant.Function n → HasResult ds n t.kind) → CallBy sig here m t
  call_by (meant.Function n) t own =
      let x = own n refl in
      let is = are n x.0 (front_at ds more n x.0 x.1.0) in
      (is.0 ∙ ap (λ kind. Some kind) x.1.1, is.1 ∙ ap (λ ps. Some (map (λ p. p.kind) ps)) (sym (own_are n x.0 x.1.0)))
  call_by (meant.Global n) t own = tt
  call_by (meant.Local n) t own = tt
  call_by meant.Owned t own = tt
  call_by (meant.Constant z) t own = tt
  call_by meant.TypeName t own = tt

  names_call : NamesCall sig here
  names_call k d less = call_by (slice_index_or here.names k d).1.meaning (slice_index_or here.names k d).1.thing (h.1 k d less)

or_begins : (b : Bodied) (sig : Signatures) (hit : Bool) (x : Bodied) (other : Option Bodied) → NamesCall sig x.here → (other ≡ Some b → NamesCall sig b.here) → program.or_body hit x other ≡ Some b
    → NamesCall sig b.here
or_begins b sig true x other begins later is = subst (λ y. NamesCall sig y.here) (some_same is) begins
or_begins b sig false x other begins later is = later is

module _ (name : List ℕ) (b : Bodied) (sig : Signatures) where
  by_item : (ds rest : List Declared) (here : Scope) (item : UnitItem) (other : Option Bodied) → Agree ds here → AreOf sig (ds ++ (declared_by here item ++ rest))
      → (other ≡ Some b → NamesCall sig b.here) → bodied_by name here item other ≡ Some b → NamesCall sig b.here
  by_item ds rest here (body_item head body close) other h are later is =
      let front = ds ++ first_head here head true in
      let there = behind_head here head true in
      let same = head_agree ds here head true h in
      let within : Agree front (inside here head true) =
      (ap (map entry_signed) (params_functions there 0 head.params) ∙ same.0, params_named front there 0 head.params same.1) in
      or_begins b sig (bytes_eq name head.name.text) (record { here = inside here head true; head = head; body = body }) other
      (names_call sig front rest (subst (AreOf sig) (sym (append_assoc ds (first_head here head true) rest)) are) (inside here head true) within)
      later is
  by_item ds rest here (structure_item tag alias attrs members span) other h are later is = later is
  by_item ds rest here (alias_item text ctype span) other h are later is = later is
  by_item ds rest here (enumeration_item tag alias values span) other h are later is = later is
  by_item ds rest here (global_item d) other h are later is = later is
  by_item ds rest here (function_item head) other h are later is = later is

  body_calls : (ds : List Declared) (here : Scope) (items : List UnitItem) → Agree ds here → AreOf sig (ds ++ declared_functions here items) → bodied_function name here items ≡ Some b
      → NamesCall sig b.here
  unfolding bodied_function declared_functions
  body_calls ds here [] h are is = absurd cc
  body_calls ds here (item ∷ rest) h are is =
      let there = behind_item here item in
      by_item ds (declared_functions there rest) here item (bodied_function name there rest) h are
      (λ later. body_calls (ds ++ declared_by here item) there rest (item_agree ds here item h)
      (subst (AreOf sig) (sym (append_assoc ds (declared_by here item) (declared_functions there rest))) are) later)
      is

pub unit_calls : (items : List UnitItem) (name : List ℕ) (b : Bodied) (sig : Signatures) → AreOf sig (declared_functions (outset items) items) → bodied_function name (outset items) items ≡ Some b
    → NamesCall sig b.here
unit_calls items name b sig are is = body_calls name b sig [] (outset items) items (refl, All-nil (HasItsResult [])) are is

-- The text of a body can be spelled where that of its unit can.
abbrev pub SpellableBody : Bodied → Type 0
SpellableBody b = SoundStatements all_words b.body

module _ (name : List ℕ) (b : Bodied) where
  or_spellable : (hit : Bool) (x : Bodied) (other : Option Bodied) → SpellableBody x → (other ≡ Some b → SpellableBody b) → program.or_body hit x other ≡ Some b → SpellableBody b
  or_spellable true x other begins later is = subst SpellableBody (some_same is) begins
  or_spellable false x other begins later is = later is

  spellable_by : (here : Scope) (item : UnitItem) (other : Option Bodied) → SpellableItem item → (other ≡ Some b → SpellableBody b) → bodied_by name here item other ≡ Some b → SpellableBody b
  spellable_by here (body_item head body close) other h later is =
      or_spellable (bytes_eq name head.name.text) (record { here = inside here head true; head = head; body = body }) other h.1 later is
  spellable_by here (structure_item tag alias attrs members span) other h later is = later is
  spellable_by here (alias_item text ctype span) other h later is = later is
  spellable_by here (enumeration_item tag alias values span) other h later is = later is
  spellable_by here (global_item d) other h later is = later is
  spellable_by here (function_item head) other h later is = later is

  pub body_spellable : (here : Scope) (items : List UnitItem) → SpellableItems items → bodied_function name here items ≡ Some b → SpellableBody b
  unfolding bodied_function
  body_spellable here [] h is = absurd cc
  body_spellable here (item ∷ rest) h is =
      spellable_by here item (bodied_function name (behind_item here item) rest) h.0 (body_spellable (behind_item here item) rest h.1) is
