-- A body has the kinds of parameters and of result of the function that is first declared by its name.
use Rattle.std.proofs.Common.{◌≡◌, ◌∙◌, ℕ, ℤ, zero, suc, ◌+ℤ◌, nat_eq, pos, Bool, true, false, ◌&&◌, List, [], ◌∷◌, ◌++◌, IfSome, length}
use Rattle.std.proofs.Common.{map, Option, Some, None, is_some, option_map, slice_get, if◌then◌else◌, refl, sym, ap, ap₂, subst}
use Rattle.std.proofs.Common.{append_assoc, eqb-true}
use Rattle.std.proofs.lemmas.List.{append-nil}
use Rattle.std.proofs.lemmas.List.Elements.{All-nil}
use Rattle.std.proofs.lemmas.Map.Entries.{All-lookup}
use Rattle.std.proofs.lemmas.Slice.Eq.{bytes_eq-Decides}
use Rattle.std.specs.Str.{bytes_eq}
use Rattle.tsa_base.specs.declared.token.Span.{Span}
use Rattle.tsa_base.proofs.Truths.{never}
use Rattle.tsa_tree.specs.declarations.Syntax.{DeclaredType, EnumConstant, Parameter, Head}
use Rattle.tsa_tree.specs.statements.Syntax.{Statements}
use Rattle.tsa_tree.specs.declared.kind.Declaring.{Declaring}
use Rattle.tsa_tree.specs.declared.kind.Declaring.TheVariants as declaring
use Rattle.tsa_tree.specs.declared.kind.Kind.{Kind}
use Rattle.tsa_tree.specs.declared.kind.Kind.TheVariants as type
use Rattle.tsa_tree.specs.declared.kind.Resolved.{Resolved}
use Rattle.tsa_tree.specs.declared.kind.Resolved.TheVariants as written
use Rattle.tsa_tree.specs.declared.kind.ThingType.{ThingType}
use Rattle.tsa_tree.specs.declared.meaning.Entry.{Entry}
use Rattle.tsa_tree.specs.declared.meaning.Meaning.{Meaning}
use Rattle.tsa_tree.specs.declared.meaning.Meaning.TheVariants as meant
use Rattle.tsa_tree.specs.declared.premise.Bearer.TheVariants as on
use Rattle.tsa_tree.specs.declared.premise.TypeCode.TheVariants.{TY2, TY3}
use Rattle.tsa_tree.specs.expressions.Syntax.{Identifier}
use Rattle.tsa_tree.specs.types.Attributes.{attributes_premises}
use Rattle.tsa_tree.specs.types.DeclaredTypes.{is_refused, resolve, length_of, with_length, thing_type, type_premise, unknown_tag}
use Rattle.tsa_tree.specs.types.DeclaredTypes.{typed_premises, length_premises, declared_premises}
use Rattle.tsa_tree.specs.types.Enums.{enumerator_entry, enumerator_value, behind_enumerators}
use Rattle.tsa_tree.specs.types.Globals.{global_entry}
use Rattle.tsa_tree.specs.types.Heads.{params_of, same_kind, agrees, agree, has_some, differs, by_meaning, is_another, function_entry}
use Rattle.tsa_tree.specs.types.Heads.{bodied, again, behind_known, behind_head, with_param, params_premises, inside, head_premises}
use Rattle.tsa_tree.specs.types.Premises.{first}
use Rattle.tsa_tree.specs.types.Scopes.{Scope, FunctionEntry, found, context_of, with_name, with_named, with_struct, a_type_name}
use Rattle.tsa_tree.specs.types.Scopes.{is_named_taken}
use Rattle.tsa_tree.specs.types.Statements.{statements_premises}
use Rattle.tsa_tree.specs.types.Structs.{members_behind}
use Rattle.tsa_tree.specs.types.Types.{single}
use Rattle.tsa_tree.specs.types.Units.{outset, around_body, body_premises, item_premises, behind_item, items_premises}
use Rattle.tsa_tree.specs.units.Syntax.{UnitItem, structure_item, alias_item, enumeration_item, global_item, function_item, body_item}
use Rattle.tsa_place_model.proofs.GlobalsInRow.{front_at, last_at, by_last}
use Rattle.tsa_core.proofs.MappedLists.{map_at, map_length}
use Rattle.tsa_core.specs.KindLaws.{BodiesAgree, param_kinds}
use Rattle.tsa_core.specs.Programs.{Declared, unless_known, first_head, declared_by, declared_functions, Bodied, bodied_by, bodied_function}
use Rattle.tsa_core.specs.Programs as program
use Rattle.tsa_core.proofs.BodyScopes.{SameTypes, body_types, head_types, with_param_types, through, kind_kept, resolve_kept}
use Rattle.tsa_core.proofs.KindTests.{both_true, neither, not_false}
use Rattle.tsa_core.proofs.NoFailure.{none_of_both, none_of_first}
use Rattle.tsa_core.proofs.SignaturesFit.{result_kind, own_params, HasResult, HasItsResult, Agree, entry_signed, own_signed, item_agree}
use Rattle.tsa_core.proofs.TypedTerms.{some_same}
use Rattle.tsa_core.proofs.UnitScopes.{or_other, found_append, declared_told}

-- What a name means behind an item is what it meant before.
abbrev pub KeepsNames : Scope → Scope → Type 0
KeepsNames here there = (name : List ℕ) (e : Entry) → found here.names name ≡ Some e → found there.names name ≡ Some e

kept_name : (here : Scope) (name : List ℕ) (e : Entry) → KeepsNames here (with_name name e here)
kept_name here name e other x is = found_append here.names ((name, e) ∷ []) other ∙ ap (λ o. or_other o (found ((name, e) ∷ []) other)) is

kept_named : (here : Scope) (name : Option Identifier) (e : Entry) → KeepsNames here (with_named name e here)
kept_named here None e other x is = is
kept_named here (Some name) e other x is = kept_name here name.text e other x is

kept_enumerators : (here : Scope) (next : ℤ) (values : List EnumConstant) → KeepsNames here (behind_enumerators here next values)
unfolding behind_enumerators
kept_enumerators here next [] other x is = is
kept_enumerators here next (e ∷ rest) other x is =
    kept_enumerators (with_name e.name.text (enumerator_entry (enumerator_value here e next)) here) (enumerator_value here e next +ℤ pos 1) rest other x
    (kept_name here e.name.text (enumerator_entry (enumerator_value here e next)) other x is)

kept_bodied : (here : Scope) (with_body : Bool) (n : ℕ) (f : Option FunctionEntry) → KeepsNames here (bodied here with_body n f)
kept_bodied here with_body n None other x is = is
kept_bodied here with_body n (Some f) other x is = is

kept_again : (here : Scope) (head : Head) (with_body : Bool) (m : Meaning) → KeepsNames here (again here head with_body m)
kept_again here head with_body (meant.Function n) other x is = kept_bodied here with_body n (slice_get here.functions n) other x is
kept_again here head with_body (meant.Global n) other x is = is
kept_again here head with_body (meant.Local n) other x is = is
kept_again here head with_body meant.Owned other x is = is
kept_again here head with_body (meant.Constant z) other x is = is
kept_again here head with_body meant.TypeName other x is = is

kept_known : (here : Scope) (head : Head) (with_body : Bool) (o : Option Entry) → KeepsNames here (behind_known here head with_body o)
kept_known here head with_body None other x is = kept_name here head.name.text (function_entry here head (length here.functions)) other x is
kept_known here head with_body (Some e) other x is = kept_again here head with_body e.meaning other x is

kept_item : (here : Scope) (item : UnitItem) → KeepsNames here (behind_item here item)
kept_item here (structure_item tag alias attrs members span) other x is = kept_named (with_struct (members_behind here [] members) here) alias (a_type_name (single (type.Structure (length here.structs)) false)) other x is
kept_item here (alias_item name ctype span) other x is = kept_name here name.text (a_type_name (thing_type here ctype)) other x is
kept_item here (enumeration_item tag alias values span) other x is =
    kept_named (behind_enumerators here (pos 0) values) alias (a_type_name (single type.Int false)) other x (kept_enumerators here (pos 0) values other x is)
kept_item here (global_item d) other x is = kept_name here d.name.text (global_entry here d) other x is
kept_item here (function_item head) other x is = kept_known here head false (found here.names head.name.text) other x is
kept_item here (body_item head body close) other x is = kept_known here head true (found here.names head.name.text) other x is

-- A name that means the function of a number.
abbrev pub Means : Scope → List ℕ → ℕ → Type 0
Means here name n = (e : Entry) × ((found here.names name ≡ Some e) × (e.meaning ≡ meant.Function n))

pub means_kept : (here there : Scope) (name : List ℕ) (n : ℕ) → KeepsNames here there → Means here name n → Means there name n
means_kept here there name n kept h = (h.0, (kept name h.0 h.1.0, h.1.1))

-- each function that is declared is known by its name
abbrev pub AreMeant : List Declared → Scope → Type 0
AreMeant ds here = (n : ℕ) (d : Declared) → slice_get ds n ≡ Some d → Means here d.head.name.text n

count : (ds : List Declared) (here : Scope) → Agree ds here → length here.functions ≡ length ds
count ds here h = sym (map_length entry_signed here.functions) ∙ ap length h.0 ∙ map_length own_signed ds

first_means : (here : Scope) (head : Head) (with_body : Bool) → found here.names head.name.text ≡ None → Means (behind_known here head with_body None) head.name.text (length here.functions)
first_means here head with_body is = (
  function_entry here head (length here.functions),
  (
    found_append here.names ((head.name.text, function_entry here head (length here.functions)) ∷ []) head.name.text
        ∙ ap (λ o. or_other o (found ((head.name.text, function_entry here head (length here.functions)) ∷ []) head.name.text)) is
        ∙ ap (λ b. if b then Some (function_entry here head (length here.functions)) else None) ((bytes_eq-Decides head.name.text head.name.text).1 refl),
    refl,
  ),
)

known_meant : (ds : List Declared) (here : Scope) (head : Head) (with_body : Bool) (o : Option Entry) → found here.names head.name.text ≡ o → Agree ds here → AreMeant ds here
    → AreMeant (ds ++ unless_known (is_some o) (record { here = here; head = head; with_body = with_body })) (behind_known here head with_body o)
known_meant ds here head with_body (Some e) is agreed meant n d at =
    means_kept here (again here head with_body e.meaning) d.head.name.text n (kept_again here head with_body e.meaning) (meant n d (sym (ap (λ xs. slice_get xs n) (append-nil ds)) ∙ at))
known_meant ds here head with_body None is agreed meant n d at =
    by_last ds (record { here = here; head = head; with_body = with_body }) n d at
    (λ front. means_kept here (behind_known here head with_body None) d.head.name.text n (kept_known here head with_body None) (meant n d front))
    (λ number same. subst (λ x. Means (behind_known here head with_body None) x.head.name.text n) same
    (subst (Means (behind_known here head with_body None) head.name.text) (count ds here agreed ∙ sym number) (first_means here head with_body is)))

data_meant : (ds : List Declared) (here there : Scope) → KeepsNames here there → AreMeant ds here → AreMeant (ds ++ []) there
data_meant ds here there kept meant n d at = means_kept here there d.head.name.text n kept (meant n d (sym (ap (λ xs. slice_get xs n) (append-nil ds)) ∙ at))

item_meant : (ds : List Declared) (here : Scope) (item : UnitItem) → Agree ds here → AreMeant ds here → AreMeant (ds ++ declared_by here item) (behind_item here item)
item_meant ds here (structure_item tag alias attrs members span) agreed meant =
    data_meant ds here (behind_item here (structure_item tag alias attrs members span)) (kept_item here (structure_item tag alias attrs members span)) meant
item_meant ds here (alias_item name ctype span) agreed meant = data_meant ds here (behind_item here (alias_item name ctype span)) (kept_item here (alias_item name ctype span)) meant
item_meant ds here (enumeration_item tag alias values span) agreed meant =
    data_meant ds here (behind_item here (enumeration_item tag alias values span)) (kept_item here (enumeration_item tag alias values span)) meant
item_meant ds here (global_item d) agreed meant = data_meant ds here (behind_item here (global_item d)) (kept_item here (global_item d)) meant
item_meant ds here (function_item head) agreed meant = known_meant ds here head false (found here.names head.name.text) refl agreed meant
item_meant ds here (body_item head body close) agreed meant = known_meant ds here head true (found here.names head.name.text) refl agreed meant

-- Kinds that are written the same.
same_kinds : (a b : Kind) → same_kind a b ≡ true → a ≡ b
same_kinds type.Int type.Int e = refl
same_kinds type.Unsigned type.Unsigned e = refl
same_kinds type.Void type.Void e = refl
same_kinds (type.Structure m) (type.Structure n) e = ap type.Structure (eqb-true m n e)
same_kinds (type.Pointer m true) (type.Pointer n true) e = ap (λ i. type.Pointer i true) (eqb-true m n (both_true (nat_eq m n) true e).0)
same_kinds (type.Pointer m false) (type.Pointer n false) e = ap (λ i. type.Pointer i false) (eqb-true m n (both_true (nat_eq m n) true e).0)
same_kinds (type.Pointer m true) (type.Pointer n false) e = never (sym (both_true (nat_eq m n) false e).1)
same_kinds (type.Pointer m false) (type.Pointer n true) e = never (sym (both_true (nat_eq m n) false e).1)
same_kinds a b e = never (sym e)

-- where no premise fails a type is one
type_told : (here : Scope) (what : Declaring) (taken : Bool) (span : Span) (t : DeclaredType) → first (declared_premises here what taken span t) ≡ None → (u : ThingType) × (resolve here t ≡ written.Type u)
unfolding declared_premises typed_premises first
type_told here what taken span t h =
    let a = none_of_both (typed_premises here what taken span t) (length_premises (context_of here) t.length) h in
    let b = none_of_first TY2 span taken (type_premise here what span t ∷ unknown_tag (resolve here t)) a.0 in
    let c = none_of_first TY3 span (is_refused here what (resolve here t)) (unknown_tag (resolve here t)) b.1 in
    by (resolve here t) refl c.0 c.1
  where
    by : (r : Resolved) → resolve here t ≡ r → is_refused here what r ≡ false → first (unknown_tag r) ≡ None → (u : ThingType) × (resolve here t ≡ written.Type u)
    by (written.Type u) is e f = (u, is)
    by (written.Unknown at) is e f = absurd cc
    by written.Refused is e f = never e

kind_from : (kind : Kind) (l : Option ℕ) (r : Resolved) (u : ThingType) → r ≡ written.Type u → agrees kind r ≡ true → kind ≡ (with_length l r).kind
kind_from kind l r u is e = same_kinds kind u.kind (subst (λ x. agrees kind x ≡ true) is e) ∙ sym (ap (λ x. (with_length l x).kind) is)

params_agree : (here s : Scope) (n : ℕ) (ts : List ThingType) (ps : List Parameter) → SameTypes here s → agree here ts ps ≡ true → first (params_premises s n ps) ≡ None
    → map (λ t. t.kind) ts ≡ map (λ p. (thing_type here p.ctype).kind) ps
unfolding params_premises
params_agree here s n [] [] h e f = refl
params_agree here s n [] (p ∷ ps) h e f = never (sym e)
params_agree here s n (t ∷ ts) [] h e f = never (sym e)
params_agree here s n (t ∷ ts) (p ∷ ps) h e f =
    let both = both_true (agrees t.kind (resolve here p.ctype)) (agree here ts ps) e in
    let told = none_of_both (declared_premises s declaring.Thing (is_named_taken p.name s) p.span p.ctype) (params_premises (with_param n p s) (suc n) ps) f in
    let u = type_told s declaring.Thing (is_named_taken p.name s) p.span p.ctype told.0 in
    ap₂ (λ k ks. k ∷ ks) (kind_from t.kind (length_of (context_of here) p.ctype.length) (resolve here p.ctype) u.0 (sym (resolve_kept here s h p.ctype) ∙ u.1) both.0)
    (params_agree here (with_param n p s) (suc n) ts ps (through here s (with_param n p s) h (with_param_types s n p)) both.1 told.1)

own_kinds : (here there : Scope) (ps : List Parameter) → SameTypes here there → map (λ p. (thing_type there p.ctype).kind) ps ≡ map (λ p. (thing_type here p.ctype).kind) ps
own_kinds here there [] h = refl
own_kinds here there (p ∷ ps) h = ap₂ (λ k ks. k ∷ ks) (kind_kept here there h p.ctype) (own_kinds here there ps h)

first_kinds : (here : Scope) (ps : List Parameter) → map (λ p. (thing_type here p.ctype).kind) ps ≡ map (λ t. t.kind) (params_of here ps)
first_kinds here [] = refl
first_kinds here (p ∷ ps) = ap (λ ks. (thing_type here p.ctype).kind ∷ ks) (first_kinds here ps)

-- the function that a body is of
record IsOfFunction (b : Bodied) (name : List ℕ) (ds : List Declared) (there : Scope) : Type 0 where
  pub number : ℕ
  pub first : Declared
  pub at : slice_get ds number ≡ Some first
  pub means : Means there name number
  pub params : param_kinds b ≡ map (λ t. t.kind) (own_params first)
  pub result : (thing_type b.here b.head.result).kind ≡ result_kind first

module _ (ds : List Declared) (here : Scope) (head : Head) (body : Statements) (agreed : Agree ds here) (h : first (head_premises here head true) ≡ None) where
  abbrev own : Bodied
  own = record { here = inside here head true; head = head; body = body }

  abbrev Here : Option Entry → Type 0
  Here o = IsOfFunction own head.name.text (ds ++ unless_known (is_some o) (record { here = here; head = head; with_body = true })) (behind_known here head true o)

  types : SameTypes here (inside here head true)
  types = body_types here head

  told_parts : (first (declared_premises here declaring.Result (is_another here head true (found here.names head.name.text)) head.name.span head.result) ≡ None)
      × (first (params_premises (behind_head here head true) 0 head.params) ≡ None)
  unfolding head_premises
  told_parts =
      let a = none_of_both (declared_premises here declaring.Result (is_another here head true (found here.names head.name.text)) head.name.span head.result)
      (params_premises (behind_head here head true) 0 head.params ++ attributes_premises (inside here head true) on.Function head.attrs) h in
      (a.0, (none_of_both (params_premises (behind_head here head true) 0 head.params) (attributes_premises (inside here head true) on.Function head.attrs) a.1).0)

  first_told : found here.names head.name.text ≡ None → Here None
  first_told is = record {
    number = length here.functions;
    first = record { here = here; head = head; with_body = true };
    at = ap (slice_get (ds ++ record { here = here; head = head; with_body = true } ∷ [])) (count ds here agreed) ∙ last_at ds (record { here = here; head = head; with_body = true });
    means = first_means here head true is;
    params = own_kinds here (inside here head true) head.params types ∙ first_kinds here head.params;
    result = kind_kept here (inside here head true) types head.result;
  }

  -- one that is declared again has the same kinds
  again_told : (m : ℕ) (t : ThingType) (f : FunctionEntry) (d : Declared) → found here.names head.name.text ≡ Some (record { meaning = meant.Function m; thing = t })
      → slice_get ds m ≡ Some d → entry_signed f ≡ own_signed d → differs here head true (Some f) ≡ false → Here (Some (record { meaning = meant.Function m; thing = t }))
  again_told m t f d is at same e =
      let parts = (neither (has_some head.attrs) _ (neither (f.has_body && true) _ e).1).1 in
      let both = both_true (agrees f.result.kind (resolve here head.result)) (agree here f.params head.params) (not_false _ parts) in
      let u = type_told here declaring.Result (is_another here head true (found here.names head.name.text)) head.name.span head.result told_parts.0 in
      record {
        number = m;
        first = d;
        at = front_at ds [] m d at;
        means =
            means_kept here (behind_known here head true (Some (record { meaning = meant.Function m; thing = t }))) head.name.text m
            (kept_known here head true (Some (record { meaning = meant.Function m; thing = t }))) (record { meaning = meant.Function m; thing = t }, (is, refl));
        params =
            own_kinds here (inside here head true) head.params types
            ∙ sym (params_agree here (behind_head here head true) 0 f.params head.params (head_types here head true) both.1 told_parts.1) ∙ ap (λ x. map (λ y. y.kind) x.0) same;
        result =
            kind_kept here (inside here head true) types head.result
            ∙ sym (kind_from f.result.kind (length_of (context_of here) head.result.length) (resolve here head.result) u.0 u.1 both.0) ∙ ap (λ x. x.1) same;
      }

  function_told : (m : ℕ) (t : ThingType) (o : Option FunctionEntry) (d : Declared) → found here.names head.name.text ≡ Some (record { meaning = meant.Function m; thing = t })
      → slice_get ds m ≡ Some d → option_map entry_signed o ≡ Some (own_signed d) → differs here head true o ≡ false → Here (Some (record { meaning = meant.Function m; thing = t }))
  function_told m t None d is at same e = absurd cc
  function_told m t (Some f) d is at same e = again_told m t f d is at (some_same same) e

  named_result : (e : Entry) (n : ℕ) → found here.names head.name.text ≡ Some e → e.meaning ≡ meant.Function n → HasResult ds n e.thing.kind
  named_result e n is means =
      by (found here.names head.name.text) is (All-lookup (λ x. (m : ℕ) → x.meaning ≡ meant.Function m → HasResult ds m x.thing.kind) (bytes_eq head.name.text) here.names agreed.1)
    where
      by : (o : Option Entry) → o ≡ Some e → IfSome o (λ x. (m : ℕ) → x.meaning ≡ meant.Function m → HasResult ds m x.thing.kind) → HasResult ds n e.thing.kind
      by None same fits = absurd cc
      by (Some x) same fits = (subst (λ y. (m : ℕ) → y.meaning ≡ meant.Function m → HasResult ds m y.thing.kind) (some_same same) fits) n means

  meaning_told : (m : Meaning) (t : ThingType) → found here.names head.name.text ≡ Some (record { meaning = m; thing = t }) → by_meaning here head true m ≡ false
      → Here (Some (record { meaning = m; thing = t }))
  meaning_told (meant.Function m) t is e =
      let has = named_result (record { meaning = meant.Function m; thing = t }) m is refl in
      function_told m t (slice_get here.functions m) has.0 is has.1.0
      (sym (map_at entry_signed here.functions m) ∙ ap (λ xs. slice_get xs m) agreed.0 ∙ map_at own_signed ds m ∙ ap (option_map own_signed) has.1.0) e
  meaning_told (meant.Global n) t is e = never e
  meaning_told (meant.Local n) t is e = never e
  meaning_told meant.Owned t is e = never e
  meaning_told (meant.Constant z) t is e = never e
  meaning_told meant.TypeName t is e = never e

  known_told : (o : Option Entry) → found here.names head.name.text ≡ o → Here o
  known_told None is = first_told is
  known_told (Some e) is =
      meaning_told e.meaning e.thing is
      (subst (λ o. is_another here head true o ≡ false) is
      (declared_told here declaring.Result (is_another here head true (found here.names head.name.text)) head.name.span head.result told_parts.0).0)

  head_told : IsOfFunction own head.name.text (ds ++ first_head here head true) (behind_head here head true)
  head_told = known_told (found here.names head.name.text) refl

-- At the end of the unit.
unfoldable end_of : Scope → List UnitItem → Scope
end_of here [] = here
end_of here (item ∷ rest) = end_of (behind_item here item) rest

kept_to_end : (items : List UnitItem) (here : Scope) → KeepsNames here (end_of here items)
unfolding end_of
kept_to_end [] here name e is = is
kept_to_end (item ∷ rest) here name e is = kept_to_end rest (behind_item here item) name e (kept_item here item name e is)

all_meant : (items : List UnitItem) (ds : List Declared) (here : Scope) → Agree ds here → AreMeant ds here → AreMeant (ds ++ declared_functions here items) (end_of here items)
unfolding end_of declared_functions
all_meant [] ds here agreed meant = subst (λ xs. AreMeant xs here) (sym (append-nil ds)) meant
all_meant (item ∷ rest) ds here agreed meant =
    let there = behind_item here item in
    subst (λ xs. AreMeant xs (end_of there rest)) (append_assoc ds (declared_by here item) (declared_functions there rest))
    (all_meant rest (ds ++ declared_by here item) there (item_agree ds here item agreed) (item_meant ds here item agreed meant))

told_later : (b : Bodied) (name other : List ℕ) (ds more : List Declared) (here there : Scope) → other ≡ name → KeepsNames here there → IsOfFunction b other ds here → IsOfFunction b name (ds ++ more) there
told_later b name other ds more here there same kept h = record {
  number = h.number;
  first = h.first;
  at = front_at ds more h.number h.first h.at;
  means = means_kept here there name h.number kept (subst (λ x. Means here x h.number) same h.means);
  params = h.params;
  result = h.result;
}

module _ (name : List ℕ) (b : Bodied) where
  or_told : (all : List Declared) (end : Scope) (hit : Bool) (x : Bodied) (other : Option Bodied) → (hit ≡ true → IsOfFunction x name all end) → (other ≡ Some b → IsOfFunction b name all end)
      → program.or_body hit x other ≡ Some b → IsOfFunction b name all end
  or_told all end true x other begins later is = subst (λ y. IsOfFunction y name all end) (some_same is) (begins refl)
  or_told all end false x other begins later is = later is

  by_item : (ds rest : List Declared) (here end : Scope) (item : UnitItem) (other : Option Bodied) → Agree ds here → first (item_premises here item) ≡ None → KeepsNames (behind_item here item) end
      → (other ≡ Some b → IsOfFunction b name (ds ++ (declared_by here item ++ rest)) end) → bodied_by name here item other ≡ Some b → IsOfFunction b name (ds ++ (declared_by here item ++ rest)) end
  unfolding body_premises
  by_item ds rest here end (body_item head body close) other agreed h kept later is =
      let own : Bodied = record { here = inside here head true; head = head; body = body } in
      or_told (ds ++ (first_head here head true ++ rest)) end (bytes_eq name head.name.text) own other
      (λ hit. subst (λ xs. IsOfFunction own name xs end) (append_assoc ds (first_head here head true) rest)
      (told_later own name head.name.text (ds ++ first_head here head true) rest (behind_head here head true) end (sym ((bytes_eq-Decides name head.name.text).0 hit)) kept
      (head_told ds here head body agreed (none_of_both (head_premises here head true) (statements_premises (around_body here head body) (inside here head true) body) h).0)))
      later is
  by_item ds rest here end (structure_item tag alias attrs members span) other agreed h kept later is = later is
  by_item ds rest here end (alias_item text ctype span) other agreed h kept later is = later is
  by_item ds rest here end (enumeration_item tag alias values span) other agreed h kept later is = later is
  by_item ds rest here end (global_item d) other agreed h kept later is = later is
  by_item ds rest here end (function_item head) other agreed h kept later is = later is

  body_told : (items : List UnitItem) (ds : List Declared) (here : Scope) → Agree ds here → first (items_premises here items) ≡ None → bodied_function name here items ≡ Some b
      → IsOfFunction b name (ds ++ declared_functions here items) (end_of here items)
  unfolding bodied_function declared_functions items_premises end_of
  body_told [] ds here agreed h is = absurd cc
  body_told (item ∷ rest) ds here agreed h is =
      let there = behind_item here item in
      let told = none_of_both (item_premises here item) (items_premises there rest) h in
      by_item ds (declared_functions there rest) here (end_of there rest) item (bodied_function name there rest) agreed told.0 (kept_to_end rest there)
      (λ later. subst (λ xs. IsOfFunction b name xs (end_of there rest)) (append_assoc ds (declared_by here item) (declared_functions there rest))
      (body_told rest (ds ++ declared_by here item) there (item_agree ds here item agreed) told.1 later))
      is

-- a name means one function
one_meant : (here : Scope) (name : List ℕ) (n m : ℕ) → Means here name n → Means here name m → n ≡ m
one_meant here name n m h g = number (sym h.1.1 ∙ ap (λ e. e.meaning) (some_same (sym h.1.0 ∙ g.1.0)) ∙ g.1.1)
  where
    number : meant.Function n ≡ meant.Function m → n ≡ m
    number e = cc

pub bodies_agree : BodiesAgree
bodies_agree items n d b typed at is =
    let start = outset items in
    let agreed : Agree [] start = (refl, All-nil (HasItsResult [])) in
    let told = body_told d.head.name.text b items [] start agreed typed is in
    let meant = all_meant items [] start agreed (λ k x e. none_at k x e) n d at in
    let same = one_meant (end_of start items) d.head.name.text told.number n told.means meant in
    let first : told.first ≡ d = some_same (sym told.at ∙ ap (slice_get (declared_functions start items)) same ∙ at) in
    (told.params ∙ ap (λ x. map (λ t. t.kind) (own_params x)) first, told.result ∙ ap result_kind first)
  where
    none_at : (k : ℕ) (x : Declared) → slice_get [] k ≡ Some x → Means (outset items) x.head.name.text k
    none_at zero x e = absurd cc
    none_at (suc k) x e = absurd cc
