-- Where a body of a typed unit begins, what is known belongs to the layout of the unit and to the kinds of the body's locals.
use Rattle.std.proofs.Common.{◌≡◌, ◌∙◌, ℕ, zero, suc, ◌+◌, arith, Bool, true, false, not, ◌&&◌, List, [], ◌∷◌, length, Option, Some, None}
use Rattle.std.proofs.Common.{is_some, slice_get, if◌then◌else◌, refl, sym, ap, ap₂, subst}
use Rattle.std.proofs.lemmas.List.Elements.{All-nil}
use Rattle.std.specs.Str.{bytes_eq}
use Rattle.tsa_base.specs.declared.token.Span.{Span}
use Rattle.tsa_tree.specs.declarations.Syntax as declared
use Rattle.tsa_tree.specs.declarations.Syntax.{Base, DeclaredType, Parameter, Head}
use Rattle.tsa_tree.specs.declared.kind.Kind.{Kind}
use Rattle.tsa_tree.specs.declared.kind.Resolved.{Resolved}
use Rattle.tsa_tree.specs.declared.kind.Resolved.TheVariants as written
use Rattle.tsa_tree.specs.declared.meaning.Entry.{Entry}
use Rattle.tsa_tree.specs.declared.meaning.Meaning.{Meaning}
use Rattle.tsa_tree.specs.declared.meaning.Meaning.TheVariants as meant
use Rattle.tsa_tree.specs.expressions.Syntax.{Identifier, Expression}
use Rattle.tsa_tree.specs.statements.Syntax.{Statements}
use Rattle.tsa_tree.specs.types.DeclaredTypes.{of_struct, of_enum, of_alias, base_of, qualified, declared_as, resolve, value_in, length_in}
use Rattle.tsa_tree.specs.types.DeclaredTypes.{length_of, with_length, thing_type}
use Rattle.tsa_tree.specs.types.Heads.{function_entry, bodied, again, behind_known, behind_head, head_premises, local_entry, with_param}
use Rattle.tsa_tree.specs.types.Heads.{inside_params, inside}
use Rattle.tsa_tree.specs.types.Known.{Context}
use Rattle.tsa_tree.specs.types.Premises.{first}
use Rattle.tsa_tree.specs.types.Runnable.{is_scalar_kind, is_small, statements_run, params_run, head_runs, are_free, item_runs, items_run}
use Rattle.tsa_tree.specs.types.Runnable.{Runnable}
use Rattle.tsa_tree.specs.types.Scopes.{Scope, FunctionEntry, found, context_of, with_name, with_named}
use Rattle.tsa_tree.specs.types.Statements.{Around, statements_premises}
use Rattle.tsa_tree.specs.types.Units.{outset, around_body, body_premises, item_premises, behind_item, items_premises}
use Rattle.tsa_tree.specs.units.Syntax.{UnitItem, structure_item, alias_item, enumeration_item, global_item, function_item, body_item}
use Rattle.tsa_place_model.specs.Calls.{Layout}
use Rattle.tsa_place_model.specs.Leading.{HasPlaces}
use Rattle.tsa_place_model.specs.Items.{behind_data}
use Rattle.tsa_place_model.specs.GlobalPlaces.{no_places}
use Rattle.tsa_place_model.specs.Units.{data_placed, laid_behind}
use Rattle.tsa_core.proofs.MappedLists.{map_front}
use Rattle.tsa_core.specs.KindLaws.{kinds_of}
use Rattle.tsa_core.specs.Programs.{Bodied, bodied_by, bodied_function, body_in}
use Rattle.tsa_core.specs.Programs as program
use Rattle.tsa_core.proofs.KindTests.{both_true}
use Rattle.tsa_core.proofs.NoFailure.{none_of_both}
use Rattle.tsa_core.proofs.ScopesAlike.{Alike}
use Rattle.tsa_core.proofs.TypedTerms.{some_same}
use Rattle.tsa_core.proofs.LaidScopes.{NamesFit, MembersFit, Fits, IsLaidOut, Grows, grows_same, grows_more, item_grows, names_more}
use Rattle.tsa_core.proofs.LaidScopes.{members_more, named_fits, laid_head, item_laid}
use Rattle.tsa_core.proofs.UnitScopes.{or_other, found_append, item_alike, head_alike}

-- Scopes in which the same types are written: they differ by names that are none of types.
pub record SameTypes (s t : Scope) : Type 0 where
  pub tags : t.tags ≡ s.tags
  pub aliases : (span : Span) (name : List ℕ) → of_alias span (found t.names name) ≡ of_alias span (found s.names name)

same_types : (s : Scope) → SameTypes s s
same_types s = record { tags = refl; aliases = λ span name. refl }

pub other_way : (s t : Scope) → SameTypes s t → SameTypes t s
other_way s t h = record { tags = sym h.tags; aliases = λ span name. sym (h.aliases span name) }

pub through : (s t u : Scope) → SameTypes s t → SameTypes t u → SameTypes s u
through s t u h g = record { tags = g.tags ∙ h.tags; aliases = λ span name. g.aliases span name ∙ h.aliases span name }

last_no_type : (span : Span) (o : Option Entry) (e : Entry) (b : Bool) → of_alias span (Some e) ≡ written.Unknown span → of_alias span (or_other o (if b then Some e else None)) ≡ of_alias span o
last_no_type span (Some x) e b h = refl
last_no_type span None e true h = h
last_no_type span None e false h = refl

pub with_no_type : (s : Scope) (name : List ℕ) (e : Entry) → ((span : Span) → of_alias span (Some e) ≡ written.Unknown span) → SameTypes s (with_name name e s)
with_no_type s name e h = record {
  tags = refl;
  aliases = λ span other. ap (of_alias span) (found_append s.names ((name, e) ∷ []) other) ∙ last_no_type span (found s.names other) e (bytes_eq other name) (h span);
}

pub with_param_types : (s : Scope) (n : ℕ) (p : Parameter) → SameTypes s (with_param n p s)
with_param_types s n p = by p.name
  where
    by : (name : Option Identifier) → SameTypes s (with_named name (local_entry s n p.ctype) s)
    by None = same_types s
    by (Some name) = with_no_type s name.text (local_entry s n p.ctype) (λ span. refl)

inside_types : (s : Scope) (n : ℕ) (params : List Parameter) → SameTypes s (inside_params s n params)
unfolding inside_params
inside_types s n [] = same_types s
inside_types s n (p ∷ rest) = through s (with_param n p s) (inside_params (with_param n p s) (suc n) rest) (with_param_types s n p) (inside_types (with_param n p s) (suc n) rest)

bodied_types : (here : Scope) (with_body : Bool) (n : ℕ) (f : Option FunctionEntry) → SameTypes here (bodied here with_body n f)
bodied_types here with_body n None = same_types here
bodied_types here with_body n (Some f) = record { tags = refl; aliases = λ span name. refl }

again_types : (here : Scope) (head : Head) (with_body : Bool) (m : Meaning) → SameTypes here (again here head with_body m)
again_types here head with_body (meant.Function n) = bodied_types here with_body n (slice_get here.functions n)
again_types here head with_body (meant.Global n) = same_types here
again_types here head with_body (meant.Local n) = same_types here
again_types here head with_body meant.Owned = same_types here
again_types here head with_body (meant.Constant z) = same_types here
again_types here head with_body meant.TypeName = same_types here

known_types : (here : Scope) (head : Head) (with_body : Bool) (o : Option Entry) → SameTypes here (behind_known here head with_body o)
known_types here head with_body (Some e) = again_types here head with_body e.meaning
known_types here head with_body None =
    let h = with_no_type here head.name.text (function_entry here head (length here.functions)) (λ span. refl) in
    record { tags = refl; aliases = h.aliases }

pub head_types : (here : Scope) (head : Head) (with_body : Bool) → SameTypes here (behind_head here head with_body)
head_types here head with_body = known_types here head with_body (found here.names head.name.text)

pub body_types : (here : Scope) (head : Head) → SameTypes here (inside here head true)
body_types here head =
    let there = behind_head here head true in
    let h = through here there (inside_params there 0 head.params) (head_types here head true) (inside_types there 0 head.params) in
    record { tags = h.tags; aliases = h.aliases }

-- the kind of a written type, and whether it is small
module _ (s t : Scope) (h : SameTypes s t) where
  base_kept : (b : Base) → base_of t b ≡ base_of s b
  base_kept declared.int = refl
  base_kept declared.unsigned = refl
  base_kept declared.void = refl
  base_kept (declared.structure tag) = ap (λ tags. of_struct tag.span (found tags tag.text)) h.tags
  base_kept (declared.enumerated tag) = ap (λ tags. of_enum tag.span (found tags tag.text)) h.tags
  base_kept (declared.alias name) = h.aliases name.span name.text

  pub resolve_kept : (ty : DeclaredType) → resolve t ty ≡ resolve s ty
  resolve_kept ty = ap (λ r. declared_as ty.pointer ty.pointer_const (qualified ty.base_const r)) (base_kept ty.base)

  any_length : (l k : Option ℕ) (r : Resolved) → (with_length l r).kind ≡ (with_length k r).kind
  any_length l k (written.Type u) = refl
  any_length l k (written.Unknown span) = refl
  any_length l k written.Refused = refl

  pub kind_kept : (ty : DeclaredType) → (thing_type t ty).kind ≡ (thing_type s ty).kind
  kind_kept ty =
      ap (λ r. (with_length (length_of (context_of t) ty.length) r).kind) (resolve_kept ty) ∙ any_length (length_of (context_of t) ty.length) (length_of (context_of s) ty.length) (resolve s ty)

  length_is : (l : Option ℕ) (r : Resolved) → (with_length l r).length ≡ l
  length_is l (written.Type u) = refl
  length_is l (written.Unknown span) = refl
  length_is l written.Refused = refl

  has_length : (c : Context) (e : Expression) (o : Option ℕ) → length_in (value_in c e) ≡ o → is_some (length_of c (Some e)) ≡ true
  has_length c e None is = rw is refl
  has_length c e (Some n) is = rw is refl

  length_kept : (l : Option Expression) → is_some (length_of (context_of t) l) ≡ is_some (length_of (context_of s) l)
  length_kept None = refl
  length_kept (Some e) =
      has_length (context_of t) e (length_in (value_in (context_of t) e)) refl ∙ sym (has_length (context_of s) e (length_in (value_in (context_of s) e)) refl)

  pub small_kept : (ty : DeclaredType) → is_small (thing_type t ty) ≡ is_small (thing_type s ty)
  small_kept ty =
      ap₂ (λ kind l. is_scalar_kind kind && not l) (kind_kept ty)
      (ap is_some (length_is (length_of (context_of t) ty.length) (resolve t ty)) ∙ length_kept ty.length
      ∙ sym (ap is_some (length_is (length_of (context_of s) ty.length) (resolve s ty))))

-- The parameters of a function are small, and have their kinds.
params_small : (base s : Scope) (n : ℕ) (params : List Parameter) → SameTypes base s → params_run s n params ≡ true
    → (j : ℕ) (p : Parameter) → slice_get params j ≡ Some p → is_small (thing_type base p.ctype) ≡ true
params_small base s n [] h runs zero p e = absurd cc
params_small base s n [] h runs (suc j) p e = absurd cc
params_small base s n (x ∷ rest) h runs zero p e =
    let both = both_true (is_small (thing_type s x.ctype)) (params_run (with_param n x s) n rest) runs in
    subst (λ y. is_small (thing_type base y.ctype) ≡ true) (some_same e) (sym (small_kept base s h x.ctype) ∙ both.0)
params_small base s n (x ∷ rest) h runs (suc j) p e =
    let both = both_true (is_small (thing_type s x.ctype)) (params_run (with_param n x s) n rest) runs in
    params_small base (with_param n x s) n rest (through base s (with_param n x s) h (with_param_types s n x)) both.1 j p e

module _ (l : Layout) (locals : ℕ → Option Kind) where
  abbrev ParamsAre : Scope → ℕ → List Parameter → Type 0
  ParamsAre base n params = (j : ℕ) (p : Parameter) → slice_get params j ≡ Some p → (locals (n + j) ≡ Some (thing_type base p.ctype).kind) × (is_small (thing_type base p.ctype) ≡ true)

  params_fit : (base s : Scope) (n : ℕ) (params : List Parameter) → SameTypes base s → ParamsAre base n params → NamesFit l locals s → NamesFit l locals (inside_params s n params)
  unfolding inside_params
  params_fit base s n [] h is fits = fits
  params_fit base s n (p ∷ rest) h is fits =
      let own = is 0 p refl in
      let at : n + 0 ≡ n = omega arith in
      params_fit base (with_param n p s) (suc n) rest (through base s (with_param n p s) h (with_param_types s n p))
      (λ j q e. let more = is (suc j) q e in let number : n + suc j ≡ suc n + j = omega arith in (sym (ap locals number) ∙ more.0, more.1))
      (named_fits l locals s p.name (local_entry s n p.ctype)
      (sym (ap locals at) ∙ own.0 ∙ ap (λ kind. Some kind) (sym (kind_kept base s h p.ctype)), small_kept base s h p.ctype ∙ own.1) fits)

-- what else is known of a body's scope
params_structs : (s : Scope) (n : ℕ) (params : List Parameter) → ((inside_params s n params).structs ≡ s.structs) × ((inside_params s n params).owned ≡ s.owned)
unfolding inside_params
params_structs s n [] = (refl, refl)
params_structs s n (p ∷ rest) =
    let h = params_structs (with_param n p s) (suc n) rest in
    (h.0 ∙ (by p.name).0, h.1 ∙ (by p.name).1)
  where
    by : (name : Option Identifier) → ((with_named name (local_entry s n p.ctype) s).structs ≡ s.structs) × ((with_named name (local_entry s n p.ctype) s).owned ≡ s.owned)
    by None = (refl, refl)
    by (Some name) = (refl, refl)

-- a body where its statements begin
pub record BeginsIn (b : Bodied) (l : Layout) : Type 0 where
  pub members : MembersFit l b.here
  pub owned : b.here.owned ≡ []
  pub names : NamesFit l (slice_get (kinds_of b)) b.here
  pub numbered : b.here.locals ≡ length b.head.params
  pub around : Around
  pub result : around.result.kind ≡ (thing_type b.here b.head.result).kind
  pub typed : first (statements_premises around b.here b.body) ≡ None
  pub runs : statements_run b.here b.body ≡ true

module _ (all : List UnitItem) (here there : Scope) (head : Head) (body : Statements) (alike : Alike here there) (l m : Layout) (laid : IsLaidOut here l) (grows : Grows l m) where
  abbrev own : Bodied
  own = record { here = inside here head true; head = head; body = body }

  begun : first (body_premises here head body) ≡ None → (head_runs all here head && statements_run (inside here head true) body) ≡ true → BeginsIn own m
  unfolding body_premises
  begun h runs =
      let before = behind_head here head true in
      let front = laid_head l here head true laid in
      let same = head_alike here there alike head true in
      let structs = params_structs before 0 head.params in
      let r = both_true (head_runs all here head) (statements_run (inside here head true) body) runs in
      let params = (both_true (params_run here 0 head.params) (are_free head.attrs) (both_true _ (params_run here 0 head.params && are_free head.attrs) r.0).1).0 in
      let types = body_types here head in
      let back : SameTypes (inside here head true) before =
      through (inside here head true) here before (other_way here (inside here head true) types) (head_types here head true) in
      record {
        members = λ n ms e. members_more l m before front.long grows front.members n ms (sym (ap (λ xs. slice_get xs n) structs.0) ∙ e);
        owned = structs.1 ∙ same.owned;
        names =
            params_fit m (slice_get (kinds_of own)) (inside here head true) before 0 head.params back
            (λ j p e.
            let number : 0 + j ≡ j = omega arith in (
              ap (slice_get (kinds_of own)) number ∙ map_front (λ p. (thing_type own.here p.ctype).kind) head.params (body_in own).locals j p e,
              params_small (inside here head true) here 0 head.params (other_way here (inside here head true) types) params j p e,
            ))
            (names_more l m (slice_get (kinds_of own)) before grows (front.names (slice_get (kinds_of own))));
        numbered = refl;
        around = around_body here head body;
        result = sym (kind_kept here (inside here head true) types head.result);
        typed = (none_of_both (head_premises here head true) (statements_premises (around_body here head body) (inside here head true) body) h).1;
        runs = r.1;
      }

-- The layout of items has that of the items before.
layout_grows : (items : List UnitItem) (there : Scope) (l : Layout) → Grows l (laid_behind there l items)
unfolding laid_behind
layout_grows [] there l = grows_same l
layout_grows (item ∷ rest) there l =
    grows_more l (data_placed there l item) (laid_behind (behind_data there item) (data_placed there l item) rest) (item_grows there l item)
    (layout_grows rest (behind_data there item) (data_placed there l item))

first_body : (hit : Bool) (x b : Bodied) (m : Layout) (other : Option Bodied) → BeginsIn x m → (other ≡ Some b → BeginsIn b m) → program.or_body hit x other ≡ Some b → BeginsIn b m
first_body true x b m other begins later is = subst (λ y. BeginsIn y m) (some_same is) begins
first_body false x b m other begins later is = later is

module _ (all : List UnitItem) (name : List ℕ) (b : Bodied) (m : Layout) where
  by_item : (here there : Scope) (l : Layout) (item : UnitItem) (other : Option Bodied) → Alike here there → IsLaidOut here l → Grows l m → first (item_premises here item) ≡ None
      → item_runs all here item ≡ true → (other ≡ Some b → BeginsIn b m) → bodied_by name here item other ≡ Some b → BeginsIn b m
  by_item here there l (body_item head body close) other alike laid grows h runs later is =
      first_body (bytes_eq name head.name.text) (own all here there head body alike l m laid grows) b m other (begun all here there head body alike l m laid grows h runs) later is
  by_item here there l (structure_item tag alias attrs members span) other alike laid grows h runs later is = later is
  by_item here there l (alias_item text ctype span) other alike laid grows h runs later is = later is
  by_item here there l (enumeration_item tag alias values span) other alike laid grows h runs later is = later is
  by_item here there l (global_item d) other alike laid grows h runs later is = later is
  by_item here there l (function_item head) other alike laid grows h runs later is = later is

  items_begin : (items : List UnitItem) (here there : Scope) (l : Layout) → Alike here there → IsLaidOut here l → first (items_premises here items) ≡ None
      → items_run all here items ≡ true → laid_behind there l items ≡ m → bodied_function name here items ≡ Some b → BeginsIn b m
  unfolding items_premises items_run laid_behind bodied_function
  items_begin [] here there l alike laid h runs e is = absurd cc
  items_begin (item ∷ rest) here there l alike laid h runs e is =
      let told = none_of_both (item_premises here item) (items_premises (behind_item here item) rest) h in
      let run = both_true (item_runs all here item) (items_run all (behind_item here item) rest) runs in
      let further = subst (Grows (data_placed there l item)) e (layout_grows rest (behind_data there item) (data_placed there l item)) in
      let grows = grows_more l (data_placed there l item) m (item_grows there l item) further in
      by_item here there l item (bodied_function name (behind_item here item) rest) alike laid grows told.0 run.0
      (λ later. items_begin rest (behind_item here item) (behind_data there item) (data_placed there l item) (item_alike here there item alike told.0)
      (item_laid l here there item alike told.0 laid) told.1 run.1 e later)
      is

pub unit_begins : (items : List UnitItem) (name : List ℕ) (b : Bodied) (m : Layout) → Runnable items → HasPlaces items m → bodied_function name (outset items) items ≡ Some b → BeginsIn b m
unit_begins items name b m runs placed is =
    items_begin items name b m items (outset items) (outset items) no_places
    (record { tags = refl; structs = refl; owned = refl; no_owned = refl; globals = refl; names = λ other. refl })
    (record { long = refl; count = refl; members = none_defined; names = λ locals. All-nil (Fits no_places locals) })
    runs.0 runs.1 placed is
  where
    none_defined : MembersFit no_places (outset items)
    none_defined zero ms e = absurd cc
    none_defined (suc n) ms e = absurd cc
