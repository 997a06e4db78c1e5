-- The enumerators that are known at the points of a typed unit's body are in the range of `int`.
use Rattle.std.proofs.Common.{◌≡◌, ◌∙◌, ℕ, suc, Bool, true, false, List, [], ◌∷◌, All, Option, Some, None, if◌then◌else◌, refl, sym, ap}
use Rattle.std.proofs.Common.{subst}
use Rattle.std.specs.Str.{bytes_eq}
use Rattle.tsa_tree.specs.declarations.Syntax.{Declaration, Parameter}
use Rattle.tsa_tree.specs.declared.kind.ThingType.{ThingType}
use Rattle.tsa_tree.specs.declared.meaning.Entry.{Entry}
use Rattle.tsa_tree.specs.declared.meaning.Meaning.TheVariants as meant
use Rattle.tsa_tree.specs.expressions.Syntax.{Identifier}
use Rattle.tsa_tree.specs.types.Constants.{enumerator}
use Rattle.tsa_tree.specs.types.Heads.{inside, inside_params, with_param, behind_head}
use Rattle.tsa_tree.specs.types.Heads as head
use Rattle.tsa_tree.specs.types.Locals.{behind_local, local_entry, unless_taken}
use Rattle.tsa_tree.specs.types.Premises.{first}
use Rattle.tsa_tree.specs.types.Scopes.{Scope, found, further, is_taken, known_in, with_name, with_named}
use Rattle.tsa_tree.specs.types.Units.{outset, behind_item, item_premises, items_premises, refusal_of_types}
use Rattle.tsa_tree.specs.units.Syntax.{UnitItem, structure_item, alias_item, enumeration_item, global_item, function_item, body_item}
use Rattle.tsa_place_model.specs.Items.{behind_data}
use Rattle.tsa_core.specs.Bodies.{known_in_body}
use Rattle.tsa_core.specs.Programs.{Bodied, bodied_by, bodied_function, or_body}
use Rattle.tsa_core.proofs.EachScope.{each_point}
use Rattle.tsa_core.proofs.NoFailure.{none_of_both}
use Rattle.tsa_core.proofs.ScopesAlike.{Alike, known_found, enumerator_kept}
use Rattle.tsa_core.proofs.TypedTerms.{some_same}
use Rattle.tsa_core.proofs.UnitScopes.{or_other, found_append, item_alike}
use Rattle.tsa_profile.proofs.NumbersFit.{IsSmall}
use Rattle.tsa_profile.proofs.SmallNames.{Plain, small_known, item_plain, none_plain}

-- a scope outside of structs that knows such enumerators alone
pub record HasSmall (here : Scope) : Type 0 where
  pub smalls : (name : List ℕ) → IsSmall (enumerator (found here.names name))
  pub owned : here.owned ≡ []

pub small_in : (here : Scope) → HasSmall here → (name : List ℕ) → IsSmall (enumerator (known_in here name))
small_in here h name = subst (λ o. IsSmall (enumerator o)) (sym (known_found here name h.owned)) (h.smalls name)

small_other : (o p : Option Entry) → IsSmall (enumerator o) → IsSmall (enumerator p) → IsSmall (enumerator (or_other o p))
small_other (Some x) p h g = h
small_other None p h g = g

small_if : (b : Bool) (n : ℕ) (t : ThingType) → IsSmall (enumerator (if b then Some (record { meaning = meant.Local n; thing = t }) else None))
small_if true n t = tt
small_if false n t = tt

-- a local is no enumerator
with_local : (here : Scope) (name : List ℕ) (n : ℕ) (t : ThingType) → HasSmall here → HasSmall (with_name name (record { meaning = meant.Local n; thing = t }) here)
with_local here name n t h = record {
  smalls = λ other.
      let e : Entry = record { meaning = meant.Local n; thing = t } in
      subst (λ o. IsSmall (enumerator o)) (sym (found_append here.names ((name, e) ∷ []) other))
      (small_other (found here.names other) (found ((name, e) ∷ []) other) (h.smalls other) (small_if (bytes_eq other name) n t));
  owned = h.owned;
}

with_maybe : (here : Scope) (name : Option Identifier) (n : ℕ) (t : ThingType) → HasSmall here → HasSmall (with_named name (record { meaning = meant.Local n; thing = t }) here)
with_maybe here None n t h = h
with_maybe here (Some name) n t h = with_local here name.text n t h

params_small : (here : Scope) (n : ℕ) (params : List Parameter) → HasSmall here → HasSmall (inside_params here n params)
unfolding inside_params
params_small here n [] h = h
params_small here n (p ∷ rest) h =
    params_small (with_param n p here) (suc n) rest (with_maybe here p.name n (head.local_entry here n p.ctype).thing h)

further_small : (here : Scope) (n : ℕ) → HasSmall here → HasSmall (further n here)
further_small here n h = record { smalls = h.smalls; owned = h.owned }

local_small : (here : Scope) (d : Declaration) → HasSmall here → HasSmall (behind_local here d)
local_small here d h = by (is_taken d.name.text here)
  where
    by : (b : Bool) → HasSmall (further 1 (unless_taken b d.name.text (local_entry here d) here))
    by true = further_small here 1 h
    by false =
        further_small (with_name d.name.text (local_entry here d) here) 1 (with_local here d.name.text here.locals (local_entry here d).thing h)

-- what is known behind items
alike_small : (here there : Scope) → Alike here there → Plain there → HasSmall here
alike_small here there alike plain = record {
  smalls = λ name.
      subst IsSmall
      (ap enumerator (known_found there name plain.owned) ∙ ap enumerator (alike.names name) ∙ enumerator_kept (found here.names name))
      (small_known there plain name);
  owned = alike.owned;
}

module _ (name : List ℕ) (b : Bodied) where
  first_small : (hit : Bool) (x : Bodied) (other : Option Bodied) → HasSmall x.here → (other ≡ Some b → HasSmall b.here) → or_body hit x other ≡ Some b → HasSmall b.here
  first_small true x other begins later is = subst (λ y. HasSmall y.here) (some_same is) begins
  first_small false x other begins later is = later is

  by_item : (here there : Scope) (item : UnitItem) (other : Option Bodied) → Alike (behind_item here item) (behind_data there item) → Plain (behind_data there item)
      → (other ≡ Some b → HasSmall b.here) → bodied_by name here item other ≡ Some b → HasSmall b.here
  by_item here there (body_item head body close) other alike plain later is =
      let before = alike_small (behind_head here head true) (behind_data there (body_item head body close)) alike plain in
      let params = params_small (behind_head here head true) 0 head.params before in
      first_small (bytes_eq name head.name.text) (record { here = inside here head true; head = head; body = body }) other
      (record { smalls = params.smalls; owned = params.owned }) later is
  by_item here there (structure_item tag alias attrs members span) other alike plain later is = later is
  by_item here there (alias_item text ctype span) other alike plain later is = later is
  by_item here there (enumeration_item tag alias values span) other alike plain later is = later is
  by_item here there (global_item d) other alike plain later is = later is
  by_item here there (function_item head) other alike plain later is = later is

  items_small : (here there : Scope) (items : List UnitItem) → Alike here there → Plain there → first (items_premises here items) ≡ None
      → bodied_function name here items ≡ Some b → HasSmall b.here
  unfolding items_premises bodied_function
  items_small here there [] alike plain h is = absurd cc
  items_small here there (item ∷ rest) alike plain h is =
      let both = none_of_both (item_premises here item) (items_premises (behind_item here item) rest) h in
      let after = item_alike here there item alike both.0 in
      let small = item_plain there item plain in
      by_item here there item (bodied_function name (behind_item here item) rest) after small
      (λ later. items_small (behind_item here item) (behind_data there item) rest after small both.1 later) is

  pub body_small : (items : List UnitItem) → refusal_of_types items ≡ None → bodied_function name (outset items) items ≡ Some b
      → All (λ k. HasSmall k.here) (known_in_body b.here b.body)
  body_small items h is =
      each_point HasSmall (λ here n g. further_small here n g) (λ here d g. local_small here d g) b.here b.body
      (items_small (outset items) (outset items) items
      (record { tags = refl; structs = refl; owned = refl; no_owned = refl; globals = refl; names = λ other. refl })
      (none_plain (outset items) refl refl) h is)
