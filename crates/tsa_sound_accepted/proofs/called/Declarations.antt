-- What typing and the profile say of functions at their first declarations.
use Rattle.std.proofs.Common.{◌≡◌, ℕ, zero, suc, Bool, true, false, ◌||◌, List, [], ◌∷◌, ◌++◌, Option, Some, None, is_some, slice_get, refl}
use Rattle.std.proofs.Common.{subst}
use Rattle.std.specs.Str.{bytes_eq}
use Rattle.tsa_tree.specs.declarations.Syntax.{Head}
use Rattle.tsa_tree.specs.types.Heads as heads
use Rattle.tsa_tree.specs.types.Heads.{inside}
use Rattle.tsa_tree.specs.types.Premises as types
use Rattle.tsa_tree.specs.types.Runnable.{has_body}
use Rattle.tsa_tree.specs.types.Scopes.{Scope, found}
use Rattle.tsa_tree.specs.types.Statements.{statements_premises}
use Rattle.tsa_tree.specs.types.Units as stated
use Rattle.tsa_tree.specs.types.Units.{outset, around_body, body_premises, behind_item, refusal_of_types}
use Rattle.tsa_tree.specs.units.Syntax.{UnitItem, structure_item, alias_item, enumeration_item, global_item, function_item, body_item}
use Rattle.tsa_place_model.specs.Items.{behind_data}
use Rattle.tsa_core.specs.Programs.{Attr, Bodied, Declared, bodied_function, declared_by, declared_functions, first_head, or_body}
use Rattle.tsa_core.specs.Programs.{unless_known}
use Rattle.tsa_core.proofs.NoFailure as typing
use Rattle.tsa_core.proofs.ScopesAlike.{Alike}
use Rattle.tsa_core.proofs.UnitScopes.{item_alike}
use Rattle.tsa_profile_accesses.specs.Premises.{first}
use Rattle.tsa_profile_guards.proofs.NoneFails.{none_of_both}
use Rattle.tsa_profile_points.specs.Bodies.{points_premises}
use Rattle.tsa_profile.specs.Units as profile
use Rattle.tsa_profile.specs.Units.{around, attributes_behind, heads_premises, points_in, refusal_of_profile, tries_limits}
use Rattle.tsa_profile.specs.Units.{paths_limits, unit_of}
use Rattle.tsa_sound_accepted.proofs.entered.HeadScopes.{split_first}

module _ (all : List UnitItem) where
  -- A first declaration: no structs' members are known by their names there, its name is new, and nothing fails.
  pub record First (d : Declared) : Type 0 where
    pub known : List (List Attr)
    pub owned : d.here.owned ≡ []
    pub new : is_some (found d.here.names d.head.name.text) ≡ false
    pub typed : types.first (heads.head_premises d.here d.head d.with_body) ≡ None
    pub kept : first (heads_premises (unit_of [] all) known d.here d.head d.with_body) ≡ None

  head_first : (known : List (List Attr)) (here : Scope) (head : Head) (with_body : Bool) → here.owned ≡ []
      → types.first (heads.head_premises here head with_body) ≡ None
      → first (heads_premises (unit_of [] all) known here head with_body) ≡ None → (n : ℕ) (d : Declared)
      → slice_get (first_head here head with_body) n ≡ Some d → First d
  head_first known here head with_body owned typed kept n d e = by (is_some (found here.names head.name.text)) refl n e
    where
      by : (b : Bool) → is_some (found here.names head.name.text) ≡ b → (n : ℕ)
          → slice_get (unless_known b (record { here = here; head = head; with_body = with_body })) n ≡ Some d → First d
      by true f n e = absurd cc
      by false f (suc n) e = absurd cc
      by false f zero e =
          let same : record { here = here; head = head; with_body = with_body } ≡ d = cc in
          subst First same (record { known = known; owned = owned; new = f; typed = typed; kept = kept })

  item_first : (known behind : List (List Attr)) (here : Scope) (item : UnitItem) → here.owned ≡ [] → types.first (stated.item_premises here item) ≡ None
      → first (profile.item_premises (unit_of [] all) known behind here item) ≡ None → (n : ℕ) (d : Declared) → slice_get (declared_by here item) n ≡ Some d
      → First d
  unfolding body_premises
  item_first known behind here (function_item head) owned typed kept n d e = head_first known here head false owned typed kept n d e
  item_first known behind here (body_item head body close) owned typed kept n d e =
      let u = unit_of [] all in
      head_first known here head true owned
      (typing.none_of_both (heads.head_premises here head true) (statements_premises (around_body here head body) (inside here head true) body) typed).0
      (none_of_both (heads_premises u known here head true) (points_premises (around u behind here head) (points_in here head body)) kept).0 n d e
  item_first known behind here (structure_item tag alias attrs members span) owned typed kept n d e = absurd cc
  item_first known behind here (alias_item name ctype span) owned typed kept n d e = absurd cc
  item_first known behind here (enumeration_item tag alias values span) owned typed kept n d e = absurd cc
  item_first known behind here (global_item x) owned typed kept n d e = absurd cc

  items_first : (known : List (List Attr)) (here there : Scope) (items : List UnitItem) → Alike here there → types.first (stated.items_premises here items) ≡ None
      → first (profile.items_premises (unit_of [] all) known here items) ≡ None → (n : ℕ) (d : Declared) → slice_get (declared_functions here items) n ≡ Some d
      → First d
  unfolding stated.items_premises profile.items_premises declared_functions
  items_first known here there [] alike typed kept n d e = absurd cc
  items_first known here there (item ∷ rest) alike typed kept n d e =
      let x = typing.none_of_both (stated.item_premises here item) (stated.items_premises (behind_item here item) rest) typed in
      let behind = attributes_behind (unit_of [] all) known here item in
      let y = none_of_both (profile.item_premises (unit_of [] all) known behind here item)
      (profile.items_premises (unit_of [] all) behind (behind_item here item) rest) kept in
      split_first (declared_by here item) (declared_functions (behind_item here item) rest) First
      (λ m z f. item_first known behind here item alike.owned x.0 y.0 m z f)
      (λ m z f. items_first behind (behind_item here item) (behind_data there item) rest (item_alike here there item alike x.0) x.1 y.1 m z f) n d e

  pub declared_first : refusal_of_types all ≡ None → refusal_of_profile all ≡ None → (n : ℕ) (d : Declared)
      → slice_get (declared_functions (outset all) all) n ≡ Some d → First d
  declared_first typed fits n d e =
      let u = unit_of [] all in
      let kept = (none_of_both (profile.items_premises u [] (outset all) all) (tries_limits u [] (outset all) all ++ paths_limits u [] (outset all) all) fits).0 in
      items_first [] (outset all) (outset all) all
      (record { tags = refl; structs = refl; owned = refl; no_owned = refl; globals = refl; names = λ other. refl }) typed kept n d e

-- whether a function has a body
or_is : (hit : Bool) (x : Bodied) (b : Bool) (other : Option Bodied) → b ≡ is_some other → (hit || b) ≡ is_some (or_body hit x other)
or_is true x b other h = refl
or_is false x b other h = h

pub bodied_is : (name : List ℕ) (here : Scope) (items : List UnitItem) → has_body name items ≡ is_some (bodied_function name here items)
unfolding bodied_function
bodied_is name here [] = refl
bodied_is name here (body_item head body close ∷ rest) =
    or_is (bytes_eq name head.name.text) (record { here = inside here head true; head = head; body = body }) (has_body name rest)
    (bodied_function name (behind_item here (body_item head body close)) rest) (bodied_is name (behind_item here (body_item head body close)) rest)
bodied_is name here (structure_item tag alias attrs members span ∷ rest) = bodied_is name (behind_item here (structure_item tag alias attrs members span)) rest
bodied_is name here (alias_item text ctype span ∷ rest) = bodied_is name (behind_item here (alias_item text ctype span)) rest
bodied_is name here (enumeration_item tag alias values span ∷ rest) = bodied_is name (behind_item here (enumeration_item tag alias values span)) rest
bodied_is name here (global_item d ∷ rest) = bodied_is name (behind_item here (global_item d)) rest
bodied_is name here (function_item head ∷ rest) = bodied_is name (behind_item here (function_item head)) rest
