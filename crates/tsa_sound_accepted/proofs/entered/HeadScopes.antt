-- The names of a function's attributes stand for no local but its parameters.
use Rattle.std.proofs.Common.{◌≡◌, ◌∙◌, ℕ, zero, suc, ◌<◌, arith, Bool, true, false, List, [], ◌∷◌, ◌++◌, length, slice_get, IfSome, Option}
use Rattle.std.proofs.Common.{Some, None, is_some, refl, ap, subst}
use Rattle.std.proofs.lemmas.List.Elements.{All-nil}
use Rattle.std.proofs.lemmas.Map.Entries.{All-lookup}
use Rattle.std.specs.Str.{bytes_eq}
use Rattle.tsa_tree.specs.declarations.Syntax.{Head}
use Rattle.tsa_tree.specs.declared.kind.ThingType.{ThingType}
use Rattle.tsa_tree.specs.declared.meaning.Entry.{Entry}
use Rattle.tsa_tree.specs.declared.meaning.Meaning.TheVariants as meant
use Rattle.tsa_tree.specs.types.Heads.{behind_head, inside}
use Rattle.tsa_tree.specs.types.Scopes.{Scope, found, known_in}
use Rattle.tsa_tree.specs.types.Units.{outset, behind_item}
use Rattle.tsa_tree.specs.units.Syntax.{UnitItem, structure_item, alias_item, enumeration_item, global_item, function_item, body_item}
use Rattle.tsa_core.specs.Laws.{IsBelow}
use Rattle.tsa_core.specs.Programs.{Declared, declared_by, declared_functions, first_head, unless_known}
use Rattle.tsa_core.proofs.KnownLocals.{names_more}
use Rattle.tsa_core.proofs.Beginnings.{Below, head_below, item_below, params_below}

inside_below : (here : Scope) (head : Head) (with_body : Bool) → Below 0 here → Below (length head.params) (inside here head with_body)
inside_below here head with_body h =
    params_below (length head.params) (behind_head here head with_body) 0 head.params (omega arith)
    (names_more 0 (length head.params) (behind_head here head with_body).names (omega arith) (head_below 0 here head with_body h))

-- at a function's first declaration no local is known
pub split_first : {A : Type 0} (xs ys : List A) (P : A → Type 0) → ((n : ℕ) (x : A) → slice_get xs n ≡ Some x → P x) → ((n : ℕ) (x : A) → slice_get ys n ≡ Some x → P x)
    → (n : ℕ) (x : A) → slice_get (xs ++ ys) n ≡ Some x → P x
split_first [] ys P h g n x e = g n x e
split_first (y ∷ xs) ys P h g zero x e = h 0 x e
split_first (y ∷ xs) ys P h g (suc n) x e = split_first xs ys P (λ k z f. h (suc k) z f) g n x e

first_below : (here : Scope) (head : Head) (with_body : Bool) → Below 0 here → (n : ℕ) (d : Declared) → slice_get (first_head here head with_body) n ≡ Some d
    → Below 0 d.here
first_below here head with_body h n d e = by (is_some (found here.names head.name.text)) n e
  where
    by : (b : Bool) (n : ℕ) → slice_get (unless_known b (record { here = here; head = head; with_body = with_body })) n ≡ Some d → Below 0 d.here
    by true n e = absurd cc
    by false zero e = let same : record { here = here; head = head; with_body = with_body } ≡ d = cc in subst (λ x. Below 0 x.here) same h
    by false (suc n) e = absurd cc

declared_by_below : (here : Scope) (item : UnitItem) → Below 0 here → (n : ℕ) (d : Declared) → slice_get (declared_by here item) n ≡ Some d → Below 0 d.here
declared_by_below here (function_item head) h n d e = first_below here head false h n d e
declared_by_below here (body_item head body close) h n d e = first_below here head true h n d e
declared_by_below here (structure_item tag alias attrs members span) h n d e = absurd cc
declared_by_below here (alias_item name ctype span) h n d e = absurd cc
declared_by_below here (enumeration_item tag alias values span) h n d e = absurd cc
declared_by_below here (global_item x) h n d e = absurd cc

declared_below : (here : Scope) (items : List UnitItem) → Below 0 here → (n : ℕ) (d : Declared) → slice_get (declared_functions here items) n ≡ Some d
    → Below 0 d.here
unfolding declared_functions
declared_below here [] h n d e = absurd cc
declared_below here (item ∷ rest) h n d e =
    split_first (declared_by here item) (declared_functions (behind_item here item) rest) (λ x. Below 0 x.here) (declared_by_below here item h)
    (declared_below (behind_item here item) rest (item_below 0 here item h)) n d e

-- so that a name there stands for no local but a parameter
module _ (bound : ℕ) (here : Scope) (below : Below bound here) (name : List ℕ) (e : Entry) (k : ℕ) (means : e.meaning ≡ meant.Local k) where
  found_below : (o : Option Entry) → IfSome o (λ x. IsBelow bound x.meaning) → o ≡ Some e → k < bound
  found_below None h f = absurd cc
  found_below (Some x) h f = let same : x ≡ e = cc in subst (IsBelow bound) (ap (λ y. y.meaning) same ∙ means) h

  no_member : (t : ThingType) → Some (record { meaning = meant.Owned; thing = t }) ≡ Some e → k < bound
  no_member t f =
      let same : record { meaning = meant.Owned; thing = t } ≡ e = cc in
      let both : meant.Owned ≡ meant.Local k = ap (λ y. y.meaning) same ∙ means in
      absurd cc

  by_owned : (o : Option ThingType) → found here.owned name ≡ o → known_in here name ≡ Some e → k < bound
  by_owned (Some t) own is = no_member t (rw own at is)
  by_owned None own is =
      let there : found here.names name ≡ Some e = rw own at is in
      found_below (found here.names name) (All-lookup (λ x. IsBelow bound x.meaning) (bytes_eq name) here.names below) there

pub names_parameters : (items : List UnitItem) (n : ℕ) (d : Declared) → slice_get (declared_functions (outset items) items) n ≡ Some d
    → (name : List ℕ) (e : Entry) (k : ℕ) → known_in (inside d.here d.head d.with_body) name ≡ Some e → e.meaning ≡ meant.Local k → k < length d.head.params
names_parameters items n d at name e k is means =
    let here = inside d.here d.head d.with_body in
    let below = inside_below d.here d.head d.with_body (declared_below (outset items) items (All-nil (λ x. IsBelow 0 x.1.meaning)) n d at) in
    by_owned (length d.head.params) here below name e k means (found here.owned name) refl is
