-- Keys in a map, seen as the list of what they name: what is found among them, and a further one.
use Rattle.std.proofs.Common.{◌≡◌, ◌∙◌, ℕ, suc, ◌+◌, arith, nat_lt, Bool, true, false, not, if◌then◌else◌, List, [], ◌∷◌, ◌++◌, map, length}
use Rattle.std.proofs.Common.{position, Option, Some, None, is_some, ap, refl}
use Rattle.std.proofs.lemmas.Bool.Decides.{nat_tests}
use Rattle.std.proofs.lemmas.List.{length-append}
use Rattle.std.specs.List.{position_or_len}
use Rattle.std.specs.Map.{lookup}
use Rattle.std.specs.Option.{unwrap_or}
use Rattle.std.specs.Str.{bytes_eq}
use Rattle.indexmap.specs.IndexMap.{insert_entry}
use Rattle.tsa_tree.specs.types.Lookups.{numbered}

-- what is found among keys that are seen as others
pub lookup-seen : {K L X : Type 0} (seen : K → L) (test : L → Bool) (es : List (K × X))
    → lookup (λ k. test (seen k)) es ≡ lookup test (map (λ e. (seen e.0, e.1)) es)
lookup-seen seen test [] = refl
lookup-seen seen test (e ∷ es) = ap (λ w. if test (seen e.0) then Some e.1 else w) (lookup-seen seen test es)

-- the list, or the list with a further entry
abbrev pub or_further : {A : Type 0} → Bool → List A → A → List A
or_further true xs x = xs
or_further false xs x = xs ++ x ∷ []

module _ {K X : Type 0} (test : K → K → Bool) (key : K) where
  -- the step of the next one: the first entry has the key or not
  absent_step : (value : X) (b : Bool) (e : K × X) (es longer : List (K × X)) → (if b then Some e.1 else lookup (test key) es) ≡ None
      → (lookup (test key) es ≡ None → longer ≡ es ++ (key, value) ∷ [])
      → (if b then (e.0, value) ∷ es else e ∷ longer) ≡ e ∷ es ++ (key, value) ∷ []
  absent_step value true e es longer h go = cc
  absent_step value false e es longer h go = ap (λ xs. e ∷ xs) (go h)

  -- a key that isn't there is inserted at the end
  insert_absent : (value : X) (es : List (K × X)) → lookup (test key) es ≡ None → insert_entry test es key value ≡ es ++ (key, value) ∷ []
  insert_absent value [] h = refl
  insert_absent value (e ∷ es) h = absent_step value (test key e.0) e es (insert_entry test es key value) h (insert_absent value es)

  -- the step of the next one, in the same way
  present_step : (value : X) (b : Bool) (e : K × X) (es longer : List (K × X)) → (if b then Some e.1 else lookup (test key) es) ≡ Some value
      → (lookup (test key) es ≡ Some value → longer ≡ es)
      → (if b then (e.0, value) ∷ es else e ∷ longer) ≡ e ∷ es
  present_step value true (k, x) es longer h go = cc
  present_step value false e es longer h go = ap (λ xs. e ∷ xs) (go h)

  -- one that has the value already changes nothing
  insert_present : (value : X) (es : List (K × X)) → lookup (test key) es ≡ Some value → insert_entry test es key value ≡ es
  insert_present value [] h = cc
  insert_present value (e ∷ es) h = present_step value (test key e.0) e es (insert_entry test es key value) h (insert_present value es)

  -- a key keeps the value that it has
  pub insert_once : (es : List (K × X)) (value : X)
      → insert_entry test es key (unwrap_or (lookup (test key) es) value) ≡ or_further (is_some (lookup (test key) es)) es (key, value)
  insert_once es value = by (lookup (test key) es) refl
    where
      by : (known : Option X) → lookup (test key) es ≡ known
          → insert_entry test es key (unwrap_or known value) ≡ or_further (is_some known) es (key, value)
      by None e = insert_absent value es e
      by (Some v) e = insert_present v es e

-- a list and the same list or a longer one, by their lengths
module _ {A : Type 0} (xs : List A) (x : A) (n m : ℕ) (before : n ≡ length xs) where
  -- it is longer exactly where the entry is new
  pub longer : (known : Bool) → m ≡ length (or_further known xs x) → nat_lt n m ≡ not known
  longer true behind = grind (arith, nat_tests, before, behind)
  longer false behind = grind (arith, nat_tests, before, behind, length-append xs (x ∷ []))

  -- where it is longer it has the further entry
  pub further : (known : Bool) → m ≡ length (or_further known xs x) → nat_lt n m ≡ true → or_further known xs x ≡ xs ++ x ∷ []
  further true behind fresh = absurd (cc (longer true behind, fresh))
  further false behind fresh = refl

  -- where it is no longer it is the same
  pub kept : (known : Bool) → m ≡ length (or_further known xs x) → nat_lt n m ≡ false → or_further known xs x ≡ xs
  kept true behind fresh = refl
  kept false behind fresh = absurd (cc (longer false behind, fresh))

-- a name by its number: the first entry that has it, among entries as they are kept and as contracts see them
module _ {K : Type 0} (seen : K → List ℕ) (name : List ℕ) where
  abbrev has_name : K → Bool
  has_name key = bytes_eq name (seen key)

  module _ {A : Type 0} where
    abbrev shown : List (K × A) → List (List ℕ × A)
    shown es = map (λ e. (seen e.0, e.1)) es

    -- one that isn't there has none
    absent : (b : Bool) (x : A) (v : Option A) (k : ℕ) (w : Option (ℕ × A)) → (if b then Some x else v) ≡ None → (v ≡ None → w ≡ None) → (if b then Some (k, x) else w) ≡ None
    absent true x v k w h go = cc
    absent false x v k w h go = go h

    pub unnumbered : (es : List (K × A)) (k : ℕ) → lookup has_name es ≡ None → numbered (shown es) name k ≡ None
    unnumbered [] k h = refl
    unnumbered (e ∷ es) k h = absent (has_name e.0) e.1 (lookup has_name es) k (numbered (shown es) name (suc k)) h (unnumbered es (suc k))

    -- one that is there has the number of its place
    present : (b : Bool) (y x : A) (v : Option A) (k n : ℕ) (w : Option (ℕ × A)) → (if b then Some y else v) ≡ Some x → (v ≡ Some x → w ≡ Some (suc k + n, x))
        → (if b then Some (k, y) else w) ≡ Some (k + (if not b then 1 + n else 0), x)
    present true y x v k n w h go =
        let here : k ≡ k + 0 = omega arith in
        let same : y ≡ x = cc in
        ap (λ z. Some (k, z)) same ∙ ap (λ m. Some (m, x)) here
    present false y x v k n w h go =
        let there : suc k + n ≡ k + (1 + n) = omega arith in
        go h ∙ ap (λ m. Some (m, x)) there

    pub numbered_at : (es : List (K × A)) (k : ℕ) (x : A) → lookup has_name es ≡ Some x → numbered (shown es) name k ≡ Some (k + position_or_len has_name (map (λ e. e.0) es), x)
    numbered_at [] k x h = cc
    numbered_at (e ∷ es) k x h =
        present (has_name e.0) e.1 x (lookup has_name es) k (position_or_len has_name (map (λ e. e.0) es)) (numbered (shown es) name (suc k)) h (numbered_at es (suc k) x)

-- the number of a place that was found
pub position_is : {K : Type 0} (test : K → Bool) (keys : List K) (n : ℕ) → Some n ≡ position test keys → position_or_len test keys ≡ n
position_is test keys n h = by (nat_lt (position_or_len test keys) (length keys)) h
  where
    by : (b : Bool) → Some n ≡ (if b then Some (position_or_len test keys) else None) → position_or_len test keys ≡ n
    by true is = cc
    by false is = cc

-- a number counted from nothing
pub from_nothing : (n : ℕ) → 0 + n ≡ n
from_nothing n = omega arith
