-- Names that stand in the keys of a map, and the list of them.
use Rattle.std.proofs.Common.{◌≡◌, ap, refl, ℕ, Bool, true, false, if◌then◌else◌, List, [], ◌∷◌, ◌++◌, map, Option, Some, None, is_some}
use Rattle.std.specs.Map.{lookup}
use Rattle.std.specs.Str.{bytes_eq}
use Rattle.indexmap.specs.IndexMap.{insert_entry}

pub none_known : {A : Type 0} (x : Option A) → is_some x ≡ false → x ≡ None
none_known None h = refl
none_known (Some x) h = cc

module _ {K X : Type 0} (name : K → List ℕ) where
  abbrev spelled : List (K × X) → List (List ℕ × X)
  spelled es = map (λ e. (name e.0, e.1)) es

  insert_step : (b : Bool) (e : K × X) (es longer : List (K × X)) (key : K) (value : X)
      → (if b then Some e.1 else lookup (bytes_eq (name key)) (spelled es)) ≡ None
      → (lookup (bytes_eq (name key)) (spelled es) ≡ None → spelled longer ≡ spelled es ++ (name key, value) ∷ [])
      → spelled (if b then (e.0, value) ∷ es else e ∷ longer) ≡ (name e.0, e.1) ∷ spelled es ++ (name key, value) ∷ []
  insert_step true e es longer key value h go = cc
  insert_step false e es longer key value h go = ap (λ xs. (name e.0, e.1) ∷ xs) (go h)

  -- a name that isn't found is inserted at the end
  pub spelled-insert_entry : (es : List (K × X)) (key : K) (value : X) → lookup (bytes_eq (name key)) (spelled es) ≡ None
      → spelled (insert_entry (λ a b. bytes_eq (name a) (name b)) es key value) ≡ spelled es ++ (name key, value) ∷ []
  spelled-insert_entry [] key value h = refl
  spelled-insert_entry (e ∷ es) key value h =
      insert_step (bytes_eq (name key) (name e.0)) e es (insert_entry (λ a b. bytes_eq (name a) (name b)) es key value) key value h (spelled-insert_entry es key value)

-- a key that isn't there is inserted at the end
module _ {K X : Type 0} (test : K → K → Bool) (key : K) (value : X) where
  absent_step : (b : Bool) (e : K × X) (es longer : List (K × X)) → is_some (if b then Some e.1 else lookup (test key) es) ≡ false
      → (is_some (lookup (test key) es) ≡ false → longer ≡ es ++ (key, value) ∷ [])
      → (if b then (e.0, value) ∷ es else e ∷ longer) ≡ e ∷ es ++ (key, value) ∷ []
  absent_step true e es longer h go = cc
  absent_step false e es longer h go = ap (λ xs. e ∷ xs) (go h)

  pub insert_absent : (es : List (K × X)) → is_some (lookup (test key) es) ≡ false → insert_entry test es key value ≡ es ++ (key, value) ∷ []
  insert_absent [] h = refl
  insert_absent (e ∷ es) h = absent_step (test key e.0) e es (insert_entry test es key value) h (insert_absent es)
