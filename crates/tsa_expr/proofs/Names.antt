-- Names that stand in the keys of a set, and the list of them.
use Rattle.std.proofs.Common.{◌≡◌, ◌∙◌, ap, refl, ℕ, Bool, true, false, ◌||◌, if◌then◌else◌, List, [], ◌∷◌, ◌++◌, map}
use Rattle.std.proofs.lemmas.List.{map-append}
use Rattle.std.specs.List.{list_any}
use Rattle.std.specs.Str.{bytes_eq}
use Rattle.indexmap.specs.IndexSet.{insert_key}
use Rattle.tsa_expr.specs.TypeNames.{with_name}

module _ {A : Type 0} (name : A → List ℕ) where
  -- a text is one of the names where a key has it as its name
  pub any-names : (text : List ℕ) (keys : List A) → list_any (λ key. bytes_eq text (name key)) keys ≡ list_any (bytes_eq text) (map name keys)
  any-names text [] = refl
  any-names text (key ∷ keys) = ap (λ b. bytes_eq text (name key) || b) (any-names text keys)

  names-choice : (b : Bool) (keys : List A) (key : A) → map name (if b then keys else keys ++ key ∷ []) ≡ (if b then map name keys else map name keys ++ name key ∷ [])
  names-choice true keys key = refl
  names-choice false keys key = map-append name keys (key ∷ [])

  -- a key is inserted where its name is added
  pub names-insert_key : (keys : List A) (key : A) → map name (insert_key (λ a b. bytes_eq (name a) (name b)) keys key) ≡ with_name (map name keys) (name key)
  names-insert_key keys key =
      names-choice _ keys key ∙ ap (λ b. if b then map name keys else map name keys ++ name key ∷ []) (any-names (name key) keys)
