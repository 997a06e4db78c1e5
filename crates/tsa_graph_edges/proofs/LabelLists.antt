-- The labels that are known, of two that have one name the first.
use Rattle.std.proofs.Common.{◌≡◌, ◌∙◌, ℕ, Bool, true, false, not, List, [], ◌∷◌, ◌++◌, Option, Some, None, is_some, if◌then◌else◌, refl}
use Rattle.std.proofs.Common.{sym, ap, append_assoc}
use Rattle.std.proofs.lemmas.Slice.Eq.{bytes_eq-Decides}
use Rattle.std.specs.Str.{bytes_eq}
use Rattle.tsa_tree.specs.types.Scopes.{found}
use Rattle.tsa_tree.specs.types.Targets.{Labels}
use Rattle.tsa_core.proofs.UnitScopes.{or_other, found_append}
use Rattle.tsa_base.proofs.Truths.{never}

-- a further name that wasn't known
pub fresh_label : (old new rest : Labels) (text : List ℕ) (n : ℕ) → new ≡ old ++ (text, n) ∷ [] → (name : List ℕ) → found (new ++ rest) name ≡ found (old ++ (text, n) ∷ rest) name
fresh_label old new rest text n is name = ap (λ xs. found (xs ++ rest) name) is ∙ ap (λ xs. found xs name) (append_assoc old ((text, n) ∷ []) rest)

-- one that was
passed : (o : Option ℕ) (b : Bool) (n : ℕ) (p : Option ℕ) → (b ≡ true → is_some o ≡ true) → or_other o p ≡ or_other o (if b then Some n else p)
passed (Some x) b n p h = refl
passed None true n p h = never (sym (h refl))
passed None false n p h = refl

pub known_label : (old rest : Labels) (text : List ℕ) (n : ℕ) → is_some (found old text) ≡ true → (name : List ℕ) → found (old ++ rest) name ≡ found (old ++ (text, n) ∷ rest) name
known_label old rest text n known name =
    found_append old rest name
    ∙ passed (found old name) (bytes_eq name text) n (found rest name) (λ same. ap (λ x. is_some (found old x)) ((bytes_eq-Decides name text).0 same) ∙ known)
    ∙ sym (found_append old ((text, n) ∷ rest) name)

taken : (b : Bool) → false ≡ not b → b ≡ true
taken true e = refl
taken false e = never (sym e)

-- whichever it was
pub next_label : (old new rest : Labels) (text : List ℕ) (n : ℕ) (fresh : Bool) → fresh ≡ not (is_some (found old text)) → (fresh ≡ true → new ≡ old ++ (text, n) ∷ [])
    → (fresh ≡ false → new ≡ old) → (name : List ℕ) → found (new ++ rest) name ≡ found (old ++ (text, n) ∷ rest) name
next_label old new rest text n true e added kept name = fresh_label old new rest text n (added refl) name
next_label old new rest text n false e added kept name =
    ap (λ xs. found (xs ++ rest) name) (kept refl) ∙ known_label old rest text n (taken (is_some (found old text)) e) name
