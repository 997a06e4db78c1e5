-- Open blocks, of which the last one is the innermost.
use Rattle.std.proofs.Common.{ℕ, ◌≡◌, ◌∙◌, List, [], ◌∷◌, ◌++◌, reverse, take, ap, sym}
use Rattle.std.proofs.lemmas.List.{reverse-append}
use Rattle.tsa_tree.specs.types.Scopes.{Scope, with_names}
use Rattle.tsa_core_points.specs.Walks.{walk, closed}

turned : (xs ys : List ℕ) (n : ℕ) → ys ≡ xs ++ n ∷ [] → reverse ys ≡ n ∷ reverse xs
turned xs ys n is = ap reverse is ∙ reverse-append xs (n ∷ [])

pub begun : (here : Scope) (old new : List ℕ) (n : ℕ) → new ≡ old ++ n ∷ [] → walk here (reverse new) ≡ walk here (n ∷ reverse old)
begun here old new n is = ap (walk here) (turned old new n is)

pub ended : (here : Scope) (old new : List ℕ) (n : ℕ) → old ≡ new ++ n ∷ []
    → walk (with_names (take n here.names) here) (reverse new) ≡ closed here (reverse old)
ended here old new n is = sym (ap (closed here) (turned new old n is))

pub none_ended : (here : Scope) (old new : List ℕ) → old ≡ [] → new ≡ [] → walk here (reverse new) ≡ closed here (reverse old)
none_ended here old new before after = ap (λ xs. walk here (reverse xs)) after ∙ sym (ap (λ xs. closed here (reverse xs)) before)

pub ruleset blocks = (begun, ended, none_ended)
