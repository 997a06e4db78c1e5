-- What is kept with the last one in the text first.
use Rattle.std.proofs.Common.{◌≡◌, ◌∙◌, List, [], ◌∷◌, ◌++◌, map, reverse, refl, sym, ap}
use Rattle.std.proofs.lemmas.List.{map_push, reverse-append}
use Rattle.tsa_graph_edges.specs.declared.successors.Case.{Case}
use Rattle.tsa_graph_edges.specs.declared.successors.Label.{Label}
use Rattle.tsa_graph_edges.specs.declared.link.Link.{Link}
use Rattle.tsa_graph_edges.specs.Links.{edge_of}
use Rattle.tsa_graph_edges.specs.Marks.{case_of, label_of}

pub turned : {A B : Type 0} (f : A → B) (old new : List A) (x : A) → new ≡ old ++ x ∷ [] → reverse (map f new) ≡ f x ∷ reverse (map f old)
turned f old new x is = ap (λ xs. reverse (map f xs)) is ∙ ap reverse (map_push f old x) ∙ reverse-append (map f old) (f x ∷ [])

pub links : (old new : List Link) (x : Link) → new ≡ old ++ x ∷ [] → reverse (map edge_of new) ≡ edge_of x ∷ reverse (map edge_of old)
links = turned edge_of

pub cases : (old new : List Case) (x : Case) → new ≡ old ++ x ∷ [] → reverse (map case_of new) ≡ case_of x ∷ reverse (map case_of old)
cases = turned case_of

pub labels : (old new : List Label) (x : Label) → new ≡ old ++ x ∷ [] → reverse (map label_of new) ≡ label_of x ∷ reverse (map label_of old)
labels = turned label_of

pub all_turned : {A B : Type 0} (f : A → B) (xs : List A) → map f (reverse xs) ≡ reverse (map f xs)
all_turned f [] = refl
all_turned f (x ∷ xs) =
    ap (map f) (reverse-append (x ∷ []) xs) ∙ map_push f (reverse xs) x ∙ ap (λ ys. ys ++ f x ∷ []) (all_turned f xs) ∙ sym (reverse-append (f x ∷ []) (map f xs))
