-- The cases of a switch, which are kept with the last one first, and their edges.
use Rattle.std.proofs.Common.{◌≡◌, ◌∙◌, ℕ, suc, ◌+◌, ◌<◌, arith, Bool, true, false, not, ◌||◌, List, [], ◌∷◌, ◌++◌, map, reverse, take}
use Rattle.std.proofs.Common.{length, get_or, is_some, refl, sym, ap}
use Rattle.std.proofs.lemmas.List.{reverse-append}
use Rattle.std.proofs.Math.Seq.{take-suc}
use Rattle.std.specs.List.{list_any}
use Rattle.tsa_core.specs.Control.{Edge, Cases, case_edge, case_edges, has_default}
use Rattle.tsa_graph_edges.proofs.LastFirst.{cases}
use Rattle.tsa_graph_edges.specs.declared.successors.Case.{Case}
use Rattle.tsa_graph_edges.specs.Marks.{case_of}

pub next_case : (from k : ℕ) (cs : List Case) (x : Case) (old new rest : List Edge) → k < length cs → x ≡ get_or cs k x → new ≡ case_edge from (case_of x) ∷ old
    → old ≡ case_edges from (reverse (map case_of (take k cs))) ++ rest → new ≡ case_edges from (reverse (map case_of (take (k + 1) cs))) ++ rest
next_case from k cs x old new rest within at is h =
    let n : k + 1 ≡ suc k = omega arith in
    let turned = cases (take k cs) (take (suc k) cs) (get_or cs k x) (take-suc cs k x within) in
    is ∙ ap (λ es. case_edge from (case_of x) ∷ es) h ∙ ap (λ y. case_edge from (case_of y) ∷ (case_edges from (reverse (map case_of (take k cs))) ++ rest)) at
    ∙ ap (λ xs. case_edges from xs ++ rest) (sym turned) ∙ ap (λ m. case_edges from (reverse (map case_of (take m cs))) ++ rest) (sym n)

abbrev pub is_default : Case → Bool
is_default c = not (is_some c.value)

either : (a b : Bool) → (b || (a || false)) ≡ (a || b)
either true true = refl
either true false = refl
either false true = refl
either false false = refl

further : (a b c : Bool) → (a || (b || c)) ≡ ((a || b) || c)
further true b c = refl
further false b c = refl

default_both : (xs ys : Cases) → has_default (xs ++ ys) ≡ (has_default xs || has_default ys)
default_both [] ys = refl
default_both (x ∷ xs) ys = ap (λ b. not (is_some x.0) || b) (default_both xs ys) ∙ further (not (is_some x.0)) (has_default xs) (has_default ys)

pub default_turned : (cs : List Case) → list_any is_default cs ≡ has_default (reverse (map case_of cs))
default_turned [] = refl
default_turned (c ∷ cs) =
    ap (λ b. is_default c || b) (default_turned cs) ∙ sym (either (is_default c) (has_default (reverse (map case_of cs))))
    ∙ sym (default_both (reverse (map case_of cs)) (case_of c ∷ [])) ∙ sym (ap has_default (reverse-append (case_of c ∷ []) (map case_of cs)))
