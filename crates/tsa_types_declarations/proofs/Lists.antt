-- What is told of a list element by element: the first premise that fails, what is known after it, and its nodes.
use Rattle.std.proofs.Common.{◌≡◌, ◌∙◌, ℕ, ◌+◌, suc, List, [], ◌∷◌, ◌++◌, drop, Option, None, Err, sym, ap}
use Rattle.tsa_tree.specs.declared.premise.Failure.{Failure}
use Rattle.tsa_tree.specs.types.Premises.{Premise, or_else, first}
use Rattle.tsa_types_expressions.specs.declared.refusal.TypeRefusal.{TypeRefusal}
use Rattle.tsa_types_expressions.specs.Judgements.{Judges}
use Rattle.tsa_types_expressions.proofs.Steps.{first_append}
use Rattle.tsa_types_row.specs.declared.node.Node.{Node}
use Rattle.tsa_types_expressions.proofs.RowLaws.{Notes, noted, noted_append, noted_nothing}
use Rattle.tsa_types_expressions.proofs.Sequences.{judged_some, nothing_fails}
use Rattle.tsa_types_declarations.proofs.Judging.{judges_err, or_nothing, or_else_same}
use Rattle.tsa_base.proofs.Numbers.{plus_one}

-- a state goes on from element to element, and what is left of the list is told from the state before it
module _ {S A : Type 0} (next : S → A → S) (xs : List A) (i : ℕ) (s : S) where
  -- one of them stops, or none does
  module _ (premises : S → List A → List Premise) (own : S → A → List Premise) where
    -- the premises of a list are those of its first element and those of the rest
    abbrev Splits : Type 0
    Splits = (t : S) (x : A) (rest : List A) → premises t (x ∷ rest) ≡ own t x ++ premises (next t x) rest

    abbrev Ends : Type 0
    Ends = (t : S) → premises t [] ≡ []

    -- the first that fails from a place on
    abbrev left : S → ℕ → Option Failure
    left t j = first (premises t (drop j xs))

    -- none is left
    pub premises_end : Ends → drop i xs ≡ [] → left s i ≡ None
    premises_end nil e = ap (λ ys. first (premises s ys)) e ∙ ap first (nil s) ∙ nothing_fails

    module _ (more : Splits) (x : A) (at_i : drop i xs ≡ x ∷ drop (suc i) xs) where
      -- what is left, by the next element and the rest
      whole : premises s (drop i xs) ≡ own s x ++ premises (next s x) (drop (suc i) xs)
      whole = ap (premises s) at_i ∙ more s x (drop (suc i) xs)

      -- the rest from the next place on
      further : (t : S) → t ≡ next s x → left t (i + 1) ≡ left (next s x) (suc i)
      further t is = ap (λ u. left u (i + 1)) is ∙ ap (left (next s x)) (sym (plus_one i))

      -- the next one is refused
      pub premises_stop : (e : TypeRefusal) → Judges (first (own s x)) (Err e) → Judges (left s i) (Err e)
      premises_stop e h =
          judges_err _ _ e (sym (ap first whole)) (judged_some (own s x) (premises (next s x) (drop (suc i) xs)) e h)

      -- the next one decides, or the rest does
      split : left s i ≡ or_else (first (own s x)) (left (next s x) (suc i))
      split = ap first whole ∙ first_append (own s x) (premises (next s x) (drop (suc i) xs))

      -- the next one holds, so the rest decides
      pub premises_next : (t : S) → first (own s x) ≡ None → t ≡ next s x → left t (i + 1) ≡ left s i
      premises_next t none is = further t is ∙ sym (split ∙ ap (λ o. or_else o (left (next s x) (suc i))) none)

      -- all are asked, and what failed first so far is kept
      pub failure_next : (t : S) (f g : Option Failure) → g ≡ first (own s x) → t ≡ next s x → or_else (or_else f g) (left t (i + 1)) ≡ or_else f (left s i)
      failure_next t f g found is =
          ap (λ o. or_else (or_else f o) (left t (i + 1))) found
          ∙ ap (or_else (or_else f (first (own s x)))) (further t is)
          ∙ sym (ap (or_else f) split ∙ or_else_same f (first (own s x)) (left (next s x) (suc i)))

    -- none is left, and what failed first so far did in all
    pub failure_end : Ends → (f : Option Failure) → drop i xs ≡ [] → or_else f (left s i) ≡ f
    failure_end nil f e = ap (or_else f) (premises_end nil e) ∙ or_nothing f

  -- what is known after all
  module _ {R : Type 0} (behind : S → List A → R) (known : S → R) where
    -- none is left
    pub behind_end : ((t : S) → behind t [] ≡ known t) → drop i xs ≡ [] → behind s (drop i xs) ≡ known s
    behind_end nil e = ap (behind s) e ∙ nil s

    -- one more is known
    pub behind_next : ((t : S) (x : A) (rest : List A) → behind t (x ∷ rest) ≡ behind (next t x) rest) → (x : A) → drop i xs ≡ x ∷ drop (suc i) xs
        → (t : S) → t ≡ next s x → behind t (drop (i + 1) xs) ≡ behind s (drop i xs)
    behind_next more x at_i t is =
        ap (λ u. behind u (drop (i + 1) xs)) is ∙ ap (λ j. behind (next s x) (drop j xs)) (sym (plus_one i))
        ∙ sym (ap (behind s) at_i ∙ more s x (drop (suc i) xs))

  -- the nodes of all
  module _ (nodes : S → List A → List Node) (own : S → A → List Node) (notes : Notes) where
    -- none is left
    pub names_end : ((t : S) → nodes t [] ≡ []) → drop i xs ≡ [] → noted notes (nodes s (drop i xs)) ≡ notes
    names_end nil e = ap (λ ys. noted notes (nodes s ys)) e ∙ ap (noted notes) (nil s) ∙ noted_nothing notes

    -- one more is put
    pub names_next : ((t : S) (x : A) (rest : List A) → nodes t (x ∷ rest) ≡ own t x ++ nodes (next t x) rest) → (x : A) → drop i xs ≡ x ∷ drop (suc i) xs
        → (t : S) (after : Notes) → t ≡ next s x → after ≡ noted notes (own s x) → noted after (nodes t (drop (i + 1) xs)) ≡ noted notes (nodes s (drop i xs))
    names_next more x at_i t after is found =
        ap (λ n. noted n (nodes t (drop (i + 1) xs))) found
        ∙ ap (λ u. noted (noted notes (own s x)) (nodes u (drop (i + 1) xs))) is
        ∙ ap (λ j. noted (noted notes (own s x)) (nodes (next s x) (drop j xs))) (sym (plus_one i))
        ∙ sym (ap (λ ys. noted notes (nodes s ys)) at_i ∙ ap (noted notes) (more s x (drop (suc i) xs)) ∙ noted_append notes (own s x) (nodes (next s x) (drop (suc i) xs)))
