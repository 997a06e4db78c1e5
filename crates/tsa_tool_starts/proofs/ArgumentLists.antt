-- The values of arguments, one after the other.
use Rattle.std.proofs.Common.{◌≡◌, ◌∙◌, ℕ, suc, ◌+◌, ◌<◌, ◌≤◌, List, [], ◌∷◌, ◌++◌, length, drop, slice_index_or, Option, Some, None, option_map, append_assoc, refl, sym, ap, subst}
use Rattle.std.specs.Prelude.{option_and_then}
use Rattle.std.proofs.lemmas.List.{append-nil, drop_more}
use Rattle.std.proofs.Math.ListN.{drop_of_length-le}
use Rattle.tsa_base.specs.declared.value.Value.{Value}
use Rattle.tsa_tree.specs.declared.expr.Expr.{Expr}
use Rattle.tsa_tree.specs.declared.kind.ThingType.{ThingType}
use Rattle.tsa_tree.specs.expressions.Shapes.{shape, shapes}
use Rattle.tsa_profile.specs.Arguments.{value_seen}
use Rattle.tsa_profile_accesses.specs.Expressions.{View}
use Rattle.tsa_tool_starts.specs.Starts.{arguments_of, with_value}

module _ (v : View) where
  -- lists of different lengths
  pub unequal : (params : List ThingType) (args : List Expr) → (length params ≡ length args → ⊥) → arguments_of v params (shapes args) ≡ None
  unfolding arguments_of
  unequal [] [] h = absurd (h refl)
  unequal [] (e ∷ args) h = refl
  unequal (p ∷ params) [] h = refl
  unequal (p ∷ params) (e ∷ args) h = none (value_seen v p (shape e)) (unequal params args (λ same. h (ap suc same)))
    where
      none : (x : Option Value) → arguments_of v params (shapes args) ≡ None → option_and_then (λ x. with_value x (arguments_of v params (shapes args))) x ≡ None
      none None e = refl
      none (Some x) e = ap (with_value x) e

  -- behind values that were worked out
  abbrev pub onto : List Value → Option (List Value) → Option (List Value)
  onto before rest = option_map (λ vs. before ++ vs) rest

  pub at_end : (before : List Value) → onto before (arguments_of v [] (shapes [])) ≡ Some before
  unfolding arguments_of
  at_end before = ap Some (append-nil before)

  pub next : (before : List Value) (p : ThingType) (params : List ThingType) (e : Expr) (args : List Expr) (x : Value) → value_seen v p (shape e) ≡ Some x
      → onto before (arguments_of v (p ∷ params) (shapes (e ∷ args))) ≡ onto (before ++ x ∷ []) (arguments_of v params (shapes args))
  unfolding arguments_of
  next before p params e args x h = ap (λ o. onto before (option_and_then (λ x. with_value x (arguments_of v params (shapes args))) o)) h ∙ moved (arguments_of v params (shapes args))
    where
      moved : (rest : Option (List Value)) → onto before (with_value x rest) ≡ onto (before ++ x ∷ []) rest
      moved None = refl
      moved (Some vs) = ap Some (sym (append_assoc before (x ∷ []) vs))

  pub stops : (before : List Value) (p : ThingType) (params : List ThingType) (e : Expr) (args : List Expr) → value_seen v p (shape e) ≡ None
      → onto before (arguments_of v (p ∷ params) (shapes (e ∷ args))) ≡ None
  unfolding arguments_of
  stops before p params e args h = ap (λ o. onto before (option_and_then (λ x. with_value x (arguments_of v params (shapes args))) o)) h

  abbrev Seen : List Value → List ThingType → List Expr → ℕ → Type 0
  Seen before params args n = onto before (arguments_of v (drop n params) (shapes (drop n args))) ≡ arguments_of v params (shapes args)

  module _ (params : List ThingType) (args : List Expr) (same : length params ≡ length args) (n : ℕ) (p : ThingType) (e : Expr) (left : n < length args) where
    here : (before : List Value) → onto before (arguments_of v (drop n params) (shapes (drop n args)))
        ≡ onto before (arguments_of v (slice_index_or params n p ∷ drop (n + 1) params) (shapes (slice_index_or args n e ∷ drop (n + 1) args)))
    here before =
        ap (λ ps. onto before (arguments_of v ps (shapes (drop n args)))) (drop_more params n p (subst (λ k. n < k) (sym same) left))
        ∙ ap (λ es. onto before (arguments_of v (slice_index_or params n p ∷ drop (n + 1) params) (shapes es))) (drop_more args n e left)

    pub goes_on : (before after : List Value) (x : Value) → after ≡ before ++ x ∷ [] → value_seen v (slice_index_or params n p) (shape (slice_index_or args n e)) ≡ Some x
        → Seen before params args n → Seen after params args (n + 1)
    goes_on before after x more seen h =
        ap (λ vs. onto vs (arguments_of v (drop (n + 1) params) (shapes (drop (n + 1) args)))) more
        ∙ sym (next before (slice_index_or params n p) (drop (n + 1) params) (slice_index_or args n e) (drop (n + 1) args) x seen) ∙ sym (here before) ∙ h

    pub ends : (before : List Value) → value_seen v (slice_index_or params n p) (shape (slice_index_or args n e)) ≡ None → Seen before params args n
        → arguments_of v params (shapes args) ≡ None
    ends before seen h =
        sym h ∙ here before ∙ stops before (slice_index_or params n p) (drop (n + 1) params) (slice_index_or args n e) (drop (n + 1) args) seen

  pub all_seen : (before : List Value) (params : List ThingType) (args : List Expr) (n : ℕ) → length params ≡ length args → length args ≤ n → Seen before params args n
      → arguments_of v params (shapes args) ≡ Some before
  all_seen before params args n same past h =
      sym h
      ∙ ap (λ ps. onto before (arguments_of v ps (shapes (drop n args)))) (drop_of_length-le params (subst (λ k. k ≤ n) (sym same) past))
      ∙ ap (λ es. onto before (arguments_of v [] (shapes es))) (drop_of_length-le args past)
      ∙ at_end before
