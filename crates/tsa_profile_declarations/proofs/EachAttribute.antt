-- What is asked of attributes, one after the other.
use Rattle.std.proofs.Common.{◌≡◌, ◌∙◌, ℕ, ◌+◌, suc, Bool, true, false, not, ◌&&◌, ◌||◌, List, [], ◌∷◌, ◌++◌, drop, map, Option, Some, None}
use Rattle.std.proofs.Common.{refl, ap, sym, if◌then◌else◌}
use Rattle.std.specs.List.{list_any}
use Rattle.tsa_tree.specs.attributes.Syntax.{Attribute, attr_shape, attr_shapes}
use Rattle.tsa_tree.specs.declared.attr.Attr.{Attr}
use Rattle.tsa_tree.specs.declared.kind.Kind.{Kind}
use Rattle.tsa_tree.specs.types.Runnable.{is_generic}
use Rattle.tsa_place_model.specs.Ways.{Way}
use Rattle.tsa_profile_accesses.specs.declared.premise.Failure.{Failure}
use Rattle.tsa_profile_accesses.specs.declared.premise.ProfileCode.TheVariants.{PF7}
use Rattle.tsa_profile_accesses.specs.Expressions.{View}
use Rattle.tsa_profile_accesses.specs.Locks.{is_try}
use Rattle.tsa_profile_accesses.specs.Premises.{Premise, premise, or_else, first}
use Rattle.tsa_profile_declarations.specs.declared.tries.Tries.{Tries}
use Rattle.tsa_profile_declarations.specs.Declarations.{attribute_arguments, attribute_premises, guard_premises, is_int, misfits, value_of}
use Rattle.tsa_profile_declarations.specs.Declarations.{ways_behind}
use Rattle.tsa_profile_declarations.specs.Tries.{misfits_beside, names_other, some_other, tries_among, with_attribute}
use Rattle.tsa_profile_declarations.proofs.Firsts.{goes_on, nothing_fails, stops}
use Rattle.tsa_base.proofs.Numbers.{one_behind as plus_one}

-- those of a member or of a global
module _ (v : View) (attrs : List Attr) (i : ℕ) where
  abbrev guarded : ℕ → Option Failure
  guarded j = first (guard_premises v (attr_shapes (drop j attrs)))

  pub no_guard : drop i attrs ≡ [] → None ≡ guarded i
  unfolding guard_premises
  no_guard e = sym (ap (λ xs. first (guard_premises v (attr_shapes xs))) e ∙ nothing_fails)

  module _ (x : Attr) (at_i : drop i attrs ≡ x ∷ drop (suc i) attrs) where
    abbrev first_guard : List Premise
    first_guard = attribute_arguments v x.kind [] (attr_shape x).args

    splits : guard_premises v (attr_shapes (drop i attrs)) ≡ first_guard ++ guard_premises v (attr_shapes (drop (suc i) attrs))
    unfolding guard_premises
    splits = ap (λ xs. guard_premises v (attr_shapes xs)) at_i

    pub guard_stops : (f : Failure) → Some f ≡ first first_guard → Some f ≡ guarded i
    guard_stops f h = stops first_guard (guard_premises v (attr_shapes (drop (suc i) attrs))) f h ∙ ap first (sym splits)

    pub guard_passes : None ≡ first first_guard → guarded (i + 1) ≡ guarded i
    guard_passes h = ap guarded (plus_one i) ∙ goes_on first_guard (guard_premises v (attr_shapes (drop (suc i) attrs))) h ∙ ap first (sym splits)

-- those of a function, beside what was named before
any_behind : (p : Attribute → Bool) (before : List Attribute) (a : Attribute) → list_any p (before ++ a ∷ []) ≡ (list_any p before || p a)
any_behind p [] a = alone (p a)
  where
    alone : (b : Bool) → (b || false) ≡ b
    alone true = refl
    alone false = refl
any_behind p (b ∷ before) a = ap (λ c. p b || c) (any_behind p before a) ∙ joined (p b) (list_any p before) (p a)
  where
    joined : (x y z : Bool) → (x || (y || z)) ≡ ((x || y) || z)
    joined true y z = refl
    joined false y z = refl

tries_behind : (before : List Attribute) (a : Attribute) → with_attribute (tries_among before) a ≡ tries_among (before ++ a ∷ [])
tries_behind before a =
    ap (λ b. record { some_succeed = b; some_fail = list_any (names_other true) before || names_other true a }) (sym (any_behind (names_other false) before a))
    ∙ ap (λ b. record { some_succeed = list_any (names_other false) (before ++ a ∷ []); some_fail = b }) (sym (any_behind (names_other true) before a))

misfits_are : (gives : Kind) (before : List Attribute) (a : Attribute) → misfits_beside gives (tries_among before) a ≡ misfits gives before a
misfits_are gives before a = ap (λ b. is_generic a.kind || (is_try a.kind && (not (is_int gives) || b))) (by (value_of a))
  where
    by : (b : Bool) → some_other (tries_among before) b ≡ list_any (names_other b) before
    by true = refl
    by false = refl

module _ (v : View) (has_body : Bool) (gives : Kind) where
  abbrev pub one_premises : Tries → List Way → Attribute → List Premise
  one_premises tries ways a = premise PF7 a.span (has_body && misfits_beside gives tries a) ∷ attribute_arguments v a.kind ways a.args

  -- what is asked of them beside what tries and paths were named before
  unfoldable pub premises_beside : Tries → List Way → List Attribute → List Premise
  premises_beside tries ways [] = []
  premises_beside tries ways (a ∷ rest) = one_premises tries ways a ++ premises_beside (with_attribute tries a) (ways_behind v a.kind ways a.args) rest

  pub beside_are : (before : List Attribute) (ways : List Way) (attrs : List Attribute)
      → premises_beside (tries_among before) ways attrs ≡ attribute_premises v has_body gives before ways attrs
  unfolding premises_beside attribute_premises
  beside_are before ways [] = refl
  beside_are before ways (a ∷ rest) =
      let behind = ways_behind v a.kind ways a.args in
      ap (λ b. (premise PF7 a.span (has_body && b) ∷ attribute_arguments v a.kind ways a.args) ++ premises_beside (with_attribute (tries_among before) a) behind rest) (misfits_are gives before a)
      ∙ ap (λ t. (premise PF7 a.span (has_body && misfits gives before a) ∷ attribute_arguments v a.kind ways a.args) ++ premises_beside t behind rest) (tries_behind before a)
      ∙ ap (λ o. (premise PF7 a.span (has_body && misfits gives before a) ∷ attribute_arguments v a.kind ways a.args) ++ o) (beside_are (before ++ a ∷ []) behind rest)

  pub attributes_begin : (attrs : List Attr) (tries : Tries) (ways : List Way) → tries ≡ tries_among [] → ways ≡ []
      → first (premises_beside tries ways (attr_shapes attrs)) ≡ first (attribute_premises v has_body gives [] [] (attr_shapes attrs))
  attributes_begin attrs tries ways is none =
      ap (λ t. first (premises_beside t ways (attr_shapes attrs))) is
      ∙ ap (λ w. first (premises_beside (tries_among []) w (attr_shapes attrs))) none
      ∙ ap first (beside_are [] [] (attr_shapes attrs))

  module _ (attrs : List Attr) (i : ℕ) where
    abbrev pub asked : Tries → List Way → ℕ → Option Failure
    asked tries ways j = first (premises_beside tries ways (attr_shapes (drop j attrs)))

    pub no_attribute : (tries : Tries) (ways : List Way) → drop i attrs ≡ [] → None ≡ asked tries ways i
    unfolding premises_beside
    no_attribute tries ways e = sym (ap (λ xs. first (premises_beside tries ways (attr_shapes xs))) e ∙ nothing_fails)

    module _ (x : Attr) (tries : Tries) (ways : List Way) (at_i : drop i attrs ≡ x ∷ drop (suc i) attrs) where
      abbrev rest : List Premise
      rest = premises_beside (with_attribute tries (attr_shape x)) (ways_behind v x.kind ways (attr_shape x).args) (attr_shapes (drop (suc i) attrs))

      splits_here : premises_beside tries ways (attr_shapes (drop i attrs)) ≡ one_premises tries ways (attr_shape x) ++ rest
      unfolding premises_beside
      splits_here = ap (λ xs. premises_beside tries ways (attr_shapes xs)) at_i

      pub attribute_stops : (f : Failure) → Some f ≡ first (one_premises tries ways (attr_shape x)) → Some f ≡ asked tries ways i
      attribute_stops f h = stops (one_premises tries ways (attr_shape x)) rest f h ∙ ap first (sym splits_here)

      pub attribute_passes : (tries_after : Tries) (after : List Way) → None ≡ first (one_premises tries ways (attr_shape x))
          → tries_after ≡ with_attribute tries (attr_shape x) → after ≡ ways_behind v x.kind ways (attr_shape x).args
          → asked tries_after after (i + 1) ≡ asked tries ways i
      attribute_passes tries_after after h is named =
          ap (λ t. asked t after (i + 1)) is
          ∙ ap (λ w. asked (with_attribute tries (attr_shape x)) w (i + 1)) named
          ∙ ap (asked (with_attribute tries (attr_shape x)) (ways_behind v x.kind ways (attr_shape x).args)) (plus_one i)
          ∙ goes_on (one_premises tries ways (attr_shape x)) rest h
          ∙ ap first (sym splits_here)
