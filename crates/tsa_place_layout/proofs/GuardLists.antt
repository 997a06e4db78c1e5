-- The paths of guards one after another.
use Rattle.std.proofs.Common.{◌≡◌, ◌∙◌, ℕ, suc, ◌+◌, arith, Bool, true, false, if◌then◌else◌, List, [], ◌∷◌, ◌++◌, drop, Option, refl, sym}
use Rattle.std.proofs.Common.{ap}
use Rattle.std.proofs.lemmas.List.{append-nil, append_assoc}
use Rattle.tsa_tree.specs.attributes.Syntax.{attr_shape, attr_shapes}
use Rattle.tsa_tree.specs.declared.attr.Attr.{Attr}
use Rattle.tsa_tree.specs.declared.expr.Expr.{Expr}
use Rattle.tsa_tree.specs.expressions.Shapes.{shape, shapes}
use Rattle.tsa_tree.specs.types.Scopes.{Scope}
use Rattle.tsa_place_model.specs.LockPaths.{lock_way}
use Rattle.tsa_place_model.specs.Ways.{Way}
use Rattle.tsa_place_model.specs.Parts.{argument_ways, guard_ways, is_guard, no_stable}

-- what is made of a list, one after another
module _ {A B : Type 0} (all : List A → List B) (one : A → List B) (nil : all [] ≡ []) (more : (x : A) (xs : List A) → all (x ∷ xs) ≡ one x ++ all xs) where
  pub made_end : (made : List B) (xs : List A) (i : ℕ) → drop i xs ≡ [] → made ++ all (drop i xs) ≡ made
  made_end made xs i e = ap (λ l. made ++ all l) e ∙ ap (λ l. made ++ l) nil ∙ append-nil made

  pub made_next : (made after : List B) (xs : List A) (i : ℕ) (x : A) → drop i xs ≡ x ∷ drop (suc i) xs → after ≡ made ++ one x → after ++ all (drop (i + 1) xs) ≡ made ++ all (drop i xs)
  made_next made after xs i x at_i is =
      let plus : suc i ≡ i + 1 = omega arith in
      ap (λ l. l ++ all (drop (i + 1) xs)) is ∙ ap (λ j. (made ++ one x) ++ all (drop j xs)) (sym plus) ∙ append_assoc made (one x) (all (drop (suc i) xs))
      ∙ ap (λ l. made ++ l) (sym (more x (drop (suc i) xs))) ∙ ap (λ l. made ++ all l) (sym at_i)

module _ (here : Scope) where
  abbrev of_argument : Expr → List (Option Way)
  of_argument x = lock_way no_stable here (shape x) ∷ []

  no_arguments : argument_ways here (shapes []) ≡ []
  unfolding argument_ways
  no_arguments = refl

  more_arguments : (x : Expr) (xs : List Expr) → argument_ways here (shapes (x ∷ xs)) ≡ of_argument x ++ argument_ways here (shapes xs)
  unfolding argument_ways
  more_arguments x xs = refl

  pub arguments_end : (made : List (Option Way)) (xs : List Expr) (i : ℕ) → drop i xs ≡ [] → made ++ argument_ways here (shapes (drop i xs)) ≡ made
  arguments_end = made_end (λ xs. argument_ways here (shapes xs)) of_argument no_arguments more_arguments

  pub arguments_next : (made after : List (Option Way)) (xs : List Expr) (i : ℕ) (x : Expr) → drop i xs ≡ x ∷ drop (suc i) xs → after ≡ made ++ of_argument x
      → after ++ argument_ways here (shapes (drop (i + 1) xs)) ≡ made ++ argument_ways here (shapes (drop i xs))
  arguments_next = made_next (λ xs. argument_ways here (shapes xs)) of_argument no_arguments more_arguments

  -- an attribute that is none of a guard has no path
  abbrev of_attribute : Attr → List (Option Way)
  of_attribute a = if is_guard a.kind then argument_ways here (attr_shape a).args else []

  by_kind : (b : Bool) (own rest : List (Option Way)) → (if b then own ++ rest else rest) ≡ (if b then own else []) ++ rest
  by_kind true own rest = refl
  by_kind false own rest = refl

  no_attributes : guard_ways here (attr_shapes []) ≡ []
  unfolding guard_ways
  no_attributes = refl

  more_attributes : (a : Attr) (rest : List Attr) → guard_ways here (attr_shapes (a ∷ rest)) ≡ of_attribute a ++ guard_ways here (attr_shapes rest)
  unfolding guard_ways
  more_attributes a rest = by_kind (is_guard a.kind) (argument_ways here (attr_shape a).args) (guard_ways here (attr_shapes rest))

  pub attributes_end : (made : List (Option Way)) (xs : List Attr) (i : ℕ) → drop i xs ≡ [] → made ++ guard_ways here (attr_shapes (drop i xs)) ≡ made
  attributes_end = made_end (λ xs. guard_ways here (attr_shapes xs)) of_attribute no_attributes more_attributes

  attributes_next : (made after : List (Option Way)) (xs : List Attr) (i : ℕ) (a : Attr) → drop i xs ≡ a ∷ drop (suc i) xs → after ≡ made ++ of_attribute a
      → after ++ guard_ways here (attr_shapes (drop (i + 1) xs)) ≡ made ++ guard_ways here (attr_shapes (drop i xs))
  attributes_next = made_next (λ xs. guard_ways here (attr_shapes xs)) of_attribute no_attributes more_attributes

  -- the next one has guards, or has none
  pub guards_next : (made after : List (Option Way)) (xs : List Attr) (i : ℕ) (a : Attr) → drop i xs ≡ a ∷ drop (suc i) xs → is_guard a.kind ≡ true
      → after ≡ made ++ argument_ways here (attr_shape a).args → after ++ guard_ways here (attr_shapes (drop (i + 1) xs)) ≡ made ++ guard_ways here (attr_shapes (drop i xs))
  guards_next made after xs i a at_i h is =
      attributes_next made after xs i a at_i (is ∙ ap (λ b. made ++ (if b then argument_ways here (attr_shape a).args else [])) (sym h))

  pub others_next : (made after : List (Option Way)) (xs : List Attr) (i : ℕ) (a : Attr) → drop i xs ≡ a ∷ drop (suc i) xs → is_guard a.kind ≡ false → after ≡ made
      → after ++ guard_ways here (attr_shapes (drop (i + 1) xs)) ≡ made ++ guard_ways here (attr_shapes (drop i xs))
  others_next made after xs i a at_i h is =
      attributes_next made after xs i a at_i (is ∙ sym (append-nil made) ∙ ap (λ b. made ++ (if b then argument_ways here (attr_shape a).args else [])) (sym h))
