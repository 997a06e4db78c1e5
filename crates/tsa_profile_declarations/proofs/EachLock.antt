-- The locks that an attribute names, one after the other.
use Rattle.std.proofs.Common.{◌≡◌, ◌∙◌, ℕ, Bool, suc, ◌+◌, arith, List, [], ◌∷◌, ◌++◌, drop, ap, sym}
use Rattle.std.proofs.lemmas.List.{append_assoc, append-nil}
use Rattle.tsa_core.specs.Programs.{Attr, attr_args, attrs_of, succeeds}
use Rattle.tsa_tree.specs.attributes.Syntax.{Attribute, attr_shape, attr_shapes}
use Rattle.tsa_tree.specs.declared.attr.Attr as tree
use Rattle.tsa_tree.specs.declared.expr.Expr.{Expr}
use Rattle.tsa_tree.specs.expressions.Shapes.{shape, shapes}
use Rattle.tsa_tree.specs.types.Scopes.{Scope}
use Rattle.tsa_place_model.specs.LockPaths.{lock_way}

module _ (stable : ℕ → Bool) (here : Scope) (a : Attribute) (args : List Expr) (i : ℕ) (locks : List Attr) where
  abbrev left : ℕ → List Attr
  left j = attr_args stable here a (shapes (drop j args))

  pub lock_next : (x : Expr) (after : List Attr) → drop i args ≡ x ∷ drop (suc i) args
      → after ≡ locks ++ record { kind = a.kind; success = succeeds a.success; path = lock_way stable here (shape x) } ∷ []
      → after ++ left (i + 1) ≡ locks ++ left i
  unfolding attr_args
  lock_next x after at_i is =
      let plus : i + 1 ≡ suc i = omega arith in
      let one : Attr = record { kind = a.kind; success = succeeds a.success; path = lock_way stable here (shape x) } in
      ap (λ l. l ++ left (i + 1)) is
      ∙ ap (λ j. (locks ++ one ∷ []) ++ left j) plus
      ∙ append_assoc locks (one ∷ []) (left (suc i))
      ∙ sym (ap (λ xs. locks ++ attr_args stable here a (shapes xs)) at_i)

  pub no_lock : drop i args ≡ [] → locks ++ left i ≡ locks
  unfolding attr_args
  no_lock e = ap (λ xs. locks ++ attr_args stable here a (shapes xs)) e ∙ append-nil locks

module _ (stable : ℕ → Bool) (here : Scope) (attrs : List tree.Attr) (i : ℕ) (locks : List Attr) where
  abbrev behind : ℕ → List Attr
  behind j = attrs_of stable here (attr_shapes (drop j attrs))

  pub attribute_next : (x : tree.Attr) (after : List Attr) → drop i attrs ≡ x ∷ drop (suc i) attrs
      → after ≡ locks ++ attr_args stable here (attr_shape x) (attr_shape x).args → after ++ behind (i + 1) ≡ locks ++ behind i
  unfolding attrs_of
  attribute_next x after at_i is =
      let plus : i + 1 ≡ suc i = omega arith in
      let own : List Attr = attr_args stable here (attr_shape x) (attr_shape x).args in
      ap (λ l. l ++ behind (i + 1)) is
      ∙ ap (λ j. (locks ++ own) ++ behind j) plus
      ∙ append_assoc locks own (behind (suc i))
      ∙ sym (ap (λ xs. locks ++ attrs_of stable here (attr_shapes xs)) at_i)

  pub no_attribute : drop i attrs ≡ [] → locks ++ behind i ≡ locks
  unfolding attrs_of
  no_attribute e = ap (λ xs. locks ++ attrs_of stable here (attr_shapes xs)) e ∙ append-nil locks
