-- The nodes of attributes stand in the order of the text.
use Rattle.std.proofs.Common.{ℕ, ◌+◌, ◌<◌, ◌≡◌, ◌∙◌, ap, sym, refl, subst, List, [], ◌∷◌, ◌++◌, Bool, Option, Some, None, append_assoc}
use Rattle.std.proofs.Common.{arith}
use Rattle.tsa_base.specs.Tokens.{Lexeme}
use Rattle.tsa_tree.specs.declared.attr.AttrKind.{AttrKind}
use Rattle.tsa_tree.specs.declared.attr.AttrKind.TheVariants as attr
use Rattle.tsa_tree.specs.declared.expr.UnaryOp.TheVariants as prefix_op
use Rattle.tsa_tree.specs.attributes.Syntax.{Attribute, without_not, without_nots, negative}
use Rattle.tsa_tree.specs.attributes.Spelling.{attribute_or, IsAttribute, of_text, of_one, of_expressions, of_try, IsEntry, of_known}
use Rattle.tsa_tree.specs.attributes.Spelling.{of_ignored, of_ignored_list, IsEntries, of_entry, of_entries, IsGroup, of_macro}
use Rattle.tsa_tree.specs.attributes.Spelling.{of_no_entries, of_list, IsAttributes, of_no_group, of_group}
use Rattle.tsa_tree.specs.expressions.Syntax.{Expression, Arguments, unary, none, more}
use Rattle.tsa_tree.specs.tokens.Signs.{Aliases}
use Rattle.tsa_tree.specs.units.Order.{places_in_expression, places_in_arguments, places_in_attribute, places_in_attributes}
use Rattle.tsa_tree.proofs.attributes.TokenCounts.{ahead-balanced}
use Rattle.tsa_tree.proofs.attributes.NamesRise.{parts}
use Rattle.tsa_tree.proofs.expressions.TokenCounts.{ahead-expression, ahead-series}
use Rattle.tsa_tree.proofs.expressions.NodesClimb.{climbs-expression, climbs-series}
use Rattle.tsa_tree.proofs.tokens.Climbing.{Climbs, no_place, climbs-within, climbs-then, climbs-last, climbs-tail, climbs-back}
use Rattle.tsa_tree.proofs.tokens.Climbing.{climbs-over, climbs-alone}

places-attributes : (xs ys : List Attribute) → places_in_attributes (xs ++ ys) ≡ places_in_attributes xs ++ places_in_attributes ys
places-attributes [] ys = refl
places-attributes (x ∷ xs) ys =
    ap (λ zs. places_in_attribute x ++ zs) (places-attributes xs ys)
    ∙ sym (append_assoc (places_in_attribute x) (places_in_attributes xs) (places_in_attributes ys))

-- a `!` has one place more than what it stands before
places-without-not : (x y : Expression) → without_not x ≡ Some y → (at : ℕ) × (places_in_expression x ≡ at ∷ places_in_expression y)
places-without-not (unary prefix_op.Not inner span) y e =
    (span.from, ap (λ z. span.from ∷ places_in_expression z) (let same : inner ≡ y = cc in same))
places-without-not _ y e = absurd cc

module _ {tokens : List Lexeme} where
  pub joined : (xs ys : List Attribute) {a b : ℕ} → Climbs tokens a b (places_in_attributes xs ++ places_in_attributes ys)
      → Climbs tokens a b (places_in_attributes (xs ++ ys))
  joined xs ys {a = a} {b = b} r = subst (Climbs tokens a b) (sym (places-attributes xs ys)) r

  climbs-inners : {a b : ℕ} (xs ys : Arguments) → without_nots xs ≡ Some ys → Climbs tokens a b (places_in_arguments xs) → Climbs tokens a b (places_in_arguments ys)
  climbs-inners {a = a} {b = b} none ys e r = subst (λ z. Climbs tokens a b (places_in_arguments z)) (let same : none ≡ ys = cc in same) r
  climbs-inners {a = a} {b = b} (more x xs) ys e r =
      let p = parts (without_not x) (without_nots xs) ys e in
      let q = places-without-not x p.0 p.2 in
      let s = subst (λ zs. Climbs tokens a b (zs ++ places_in_arguments xs)) q.1 r in
      let inner = climbs-back (q.0 ∷ []) (places_in_expression p.0 ++ places_in_arguments xs) s in
      subst (λ z. Climbs tokens a b (places_in_arguments z)) (sym p.4)
      (climbs-tail (places_in_expression p.0) (λ c r'. climbs-inners xs p.1 p.3 r') inner)

  climbs-negative : {a b : ℕ} (k : AttrKind) (xs ys : Arguments) → negative k xs ≡ Some ys → Climbs tokens a b (places_in_arguments xs)
      → Climbs tokens a b (places_in_arguments ys)
  climbs-negative attr.Requires xs ys e r = climbs-inners xs ys e r
  climbs-negative _ xs ys e r = absurd cc

  -- an attribute of expressions, also where they are what it excludes
  climbs-kept : {a b : ℕ} (k : AttrKind) (xs : Arguments) (o : Option Arguments) → negative k xs ≡ o → a < b → Climbs tokens a b (places_in_arguments xs)
      → Climbs tokens a b (places_in_attribute (attribute_or tokens k xs o a b))
  climbs-kept {a = a} {b = b} k xs None e lt r = climbs-over a b r (omega arith) lt (omega arith) (omega arith)
  climbs-kept {a = a} {b = b} k xs (Some ys) e lt r = climbs-over a b (climbs-negative k xs ys e r) (omega arith) lt (omega arith) (omega arith)

module _ {tokens : List Lexeme} {aliases : Aliases} {fits : ℕ → Bool} where
  climbs-attribute : {d : ℕ} {k : AttrKind} {x : Attribute} {a b : ℕ} → IsAttribute tokens aliases fits d k x a b → Climbs tokens a b (places_in_attribute x)
  climbs-attribute (of_text {a = a} t o f s c) = climbs-alone a (a + 1 + 1 + 1 + 1) (omega arith) (omega arith)
  climbs-attribute (of_one {a = a} {b = b} t o f x c) =
      let lt = ahead-expression x in
      climbs-over a (b + 1) (climbs-last (climbs-expression x)) (omega arith) (omega arith) (omega arith) (omega arith)
  climbs-attribute (of_expressions {k = k} {xs = xs} {a = a} {b = b} t o f s c) =
      let lt = ahead-series s in
      climbs-kept k xs (negative k xs) refl (omega arith) (climbs-within (climbs-series s) (omega arith) (omega arith))
  climbs-attribute (of_try {a = a} {b = b} t o f v m xs c) =
      let lt = ahead-series xs in
      climbs-over a (b + 1) (climbs-series xs) (omega arith) (omega arith) (omega arith) (omega arith)

  climbs-entry : {d : ℕ} {xs : List Attribute} {a b : ℕ} → IsEntry tokens aliases fits d xs a b → Climbs tokens a b (places_in_attributes xs)
  climbs-entry (of_known w m x) = climbs-last (climbs-attribute x)
  climbs-entry (of_ignored w m) = no_place (omega arith)
  climbs-entry (of_ignored_list w m o f x c) = no_place (omega (arith, ahead-balanced x))

  climbs-entries : {d : ℕ} {xs : List Attribute} {a b : ℕ} → IsEntries tokens aliases fits d xs a b → Climbs tokens a b (places_in_attributes xs)
  climbs-entries (of_entry x) = climbs-entry x
  climbs-entries (of_entries {xs = xs} {ys = ys} x c rest) = joined xs ys (climbs-then (climbs-entry x) (omega arith) (climbs-entries rest))

  climbs-group : {d : ℕ} {xs : List Attribute} {a b : ℕ} → IsGroup tokens aliases fits d xs a b → Climbs tokens a b (places_in_attributes xs)
  climbs-group (of_macro e x) = climbs-last (climbs-attribute x)
  climbs-group (of_no_entries e o f o' f' c c') = no_place (omega arith)
  climbs-group (of_list e o f o' f' xs c c') = climbs-within (climbs-entries xs) (omega arith) (omega arith)

  pub climbs-attributes : {d : ℕ} {xs : List Attribute} {a b : ℕ} → IsAttributes tokens aliases fits d xs a b → Climbs tokens a b (places_in_attributes xs)
  climbs-attributes of_no_group = no_place (omega arith)
  climbs-attributes (of_group {xs = xs} {ys = ys} g rest) = joined xs ys (climbs-then (climbs-group g) (omega arith) (climbs-attributes rest))
