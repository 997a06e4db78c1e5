-- The spans in attributes are those of their tokens.
use Rattle.std.proofs.Common.{ℕ, ◌+◌, ◌<◌, ◌≡◌, ◌∙◌, ap, sym, refl, subst, List, [], ◌∷◌, ◌++◌, Bool, Option, Some, None, append_assoc}
use Rattle.std.proofs.Common.{arith}
use Rattle.tsa_base.specs.Tokens.{Lexeme}
use Rattle.tsa_tree.specs.declared.attr.AttrKind.{AttrKind}
use Rattle.tsa_tree.specs.declared.attr.AttrKind.TheVariants as attr
use Rattle.tsa_tree.specs.declared.expr.UnaryOp.TheVariants as prefix_op
use Rattle.tsa_tree.specs.attributes.Syntax.{Attribute, without_not, without_nots, negative}
use Rattle.tsa_tree.specs.attributes.Spelling.{attribute_or, IsAttribute, of_text, of_one, of_expressions, of_try, IsEntry, of_known}
use Rattle.tsa_tree.specs.attributes.Spelling.{of_ignored, of_ignored_list, IsEntries, of_entry, of_entries, IsGroup, of_macro}
use Rattle.tsa_tree.specs.attributes.Spelling.{of_no_entries, of_list, IsAttributes, of_no_group, of_group}
use Rattle.tsa_tree.specs.expressions.Syntax.{Expression, Arguments, unary, none, more}
use Rattle.tsa_tree.specs.tokens.Signs.{Aliases}
use Rattle.tsa_tree.specs.units.Spans.{spans_in_expression, spans_in_arguments, spans_in_attribute, spans_in_attributes}
use Rattle.tsa_tree.proofs.attributes.TokenCounts.{ahead-balanced}
use Rattle.tsa_tree.proofs.attributes.NamesRise.{parts}
use Rattle.tsa_tree.proofs.expressions.TokenCounts.{ahead-expression, ahead-series}
use Rattle.tsa_tree.proofs.expressions.SpansCover.{cover-expression, cover-series}
use Rattle.tsa_tree.proofs.tokens.Covering.{Cover, no_span, over, cover-within, cover-both, cover-then, cover-last, cover-front, cover-back}

pub spans-attributes : (xs ys : List Attribute) → spans_in_attributes (xs ++ ys) ≡ spans_in_attributes xs ++ spans_in_attributes ys
spans-attributes [] ys = refl
spans-attributes (x ∷ xs) ys =
    ap (λ zs. spans_in_attribute x ++ zs) (spans-attributes xs ys)
    ∙ sym (append_assoc (spans_in_attribute x) (spans_in_attributes xs) (spans_in_attributes ys))

module _ {tokens : List Lexeme} where
  pub joined : (xs ys : List Attribute) {a b : ℕ} → Cover tokens a b (spans_in_attributes xs ++ spans_in_attributes ys)
      → Cover tokens a b (spans_in_attributes (xs ++ ys))
  joined xs ys {a = a} {b = b} r = subst (Cover tokens a b) (sym (spans-attributes xs ys)) r

  -- what a `!` stands before
  cover-inner : {a b : ℕ} (x y : Expression) → without_not x ≡ Some y → Cover tokens a b (spans_in_expression x) → Cover tokens a b (spans_in_expression y)
  cover-inner {a = a} {b = b} (unary prefix_op.Not inner span) y e r =
      subst (λ z. Cover tokens a b (spans_in_expression z)) (let same : inner ≡ y = cc in same) (cover-back (span ∷ []) (spans_in_expression inner) r)
  cover-inner _ y e r = absurd cc

  cover-inners : {a b : ℕ} (xs ys : Arguments) → without_nots xs ≡ Some ys → Cover tokens a b (spans_in_arguments xs) → Cover tokens a b (spans_in_arguments ys)
  cover-inners {a = a} {b = b} none ys e r = subst (λ z. Cover tokens a b (spans_in_arguments z)) (let same : none ≡ ys = cc in same) r
  cover-inners {a = a} {b = b} (more x xs) ys e r =
      let p = parts (without_not x) (without_nots xs) ys e in
      subst (λ z. Cover tokens a b (spans_in_arguments z)) (sym p.4)
      (cover-both (cover-inner x p.0 p.2 (cover-front (spans_in_expression x) (spans_in_arguments xs) r))
      (cover-inners xs p.1 p.3 (cover-back (spans_in_expression x) (spans_in_arguments xs) r)))

  cover-negative : {a b : ℕ} (k : AttrKind) (xs ys : Arguments) → negative k xs ≡ Some ys → Cover tokens a b (spans_in_arguments xs)
      → Cover tokens a b (spans_in_arguments ys)
  cover-negative attr.Requires xs ys e r = cover-inners xs ys e r
  cover-negative _ xs ys e r = absurd cc

  -- an attribute of expressions, also where they are what it excludes
  cover-kept : {a b : ℕ} (k : AttrKind) (xs : Arguments) (o : Option Arguments) → negative k xs ≡ o → a < b → Cover tokens a b (spans_in_arguments xs)
      → Cover tokens a b (spans_in_attribute (attribute_or tokens k xs o a b))
  cover-kept {a = a} {b = b} k xs None e lt r = over a b (omega arith) lt (omega arith) r
  cover-kept {a = a} {b = b} k xs (Some ys) e lt r = over a b (omega arith) lt (omega arith) (cover-negative k xs ys e r)

module _ {tokens : List Lexeme} {aliases : Aliases} {fits : ℕ → Bool} where
  cover-attribute : {d : ℕ} {k : AttrKind} {x : Attribute} {a b : ℕ} → IsAttribute tokens aliases fits d k x a b → Cover tokens a b (spans_in_attribute x)
  cover-attribute (of_text {a = a} t o f s c) = over a (a + 1 + 1 + 1 + 1) (omega arith) (omega arith) (omega arith) (no_span (omega arith))
  cover-attribute (of_one {a = a} {b = b} t o f x c) =
      let lt = ahead-expression x in
      over a (b + 1) (omega arith) (omega arith) (omega arith) (cover-last (cover-within (cover-expression x) (omega arith) (omega arith)))
  cover-attribute (of_expressions {k = k} {xs = xs} {a = a} {b = b} t o f s c) =
      let lt = ahead-series s in
      cover-kept k xs (negative k xs) refl (omega arith) (cover-within (cover-series s) (omega arith) (omega arith))
  cover-attribute (of_try {a = a} {b = b} t o f v m xs c) =
      let lt = ahead-series xs in
      over a (b + 1) (omega arith) (omega arith) (omega arith) (cover-within (cover-series xs) (omega arith) (omega arith))

  cover-alone : {d : ℕ} {k : AttrKind} {x : Attribute} {a b : ℕ} → IsAttribute tokens aliases fits d k x a b → Cover tokens a b (spans_in_attributes (x ∷ []))
  cover-alone x = cover-last (cover-attribute x)

  cover-entry : {d : ℕ} {xs : List Attribute} {a b : ℕ} → IsEntry tokens aliases fits d xs a b → Cover tokens a b (spans_in_attributes xs)
  cover-entry (of_known w m x) = cover-alone x
  cover-entry (of_ignored w m) = no_span (omega arith)
  cover-entry (of_ignored_list w m o f x c) = no_span (omega (arith, ahead-balanced x))

  cover-entries : {d : ℕ} {xs : List Attribute} {a b : ℕ} → IsEntries tokens aliases fits d xs a b → Cover tokens a b (spans_in_attributes xs)
  cover-entries (of_entry x) = cover-entry x
  cover-entries (of_entries {xs = xs} {ys = ys} x c rest) = joined xs ys (cover-then (cover-entry x) (omega arith) (cover-entries rest))

  cover-group : {d : ℕ} {xs : List Attribute} {a b : ℕ} → IsGroup tokens aliases fits d xs a b → Cover tokens a b (spans_in_attributes xs)
  cover-group (of_macro e x) = cover-alone x
  cover-group (of_no_entries e o f o' f' c c') = no_span (omega arith)
  cover-group (of_list e o f o' f' xs c c') = cover-within (cover-entries xs) (omega arith) (omega arith)

  pub cover-attributes : {d : ℕ} {xs : List Attribute} {a b : ℕ} → IsAttributes tokens aliases fits d xs a b → Cover tokens a b (spans_in_attributes xs)
  cover-attributes of_no_group = no_span (omega arith)
  cover-attributes (of_group {xs = xs} {ys = ys} g rest) = joined xs ys (cover-then (cover-group g) (omega arith) (cover-attributes rest))
