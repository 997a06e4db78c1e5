-- The names in attributes stand one after the other.
use Rattle.std.proofs.Common.{ℕ, ◌+◌, ◌≡◌, ◌∙◌, ap, sym, refl, subst, List, [], ◌∷◌, ◌++◌, Bool, Option, Some, None, append_assoc, arith}
use Rattle.tsa_base.specs.Tokens.{Lexeme}
use Rattle.tsa_tree.specs.declared.attr.AttrKind.{AttrKind}
use Rattle.tsa_tree.specs.declared.attr.AttrKind.TheVariants as attr
use Rattle.tsa_tree.specs.declared.expr.UnaryOp.TheVariants as prefix_op
use Rattle.tsa_tree.specs.attributes.Syntax.{Attribute, without_not, one_more, without_nots, negative}
use Rattle.tsa_tree.specs.attributes.Spelling.{attribute_or, IsAttribute, of_text, of_one, of_expressions, of_try, IsEntry, of_known}
use Rattle.tsa_tree.specs.attributes.Spelling.{of_ignored, of_ignored_list, IsEntries, of_entry, of_entries, IsGroup, of_macro}
use Rattle.tsa_tree.specs.attributes.Spelling.{of_no_entries, of_list, IsAttributes, of_no_group, of_group}
use Rattle.tsa_tree.specs.expressions.Syntax.{Expression, Arguments, unary, none, more}
use Rattle.tsa_tree.specs.tokens.Signs.{Aliases}
use Rattle.tsa_tree.specs.units.Names.{names_in_expression, names_in_arguments, names_in_attributes}
use Rattle.tsa_tree.proofs.attributes.TokenCounts.{ahead-balanced}
use Rattle.tsa_tree.proofs.expressions.NamesRise.{rises-expression, rises-series}
use Rattle.tsa_tree.proofs.tokens.Rising.{Rises, no_name, rises-within, rises-then, rises-last}

-- A `!` has no names of its own.
names_without_not : (x y : Expression) → without_not x ≡ Some y → names_in_expression y ≡ names_in_expression x
names_without_not (unary prefix_op.Not inner span) y e = ap names_in_expression (let same : y ≡ inner = cc in same)
names_without_not _ y e = absurd cc

pub parts : (o : Option Expression) (p : Option Arguments) (ys : Arguments) → one_more o p ≡ Some ys
    → (x : Expression) × (xs : Arguments) × (o ≡ Some x) × (p ≡ Some xs) × (ys ≡ more x xs)
parts (Some x) (Some xs) ys e = (x, xs, refl, refl, (let same : ys ≡ more x xs = cc in same))
parts None p ys e = absurd cc
parts (Some x) None ys e = absurd cc

names_without_nots : (xs ys : Arguments) → without_nots xs ≡ Some ys → names_in_arguments ys ≡ names_in_arguments xs
names_without_nots none ys e = ap names_in_arguments (let same : ys ≡ none = cc in same)
names_without_nots (more x xs) ys e =
    let p = parts (without_not x) (without_nots xs) ys e in
    let first = names_without_not x p.0 p.2 in
    let rest = names_without_nots xs p.1 p.3 in
    ap names_in_arguments p.4 ∙ (ap (λ zs. zs ++ names_in_arguments p.1) first ∙ ap (λ zs. names_in_expression x ++ zs) rest)

names_negative : (k : AttrKind) (xs ys : Arguments) → negative k xs ≡ Some ys → names_in_arguments ys ≡ names_in_arguments xs
names_negative attr.Requires xs ys e = names_without_nots xs ys e
names_negative _ xs ys e = absurd cc

-- what an attribute excludes has the names that are written in it
names_kept : (tokens : List Lexeme) (k : AttrKind) (xs : Arguments) (o : Option Arguments) (a b : ℕ) → negative k xs ≡ o
    → names_in_arguments xs ≡ names_in_arguments (attribute_or tokens k xs o a b).args
names_kept tokens k xs None a b e = refl
names_kept tokens k xs (Some ys) a b e = sym (names_negative k xs ys e)

pub names-attributes : (xs ys : List Attribute) → names_in_attributes (xs ++ ys) ≡ names_in_attributes xs ++ names_in_attributes ys
names-attributes [] ys = refl
names-attributes (x ∷ xs) ys =
    ap (λ zs. names_in_arguments x.args ++ zs) (names-attributes xs ys)
    ∙ sym (append_assoc (names_in_arguments x.args) (names_in_attributes xs) (names_in_attributes ys))

joined : {tokens : List Lexeme} (xs ys : List Attribute) {a b : ℕ} → Rises tokens a b (names_in_attributes xs ++ names_in_attributes ys)
    → Rises tokens a b (names_in_attributes (xs ++ ys))
joined {tokens = tokens} xs ys {a = a} {b = b} r = subst (Rises tokens a b) (sym (names-attributes xs ys)) r

module _ {tokens : List Lexeme} {aliases : Aliases} {fits : ℕ → Bool} where
  rises-attribute : {d : ℕ} {k : AttrKind} {x : Attribute} {a b : ℕ} → IsAttribute tokens aliases fits d k x a b → Rises tokens a b (names_in_arguments x.args)
  rises-attribute (of_text t o f s c) = no_name (omega arith)
  rises-attribute (of_one t o f x c) = rises-last (rises-within (rises-expression x) (omega arith) (omega arith))
  rises-attribute (of_expressions {k = k} {xs = xs} {a = a} {b = b} t o f s c) =
      subst (Rises tokens a (b + 1)) (names_kept tokens k xs (negative k xs) a (b + 1) refl) (rises-within (rises-series s) (omega arith) (omega arith))
  rises-attribute (of_try t o f v m xs c) = rises-within (rises-series xs) (omega arith) (omega arith)

  rises-alone : {d : ℕ} {k : AttrKind} {x : Attribute} {a b : ℕ} → IsAttribute tokens aliases fits d k x a b → Rises tokens a b (names_in_attributes (x ∷ []))
  rises-alone x = rises-last (rises-attribute x)

  rises-entry : {d : ℕ} {xs : List Attribute} {a b : ℕ} → IsEntry tokens aliases fits d xs a b → Rises tokens a b (names_in_attributes xs)
  rises-entry (of_known w m x) = rises-alone x
  rises-entry (of_ignored w m) = no_name (omega arith)
  rises-entry (of_ignored_list w m o f x c) = no_name (omega (arith, ahead-balanced x))

  rises-entries : {d : ℕ} {xs : List Attribute} {a b : ℕ} → IsEntries tokens aliases fits d xs a b → Rises tokens a b (names_in_attributes xs)
  rises-entries (of_entry x) = rises-entry x
  rises-entries (of_entries {xs = xs} {ys = ys} x c rest) = joined xs ys (rises-then (rises-entry x) (omega arith) (rises-entries rest))

  rises-group : {d : ℕ} {xs : List Attribute} {a b : ℕ} → IsGroup tokens aliases fits d xs a b → Rises tokens a b (names_in_attributes xs)
  rises-group (of_macro e x) = rises-alone x
  rises-group (of_no_entries e o f o' f' c c') = no_name (omega arith)
  rises-group (of_list e o f o' f' xs c c') = rises-within (rises-entries xs) (omega arith) (omega arith)

  pub rises-attributes : {d : ℕ} {xs : List Attribute} {a b : ℕ} → IsAttributes tokens aliases fits d xs a b → Rises tokens a b (names_in_attributes xs)
  rises-attributes of_no_group = no_name (omega arith)
  rises-attributes (of_group {xs = xs} {ys = ys} g rest) = joined xs ys (rises-then (rises-group g) (omega arith) (rises-attributes rest))
