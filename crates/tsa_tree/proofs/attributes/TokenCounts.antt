-- Attributes have as many tokens as they spell: each group has at least one, and no group has none.
use Rattle.std.proofs.Common.{ℕ, ◌<◌, ◌≤◌, ◌≡◌, refl, List, [], Bool, arith}
use Rattle.tsa_base.specs.Tokens.{Lexeme}
use Rattle.tsa_tree.specs.declared.attr.AttrKind.{AttrKind}
use Rattle.tsa_tree.specs.attributes.Syntax.{Attribute}
use Rattle.tsa_tree.specs.attributes.Spelling.{IsAttribute, of_text, of_one, of_expressions, of_try, IsBalanced, of_nothing, of_token}
use Rattle.tsa_tree.specs.attributes.Spelling.{of_parentheses, of_brackets, of_braces, IsEntry, of_known, of_ignored, of_ignored_list}
use Rattle.tsa_tree.specs.attributes.Spelling.{IsEntries, of_entry, of_entries, IsGroup, of_macro, of_no_entries, of_list, IsAttributes}
use Rattle.tsa_tree.specs.attributes.Spelling.{of_no_group, of_group}
use Rattle.tsa_tree.specs.tokens.Signs.{Aliases}
use Rattle.tsa_tree.proofs.expressions.TokenCounts.{ahead-expression, ahead-series}

module _ {tokens : List Lexeme} {aliases : Aliases} {fits : ℕ → Bool} where
  ahead-attribute : {d : ℕ} {k : AttrKind} {x : Attribute} {a b : ℕ} → IsAttribute tokens aliases fits d k x a b → a < b
  ahead-attribute (of_text t o f s c) = omega arith
  ahead-attribute (of_one t o f x c) = omega (arith, ahead-expression x)
  ahead-attribute (of_expressions t o f xs c) = omega (arith, ahead-series xs)
  ahead-attribute (of_try t o f v m xs c) = omega (arith, ahead-series xs)

  pub ahead-balanced : {d a b : ℕ} → IsBalanced tokens aliases fits d a b → a ≤ b
  ahead-balanced of_nothing = omega arith
  ahead-balanced (of_token p rest) = omega (arith, ahead-balanced rest)
  ahead-balanced (of_parentheses o f x c rest) = omega (arith, ahead-balanced x, ahead-balanced rest)
  ahead-balanced (of_brackets o f x c rest) = omega (arith, ahead-balanced x, ahead-balanced rest)
  ahead-balanced (of_braces o f x c rest) = omega (arith, ahead-balanced x, ahead-balanced rest)

  ahead-entry : {d : ℕ} {xs : List Attribute} {a b : ℕ} → IsEntry tokens aliases fits d xs a b → a < b
  ahead-entry (of_known w m x) = ahead-attribute x
  ahead-entry (of_ignored w m) = omega arith
  ahead-entry (of_ignored_list w m o f x c) = omega (arith, ahead-balanced x)

  ahead-entries : {d : ℕ} {xs : List Attribute} {a b : ℕ} → IsEntries tokens aliases fits d xs a b → a < b
  ahead-entries (of_entry x) = ahead-entry x
  ahead-entries (of_entries x c rest) = omega (arith, ahead-entry x, ahead-entries rest)

  pub ahead-group : {d : ℕ} {xs : List Attribute} {a b : ℕ} → IsGroup tokens aliases fits d xs a b → a < b
  ahead-group (of_macro e x) = ahead-attribute x
  ahead-group (of_no_entries e o f o' f' c c') = omega arith
  ahead-group (of_list e o f o' f' xs c c') = omega (arith, ahead-entries xs)

  pub ahead-attributes : {d : ℕ} {xs : List Attribute} {a b : ℕ} → IsAttributes tokens aliases fits d xs a b → a ≤ b
  ahead-attributes of_no_group = omega arith
  ahead-attributes (of_group g rest) = omega (arith, ahead-group g, ahead-attributes rest)

  -- no tokens are no attributes
  pub none-there : {d : ℕ} {xs : List Attribute} {a b : ℕ} → b ≤ a → IsAttributes tokens aliases fits d xs a b → xs ≡ []
  none-there le of_no_group = refl
  none-there le (of_group g rest) = let lt = ahead-group g in let le' = ahead-attributes rest in absurd (omega arith)
