-- The parts of a declaration that have no names go on, and a specifier and a declarator have a token at least.
use Rattle.std.proofs.Common.{ℕ, ◌<◌, ◌≤◌, Bool, List, arith}
use Rattle.tsa_base.specs.Tokens.{Lexeme}
use Rattle.tsa_tree.specs.declarations.Syntax.{Base, Specified, Declarator}
use Rattle.tsa_tree.specs.declarations.Spelling.{IsConsts, no_const, of_const, IsBase, of_int, of_unsigned, of_unsigned_int, of_signed}
use Rattle.tsa_tree.specs.declarations.Spelling.{of_signed_int, of_void, of_struct, of_enum, of_alias, IsSpecifier, of_specifier, IsStar}
use Rattle.tsa_tree.specs.declarations.Spelling.{no_star, of_star, of_const_star, IsDeclarator, of_declarator}
use Rattle.tsa_tree.specs.declarations.ItemSpelling.{IsStorage, no_storage, of_storage}
use Rattle.tsa_tree.specs.tokens.Signs.{Aliases}

module _ {tokens : List Lexeme} {aliases : Aliases} where
  pub ahead-consts : {c : Bool} {a b : ℕ} → IsConsts tokens aliases c a b → a ≤ b
  ahead-consts no_const = omega arith
  ahead-consts (of_const s rest) = omega (arith, ahead-consts rest)

  ahead-base : {x : Base} {a b : ℕ} → IsBase tokens aliases x a b → a < b
  ahead-base (of_int s) = omega arith
  ahead-base (of_unsigned s) = omega arith
  ahead-base (of_unsigned_int s t) = omega arith
  ahead-base (of_signed s) = omega arith
  ahead-base (of_signed_int s t) = omega arith
  ahead-base (of_void s) = omega arith
  ahead-base (of_struct s t) = omega arith
  ahead-base (of_enum s t) = omega arith
  ahead-base (of_alias s) = omega arith

  pub ahead-specifier : {t : Specified} {a b : ℕ} → IsSpecifier tokens aliases t a b → a < b
  ahead-specifier (of_specifier before base behind) = omega (arith, ahead-consts before, ahead-base base, ahead-consts behind)

  pub ahead-star : {p c : Bool} {a b : ℕ} → IsStar tokens aliases p c a b → a ≤ b
  ahead-star no_star = omega arith
  ahead-star (of_star s) = omega arith
  ahead-star (of_const_star s t) = omega arith

  pub ahead-declarator : {c : Declarator} {a b : ℕ} → IsDeclarator tokens aliases c a b → a < b
  ahead-declarator (of_declarator star s) = omega (arith, ahead-star star)

  pub ahead-storage : {a b : ℕ} → IsStorage tokens aliases a b → a ≤ b
  ahead-storage no_storage = omega arith
  ahead-storage (of_storage e rest) = omega (arith, ahead-storage rest)
