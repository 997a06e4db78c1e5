-- The names in parameters, heads, enumerators and bodies of structs stand one after the other.
use Rattle.std.proofs.Common.{ℕ, List, ◌∷◌, ◌++◌, Bool, Option, arith}
use Rattle.tsa_base.specs.Tokens.{Lexeme}
use Rattle.tsa_tree.specs.declarations.Syntax.{Parameter, EnumConstant, Signature, Head}
use Rattle.tsa_tree.specs.declarations.ItemSpelling.{IsParameter, of_named, of_unnamed, IsParameterList, of_last_parameter}
use Rattle.tsa_tree.specs.declarations.ItemSpelling.{of_further_parameter, IsParameters, no_parameter, of_lone_void, of_parameters, IsTag}
use Rattle.tsa_tree.specs.declarations.ItemSpelling.{no_tag, of_tag, IsSignature, of_signature, IsHead, of_head, IsConstant, of_name_alone}
use Rattle.tsa_tree.specs.declarations.ItemSpelling.{of_name_and_value, IsConstants, of_last_constant, of_constant_and_comma}
use Rattle.tsa_tree.specs.declarations.ItemSpelling.{of_further_constant, IsEnumBody, of_enum_body}
use Rattle.tsa_tree.specs.expressions.Syntax.{Identifier}
use Rattle.tsa_tree.specs.tokens.Signs.{Aliases}
use Rattle.tsa_tree.specs.units.Names.{names_in_optional, names_in_attributes, the_name, name_of_base, names_in_parameters, names_in_head}
use Rattle.tsa_tree.specs.units.Names.{names_in_constants}
use Rattle.tsa_tree.proofs.attributes.NamesRise.{rises-attributes}
use Rattle.tsa_tree.proofs.declarations.TokenCounts.{ahead-star, ahead-storage}
use Rattle.tsa_tree.proofs.declarations.NamesRise.{rises-specifier, declared}
use Rattle.tsa_tree.proofs.expressions.NamesRise.{rises-expression}
use Rattle.tsa_tree.proofs.tokens.Rising.{Rises, no_name, name_at, rises-within, rises-then, rises-here, rises-last}

module _ {tokens : List Lexeme} {aliases : Aliases} where
  rises-parameter : {x : Parameter} {a b : ℕ} → IsParameter tokens aliases x a b
      → Rises tokens a b (the_name (name_of_base x.ctype.base) ++ (the_name x.name ++ names_in_optional x.ctype.length))
  rises-parameter (of_named {n = n} t s e) = rises-then (rises-specifier t) (ahead-star s) (rises-last (rises-here n))
  rises-parameter (of_unnamed {m = m} {b = b} t s) = rises-then (rises-specifier t) (ahead-star s) (no_name {a = b} (omega arith))

  rises-parameter-list : {xs : List Parameter} {a b : ℕ} → IsParameterList tokens aliases xs a b → Rises tokens a b (names_in_parameters xs)
  rises-parameter-list (of_last_parameter x) = rises-last (rises-parameter x)
  rises-parameter-list (of_further_parameter x c xs) = rises-then (rises-parameter x) (omega arith) (rises-parameter-list xs)

  pub rises-parameters : {xs : List Parameter} {a b : ℕ} → IsParameters tokens aliases xs a b → Rises tokens a b (names_in_parameters xs)
  rises-parameters no_parameter = no_name (omega arith)
  rises-parameters (of_lone_void e) = no_name (omega arith)
  rises-parameters (of_parameters e xs) = rises-parameter-list xs

  pub rises-tag : {x : Option Identifier} {a b : ℕ} → IsTag tokens aliases x a b → Rises tokens a b (the_name x)
  rises-tag no_tag = no_name (omega arith)
  rises-tag (of_tag {a = a} e) = rises-here a

module _ {tokens : List Lexeme} {aliases : Aliases} {fits : ℕ → Bool} where
  rises-signature : {s : Signature} {a b : ℕ} → IsSignature tokens aliases fits s a b
      → Rises tokens a b (names_in_parameters s.params ++ names_in_attributes s.attrs)
  rises-signature (of_signature o f ps c xs) =
      rises-within (rises-then (rises-parameters ps) (omega arith) (rises-attributes xs)) (omega arith) (omega arith)

  pub rises-head : {h : Head} {a b : ℕ} → IsHead tokens aliases fits h a b → Rises tokens a b (names_in_head h)
  rises-head (of_head w t c s) =
      rises-within (rises-then (rises-specifier t) (omega arith) (declared c (rises-signature s))) (ahead-storage w) (omega arith)

  rises-constant : {x : EnumConstant} {a b : ℕ} → IsConstant tokens aliases fits x a b → Rises tokens a b (x.name ∷ names_in_optional x.value)
  rises-constant (of_name_alone {a = a} s) = rises-here a
  rises-constant (of_name_and_value {a = a} s e x) = name_at a (omega arith) (rises-within (rises-expression x) (omega arith) (omega arith))

  rises-constants : {xs : List EnumConstant} {a b : ℕ} → IsConstants tokens aliases fits xs a b → Rises tokens a b (names_in_constants xs)
  rises-constants (of_last_constant x) = rises-last (rises-constant x)
  rises-constants (of_constant_and_comma x c) = rises-last (rises-within (rises-constant x) (omega arith) (omega arith))
  rises-constants (of_further_constant x c xs) = rises-then (rises-constant x) (omega arith) (rises-constants xs)

  pub rises-enum-body : {xs : List EnumConstant} {a b : ℕ} → IsEnumBody tokens aliases fits xs a b → Rises tokens a b (names_in_constants xs)
  rises-enum-body (of_enum_body o f xs c) = rises-within (rises-constants xs) (omega arith) (omega arith)
