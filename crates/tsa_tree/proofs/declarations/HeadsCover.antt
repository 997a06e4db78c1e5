-- The spans in parameters, heads, enumerators and bodies of structs are those of their tokens.
use Rattle.std.proofs.Common.{ℕ, ◌+◌, List, ◌∷◌, ◌++◌, Option, Bool, arith}
use Rattle.tsa_base.specs.Tokens.{Lexeme}
use Rattle.tsa_tree.specs.declarations.Syntax.{Parameter, EnumConstant, Signature, Head}
use Rattle.tsa_tree.specs.declarations.Spelling.{no_star, of_star, of_const_star}
use Rattle.tsa_tree.specs.declarations.ItemSpelling.{IsParameter, of_named, of_unnamed, IsParameterList, of_last_parameter}
use Rattle.tsa_tree.specs.declarations.ItemSpelling.{of_further_parameter, IsParameters, no_parameter, of_lone_void, of_parameters, IsTag}
use Rattle.tsa_tree.specs.declarations.ItemSpelling.{no_tag, of_tag, IsSignature, of_signature, IsHead, of_head, IsConstant, of_name_alone}
use Rattle.tsa_tree.specs.declarations.ItemSpelling.{of_name_and_value, IsConstants, of_last_constant, of_constant_and_comma}
use Rattle.tsa_tree.specs.declarations.ItemSpelling.{of_further_constant, IsEnumBody, of_enum_body}
use Rattle.tsa_tree.specs.expressions.Syntax.{Identifier}
use Rattle.tsa_tree.specs.tokens.Signs.{Aliases}
use Rattle.tsa_tree.specs.units.Spans.{spans_in_optional, spans_in_attributes, span_of_name, spans_in_parameter, spans_in_parameters}
use Rattle.tsa_tree.specs.units.Spans.{spans_in_head, spans_in_constants}
use Rattle.tsa_tree.proofs.attributes.SpansCover.{cover-attributes}
use Rattle.tsa_tree.proofs.declarations.TokenCounts.{ahead-star, ahead-storage, ahead-specifier}
use Rattle.tsa_tree.proofs.declarations.SpansCover.{cover-specifier, cover-declarator}
use Rattle.tsa_tree.proofs.expressions.SpansCover.{cover-expression}
use Rattle.tsa_tree.proofs.tokens.Covering.{Cover, no_span, over, name_at, cover-ends, cover-within, cover-then, cover-last}

module _ {tokens : List Lexeme} {aliases : Aliases} where
  cover-parameter : {x : Parameter} {a b : ℕ} → IsParameter tokens aliases x a b → Cover tokens a b (spans_in_parameter x)
  cover-parameter (of_named {a = a} {m = m} {n = n} t star e) =
      let lt = ahead-specifier t in
      let le = ahead-star star in
      over m (n + 1) (omega arith) (omega arith) (omega arith)
      (cover-then {n = n} (cover-specifier t) (omega arith) (name_at n (omega arith) (omega arith) (no_span (omega arith))))
  cover-parameter (of_unnamed {a = a} {m = m} t no_star) =
      let lt = ahead-specifier t in
      over a m (omega arith) (omega arith) (omega arith) (cover-last (cover-specifier t))
  cover-parameter (of_unnamed {a = a} {m = m} t (of_star s)) =
      let lt = ahead-specifier t in
      over m (m + 1) (omega arith) (omega arith) (omega arith) (cover-last (cover-within (cover-specifier t) (omega arith) (omega arith)))
  cover-parameter (of_unnamed {a = a} {m = m} t (of_const_star s s')) =
      let lt = ahead-specifier t in
      over m (m + 1 + 1) (omega arith) (omega arith) (omega arith) (cover-last (cover-within (cover-specifier t) (omega arith) (omega arith)))

  cover-parameter-list : {xs : List Parameter} {a b : ℕ} → IsParameterList tokens aliases xs a b → Cover tokens a b (spans_in_parameters xs)
  cover-parameter-list (of_last_parameter x) = cover-last (cover-parameter x)
  cover-parameter-list (of_further_parameter x c xs) = cover-then (cover-parameter x) (omega arith) (cover-parameter-list xs)

  cover-parameters : {xs : List Parameter} {a b : ℕ} → IsParameters tokens aliases xs a b → Cover tokens a b (spans_in_parameters xs)
  cover-parameters no_parameter = no_span (omega arith)
  cover-parameters (of_lone_void e) = no_span (omega arith)
  cover-parameters (of_parameters e xs) = cover-parameter-list xs

  pub cover-tag : {x : Option Identifier} {a b : ℕ} → IsTag tokens aliases x a b → Cover tokens a b (span_of_name x)
  cover-tag no_tag = no_span (omega arith)
  cover-tag (of_tag {a = a} e) = name_at a (omega arith) (omega arith) (no_span (omega arith))

module _ {tokens : List Lexeme} {aliases : Aliases} {fits : ℕ → Bool} where
  cover-signature : {s : Signature} {a b : ℕ} → IsSignature tokens aliases fits s a b
      → Cover tokens a b (spans_in_parameters s.params ++ spans_in_attributes s.attrs)
  cover-signature (of_signature o f ps c xs) =
      cover-within (cover-then (cover-parameters ps) (omega arith) (cover-attributes xs)) (omega arith) (omega arith)

  pub cover-head : {h : Head} {a b : ℕ} → IsHead tokens aliases fits h a b → Cover tokens a b (spans_in_head h)
  cover-head (of_head w t c s) =
      cover-within (cover-then (cover-specifier t) (omega arith) (cover-declarator c (cover-signature s))) (ahead-storage w) (omega arith)

  cover-constant : {x : EnumConstant} {a b : ℕ} → IsConstant tokens aliases fits x a b → Cover tokens a b (x.name.span ∷ spans_in_optional x.value)
  cover-constant (of_name_alone {a = a} s) = name_at a (omega arith) (omega arith) (no_span (omega arith))
  cover-constant (of_name_and_value {a = a} s e x) =
      let r = cover-expression x in
      let le = cover-ends r in
      name_at a (omega arith) (omega arith) (cover-within r (omega arith) (omega arith))

  cover-constants : {xs : List EnumConstant} {a b : ℕ} → IsConstants tokens aliases fits xs a b → Cover tokens a b (spans_in_constants xs)
  cover-constants (of_last_constant x) = cover-last (cover-constant x)
  cover-constants (of_constant_and_comma x c) = cover-last (cover-within (cover-constant x) (omega arith) (omega arith))
  cover-constants (of_further_constant x c xs) = cover-then (cover-constant x) (omega arith) (cover-constants xs)

  pub cover-enum-body : {xs : List EnumConstant} {a b : ℕ} → IsEnumBody tokens aliases fits xs a b → Cover tokens a b (spans_in_constants xs)
  cover-enum-body (of_enum_body o f xs c) = cover-within (cover-constants xs) (omega arith) (omega arith)
