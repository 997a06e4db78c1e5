-- Constants and answers as they are written: what the terms of expressions are worth beside what the expressions are, and which answers
-- returns give.
use Rattle.std.specs.Prelude.{◌≡◌, ℕ, pos, negsuc, Bool, true, false, Option, Some, None}
use Rattle.tsa_tree.specs.declared.expr.BinaryOp.{BinaryOp}
use Rattle.tsa_tree.specs.declared.expr.BinaryOp.TheVariants as op
use Rattle.tsa_tree.specs.declared.expr.UnaryOp.TheVariants as prefix
use Rattle.tsa_tree.specs.declared.kind.Kind.{Kind}
use Rattle.tsa_tree.specs.declared.kind.Kind.TheVariants as type
use Rattle.tsa_tree.specs.declared.number.Number.{Number}
use Rattle.tsa_tree.specs.declared.number.Number.TheVariants as numeral
use Rattle.tsa_tree.specs.expressions.Syntax.{Expression, number, null, unary, binary, nowhere}
use Rattle.tsa_tree.specs.types.DeclaredTypes.{value_in}
use Rattle.tsa_tree.specs.types.Scopes.{Scope, context_of}
use Rattle.tsa_core.specs.Meanings.{as_kind, meaning, loaded}
use Rattle.tsa_rules.specs.Conditions.{answer_of, constant_in}

abbrev int : ℕ → Expression
int n = number n false nowhere

abbrev joins : BinaryOp → Expression → Expression → Expression
joins o left right = binary o left right nowhere

abbrev negated : Expression → Expression
negated e = unary prefix.Minus e nowhere

abbrev pub of_term : Scope → Expression → Option Number
of_term here e = constant_in (loaded (meaning here e))

abbrev pub of_text : Scope → Expression → Option Number
of_text here e = value_in (context_of here) e

pub record ConstantsAreAsWritten (here : Scope) : Type 0 where
  -- 3 - 2, -1, 1 || 1 / 0, 7 / 2u
  pub difference : of_term here (joins op.Minus (int 3) (int 2)) ≡ Some (numeral.Int (pos 1))
  pub less_than_zero : of_term here (negated (int 1)) ≡ Some (numeral.Int (negsuc 0))
  pub stops_early : of_term here (joins op.Or (int 1) (joins op.Divide (int 1) (int 0))) ≡ Some (numeral.Int (pos 1))
  pub beside_unsigned : of_term here (joins op.Divide (int 7) (number 2 true nowhere)) ≡ Some (numeral.Unsigned 3)
  -- a trap has no value, and a pointer is no number: NULL, !NULL, 0 == NULL
  pub trap : of_term here (joins op.Divide (int 1) (int 0)) ≡ None
  pub pointer : of_term here (null nowhere) ≡ None
  pub denied_pointer : of_term here (unary prefix.Not (null nowhere) nowhere) ≡ None
  pub zero_beside_null : of_term here (joins op.Equal (int 0) (null nowhere)) ≡ None
  -- an expression without a type has no value, but its term may be a constant: ~1
  pub untyped_term : of_term here (unary prefix.Flip (int 1) nowhere) ≡ Some (numeral.Unsigned 4294967294)
  pub untyped_text : of_text here (unary prefix.Flip (int 1) nowhere) ≡ None

-- the answer that a return gives with an expression, of a function whose result has a kind
abbrev pub given : Kind → Scope → Expression → Option Bool
given kind here e = answer_of (as_kind kind (meaning here e))

pub record AnswersAreAsWritten (here : Scope) : Type 0 where
  -- 1, 0, 2, -1, 3 - 2, !0 and 1 / 0
  pub one : given type.Int here (int 1) ≡ Some true
  pub nothing : given type.Int here (int 0) ≡ Some false
  pub two : given type.Int here (int 2) ≡ None
  pub less_than_zero : given type.Int here (negated (int 1)) ≡ None
  pub worked : given type.Int here (joins op.Minus (int 3) (int 2)) ≡ Some true
  pub denied : given type.Int here (unary prefix.Not (int 0) nowhere) ≡ Some true
  pub trap : given type.Int here (joins op.Divide (int 1) (int 0)) ≡ None
  -- a number is converted to the kind of the result: 1u, 4294967295u, and -1 as an `unsigned`
  pub of_unsigned : given type.Int here (number 1 true nowhere) ≡ Some true
  pub large : given type.Int here (number 4294967295 true nowhere) ≡ None
  pub to_unsigned : given type.Unsigned here (negated (int 1)) ≡ None
  -- a pointer is no answer: the number 0 is null there
  pub null_given : given (type.Pointer 0 false) here (null nowhere) ≡ None
  pub zero_given : given (type.Pointer 0 false) here (int 0) ≡ None
