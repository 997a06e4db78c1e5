-- The constant that the term of an expression is, is that of the expression.
use Rattle.std.specs.Prelude.{◌≡◌, Some}
use Rattle.tsa_tree.specs.declared.kind.ExpressionType.{ExpressionType}
use Rattle.tsa_tree.specs.expressions.Syntax.{Expression}
use Rattle.tsa_tree.specs.types.Constants.{constant_of}
use Rattle.tsa_tree.specs.types.DeclaredTypes.{value_in}
use Rattle.tsa_tree.specs.types.Expressions.{type_of}
use Rattle.tsa_tree.specs.types.Scopes.{Scope, context_of}
use Rattle.tsa_core.specs.Meanings.{meaning, loaded}
use Rattle.tsa_rules.specs.Conditions.{constant_in}

-- of every expression, whatever is known
abbrev pub TermsHaveTheConstants : Type 0
TermsHaveTheConstants = (here : Scope) (e : Expression) → constant_in (loaded (meaning here e)) ≡ constant_of (context_of here) e

-- so the value of an expression that has a type is that of its term
abbrev pub TermsHaveTheValues : Type 0
TermsHaveTheValues = (here : Scope) (e : Expression) (t : ExpressionType) → type_of (context_of here) e ≡ Some t
    → constant_in (loaded (meaning here e)) ≡ value_in (context_of here) e
