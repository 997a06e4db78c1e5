-- What an expression is worth, by what it was found to be.
use Rattle.std.proofs.Common.{◌≡◌, ◌∙◌, Result, Ok, Err, refl, sym}
use Rattle.tsa_tree.specs.declared.expr.Expr.{Expr}
use Rattle.tsa_tree.specs.declared.kind.ExpressionType.{ExpressionType}
use Rattle.tsa_tree.specs.declared.premise.Failure.{Failure}
use Rattle.tsa_tree.specs.expressions.Shapes.{shape}
use Rattle.tsa_tree.specs.types.DeclaredTypes.{value_in}
use Rattle.tsa_tree.specs.types.Known.{Context}
use Rattle.tsa_types_expressions.specs.Found.{with_constant, constant_in, found_in, found_value}
use Rattle.tsa_types_expressions.specs.Verdicts.{verdict_of}
use Rattle.tsa_types_expressions.proofs.ConstantLaws.{constant_is}
use Rattle.tsa_types_expressions.proofs.LengthLaws.{value_typed, value_untyped}

module _ (c : Context) (e : Expr) where
  by_verdict : (v : Result ExpressionType Failure) → verdict_of c (shape e) ≡ v → found_value (with_constant (constant_in c (shape e)) v) ≡ value_in c (shape e)
  by_verdict (Ok t) h = sym (value_typed c (shape e) t h ∙ constant_is c (shape e))
  by_verdict (Err f) h = sym (value_untyped c (shape e) f h)

  -- what an expression was found to be tells what it is worth
  pub value_is : found_value (found_in c (shape e)) ≡ value_in c (shape e)
  unfolding found_in
  value_is = by_verdict (verdict_of c (shape e)) refl

pub ruleset values = (value_is)
