-- What is wrong with a case, by what its value was found to be.
use Rattle.std.proofs.Common.{◌≡◌, ◌∙◌, Bool, true, false, not, ◌&&◌, Option, Some, None, Result, Ok, Err, is_some, refl, sym, ap}
use Rattle.std.proofs.Common.{if◌then◌else◌}
use Rattle.tsa_base.specs.declared.token.Span.{Span}
use Rattle.tsa_tree.specs.declared.expr.Expr.{Expr}
use Rattle.tsa_tree.specs.declared.kind.ExpressionType.{ExpressionType}
use Rattle.tsa_tree.specs.declared.number.Number.{Number}
use Rattle.tsa_tree.specs.declared.premise.Failure.{Failure}
use Rattle.tsa_tree.specs.declared.premise.TypeCode.TheVariants.{TY2, TY7}
use Rattle.tsa_tree.specs.expressions.Shapes.{shape}
use Rattle.tsa_tree.specs.types.DeclaredTypes.{value_in, constant_premises}
use Rattle.tsa_tree.specs.types.Known.{Context}
use Rattle.tsa_tree.specs.types.Premises.{or_else, first}
use Rattle.tsa_tree.specs.types.Statements.{Around, is_case_again, case_premises}
use Rattle.tsa_types_expressions.specs.Found.{number_in, constant_in, found_in, found_value, with_constant}
use Rattle.tsa_types_expressions.specs.Verdicts.{at, verdict_of}
use Rattle.tsa_types_expressions.proofs.ConstantLaws.{constant_is}
use Rattle.tsa_types_expressions.proofs.LengthLaws.{fixed_fails, fixed_passes, fixed_misses}
use Rattle.tsa_types_expressions.proofs.ValueLaws.{value_is}
use Rattle.tsa_types_simple.specs.Cases.{or_no_constant, constant_by, case_by}
use Rattle.tsa_types_simple.specs.declared.context.Key.{Key}

module _ (c : Context) (e : Expr) where
  constant_of_case : (v : Result ExpressionType Failure) → verdict_of c (shape e) ≡ v
      → constant_by e.span (with_constant (constant_in c (shape e)) v) ≡ first (constant_premises c is_some (shape e))
  constant_of_case (Err failure) h = sym (fixed_fails c (shape e) failure h)
  constant_of_case (Ok t) h = by_number (number_in (constant_in c (shape e))) refl
    where
      by_number : (n : Option Number) → number_in (constant_in c (shape e)) ≡ n → or_no_constant e.span n ≡ first (constant_premises c is_some (shape e))
      by_number None k = sym (fixed_misses c e t h (ap is_some (constant_is c (shape e) ∙ k)))
      by_number (Some n) k = sym (fixed_passes c (shape e) t h (ap is_some (constant_is c (shape e) ∙ k)))

  constant_is_one : constant_by e.span (found_in c (shape e)) ≡ first (constant_premises c is_some (shape e))
  unfolding found_in
  constant_is_one = constant_of_case (verdict_of c (shape e)) refl

  by_tests : (b d : Bool) (span : Span) (x : Option Failure)
      → (if b then Some (at TY2 span) else (if d then Some (at TY7 span) else x))
      ≡ or_else (if b then Some (at TY2 span) else None) (or_else (if d then Some (at TY7 span) else None) x)
  by_tests true d span x = refl
  by_tests false true span x = refl
  by_tests false false span x = refl

  pub case_is : (a : Around) (span : Span) (key : Key) → key.span ≡ e.span → key.found ≡ found_in c (shape e)
      → case_by a span key ≡ first (case_premises a c (shape e) span)
  unfolding case_premises first
  case_is a span key place is =
      ap (λ r. if a.in_switch && is_case_again a.cases span.from (found_value r) then Some (at TY2 span) else (if not a.in_switch then Some (at TY7 span) else constant_by key.span r)) is
      ∙ ap (λ s. if a.in_switch && is_case_again a.cases span.from (found_value (found_in c (shape e))) then Some (at TY2 span)
      else (if not a.in_switch then Some (at TY7 span) else constant_by s (found_in c (shape e)))) place
      ∙ ap (λ n. if a.in_switch && is_case_again a.cases span.from n then Some (at TY2 span)
      else (if not a.in_switch then Some (at TY7 span) else constant_by e.span (found_in c (shape e)))) (value_is c e)
      ∙ ap (λ x. if a.in_switch && is_case_again a.cases span.from (value_in c (shape e)) then Some (at TY2 span) else (if not a.in_switch then Some (at TY7 span) else x)) constant_is_one
      ∙ by_tests (a.in_switch && is_case_again a.cases span.from (value_in c (shape e))) (not a.in_switch) span (first (constant_premises c is_some (shape e)))

pub ruleset cases = (case_is)
