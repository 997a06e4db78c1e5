-- A premise that is asked behind those of an expression, of its type.
use Rattle.std.proofs.Common.{◌≡◌, ◌∙◌, Bool, [], ◌∷◌, ◌++◌, Option, Some, None, Result, Ok, Err, refl, ap, if◌then◌else◌}
use Rattle.tsa_base.specs.declared.token.Span.{Span}
use Rattle.tsa_tree.specs.declared.expr.Expr.{Expr}
use Rattle.tsa_tree.specs.points.Syntax.{expression_span}
use Rattle.tsa_tree.specs.expressions.Shapes.{shape}
use Rattle.tsa_tree.specs.declared.premise.TypeCode.{TypeCode}
use Rattle.tsa_tree.specs.types.Expressions.{type_of, premises_of, known_and}
use Rattle.tsa_tree.specs.types.Known.{Context}
use Rattle.tsa_tree.specs.types.Premises.{premise, or_else, first}
use Rattle.tsa_tree.specs.declared.premise.Failure.{Failure}
use Rattle.tsa_tree.specs.declared.kind.ExpressionType.{ExpressionType}
use Rattle.tsa_types_expressions.specs.Verdicts.{at, outcome, verdict_of}
use Rattle.tsa_types_expressions.proofs.LengthLaws.{shape_span}
use Rattle.tsa_types_expressions.proofs.Steps.{Alike, alike, first_append}
use Rattle.tsa_types_expressions.proofs.Walk.{or_nothing}

abbrev pub asked : TypeCode → (ExpressionType → Bool) → Span → Result ExpressionType Failure → Option Failure
asked code test span (Err f) = Some f
asked code test span (Ok t) = if test t then Some (at code span) else None

last_first : (code : TypeCode) (b : Bool) (span : Span) → first (premise code span b ∷ []) ≡ or_else (if b then Some (at code span) else None) None
unfolding first
last_first code b span = refl

module _ (code : TypeCode) (test : ExpressionType → Bool) where
  behind : (x : Option Failure) (t : Option ExpressionType) (span : Span) → Alike x t
      → or_else x (or_else (if known_and test t then Some (at code span) else None) None) ≡ asked code test span (outcome x t)
  behind (Some x) t span h = refl
  behind None None span h = cc
  behind None (Some t) span h = or_nothing (if test t then Some (at code span) else None)

  pub asked_first : (c : Context) (e : Expr)
      → first (premises_of c (shape e) ++ premise code (expression_span (shape e)) (known_and test (type_of c (shape e))) ∷ [])
      ≡ asked code test e.span (verdict_of c (shape e))
  unfolding verdict_of
  asked_first c e =
      let it = known_and test (type_of c (shape e)) in
      first_append (premises_of c (shape e)) (premise code (expression_span (shape e)) it ∷ [])
      ∙ ap (or_else (first (premises_of c (shape e)))) (last_first code it (expression_span (shape e)))
      ∙ behind (first (premises_of c (shape e))) (type_of c (shape e)) (expression_span (shape e)) (alike c (shape e))
      ∙ ap (λ s. asked code test s (outcome (first (premises_of c (shape e))) (type_of c (shape e)))) (shape_span e)
