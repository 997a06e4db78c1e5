-- What is wrong with a length: the first premise that fails in it, or that it is none.
use Rattle.std.proofs.Common.{◌≡◌, ◌∙◌, Bool, true, false, not, [], ◌∷◌, Option, Some, None, Result, Ok, Err, ℕ, refl, sym, ap, is_some}
use Rattle.std.proofs.Common.{if◌then◌else◌}
use Rattle.tsa_base.specs.declared.token.Span.{Span}
use Rattle.tsa_tree.specs.declared.expr.Expr.{Expr}
use Rattle.tsa_tree.specs.declared.expr.ExprKind.{ExprKind, Number, Null, Named, Call', Unary', Binary', Field', Index'}
use Rattle.tsa_tree.specs.expressions.Syntax.{Expression}
use Rattle.tsa_tree.specs.points.Syntax.{expression_span}
use Rattle.tsa_tree.specs.expressions.Shapes.{kind_shape, shape}
use Rattle.tsa_tree.specs.declared.premise.TypeCode.TheVariants.{TY9}
use Rattle.tsa_tree.specs.declared.number.Number.{Number as a_number}
use Rattle.tsa_tree.specs.types.Constants.{constant_of}
use Rattle.tsa_tree.specs.types.Expressions.{type_of, premises_of, known_and}
use Rattle.tsa_tree.specs.types.Known.{Context}
use Rattle.tsa_tree.specs.declared.premise.Failure.{Failure}
use Rattle.tsa_tree.specs.types.Premises.{premise, or_else, first}
use Rattle.tsa_tree.specs.types.DeclaredTypes.{typed_value, value_in, length_in, length_of, constant_premises, length_premises}
use Rattle.tsa_tree.specs.declared.kind.ExpressionType.{ExpressionType}
use Rattle.tsa_types_expressions.specs.Lengths.{by_elements, told_of}
use Rattle.tsa_types_expressions.specs.Found.{number_in, with_constant, constant_in, found_in}
use Rattle.tsa_types_expressions.specs.Verdicts.{at, outcome, found_type, verdict_of}
use Rattle.tsa_types_expressions.proofs.ConstantLaws.{constant_is}
use Rattle.tsa_types_expressions.proofs.Steps.{Alike, alike, found_is, first_append}

span_kind : (k : ExprKind) (span : Span) → expression_span (kind_shape k span) ≡ span
span_kind (Number n u) span = refl
span_kind Null span = refl
span_kind (Named name) span = refl
span_kind (Call' n p m row) span = refl
span_kind (Unary' op p e es) span = refl
span_kind (Binary' op p l ls q r rs) span = refl
span_kind (Field' p b bs n a) span = refl
span_kind (Index' p b bs q i is) span = refl

pub shape_span : (e : Expr) → expression_span (shape e) ≡ e.span
shape_span e = span_kind e.kind e.span

-- a premise that is asked behind others, of what has a type
behind : (x : Option Failure) (t : Option ExpressionType) (b : Bool) (span : Span) → Alike x t
    → or_else x (or_else (if known_and (λ u. not b) t then Some (at TY9 span) else None) None)
    ≡ (if is_some x then x else (if b then None else Some (at TY9 span)))
behind (Some x) t b span h = refl
behind None None b span h = cc
behind None (Some t) true span h = refl
behind None (Some t) false span h = refl

last_first : (b : Bool) (span : Span) → first (premise TY9 span b ∷ []) ≡ or_else (if b then Some (at TY9 span) else None) None
unfolding first
last_first b span = refl

module _ (c : Context) (passes : Option a_number → Bool) where
  constant_first : (e : Expression) → first (constant_premises c passes e)
      ≡ (if is_some (first (premises_of c e)) then first (premises_of c e) else (if passes (constant_of c e) then None else Some (at TY9 (expression_span e))))
  constant_first e =
      first_append (premises_of c e) (premise TY9 (expression_span e) (known_and (λ t. not (passes (constant_of c e))) (type_of c e)) ∷ [])
      ∙ ap (or_else (first (premises_of c e))) (last_first (known_and (λ t. not (passes (constant_of c e))) (type_of c e)) (expression_span e))
      ∙ behind (first (premises_of c e)) (type_of c e) (passes (constant_of c e)) (expression_span e) (alike c e)

  by_failure : (x : Option Failure) (t : Option ExpressionType) (f : Failure) (o : Option Failure) → Alike x t → outcome x t ≡ Err f
      → (if is_some x then x else o) ≡ Some f
  by_failure (Some x) t f o h e = cc
  by_failure None (Some t) f o h e = cc
  by_failure None None f o h e = cc

  by_type : (x : Option Failure) (t : Option ExpressionType) (u : ExpressionType) (o : Option Failure) → outcome x t ≡ Ok u → (if is_some x then x else o) ≡ o
  by_type (Some x) t u o e = cc
  by_type None t u o e = refl

  pub constant_fails : (e : Expression) (f : Failure) → verdict_of c e ≡ Err f → first (constant_premises c passes e) ≡ Some f
  unfolding verdict_of
  constant_fails e f h = constant_first e ∙ by_failure (first (premises_of c e)) (type_of c e) f _ (alike c e) h

  pub constant_passes : (e : Expression) (t : ExpressionType) → verdict_of c e ≡ Ok t → passes (constant_of c e) ≡ true → first (constant_premises c passes e) ≡ None
  unfolding verdict_of
  constant_passes e t h p =
      constant_first e ∙ by_type (first (premises_of c e)) (type_of c e) t _ h ∙ ap (λ b. if b then None else Some (at TY9 (expression_span e))) p

  pub constant_misses : (e : Expression) (t : ExpressionType) → verdict_of c e ≡ Ok t → passes (constant_of c e) ≡ false
      → first (constant_premises c passes e) ≡ Some (at TY9 (expression_span e))
  unfolding verdict_of
  constant_misses e t h p =
      constant_first e ∙ by_type (first (premises_of c e)) (type_of c e) t _ h ∙ ap (λ b. if b then None else Some (at TY9 (expression_span e))) p

-- a constant that has to be one, whatever its value
module _ (c : Context) where
  pub fixed_fails : (e : Expression) (f : Failure) → verdict_of c e ≡ Err f → first (constant_premises c is_some e) ≡ Some f
  fixed_fails e f h = constant_fails c is_some e f h

  pub fixed_passes : (e : Expression) (t : ExpressionType) → verdict_of c e ≡ Ok t → is_some (constant_of c e) ≡ true → first (constant_premises c is_some e) ≡ None
  fixed_passes e t h p = constant_passes c is_some e t h p

  pub fixed_misses : (e : Expr) (t : ExpressionType) → verdict_of c (shape e) ≡ Ok t → is_some (constant_of c (shape e)) ≡ false
      → first (constant_premises c is_some (shape e)) ≡ Some (at TY9 e.span)
  fixed_misses e t h p = constant_misses c is_some (shape e) t h p ∙ ap (λ s. Some (at TY9 s)) (shape_span e)

pub no_length : (c : Context) → first (length_premises c None) ≡ None
unfolding first
no_length c = refl

module _ (c : Context) where
  pub length_fails : (e : Expression) (f : Failure) → verdict_of c e ≡ Err f → first (length_premises c (Some e)) ≡ Some f
  length_fails e f h = constant_fails c (λ n. is_some (length_in n)) e f h

  pub length_passes : (e : Expression) (t : ExpressionType) → verdict_of c e ≡ Ok t → is_some (length_in (constant_of c e)) ≡ true
      → first (length_premises c (Some e)) ≡ None
  length_passes e t h p = constant_passes c (λ n. is_some (length_in n)) e t h p

  pub length_misses : (e : Expr) (t : ExpressionType) → verdict_of c (shape e) ≡ Ok t → is_some (length_in (constant_of c (shape e))) ≡ false
      → first (length_premises c (Some (shape e))) ≡ Some (at TY9 e.span)
  length_misses e t h p = constant_misses c (λ n. is_some (length_in n)) (shape e) t h p ∙ ap (λ s. Some (at TY9 s)) (shape_span e)

pub ruleset constants = (fixed_fails, fixed_passes, fixed_misses)

-- what has a type is worth its constant
pub value_typed : (c : Context) (e : Expression) (t : ExpressionType) → verdict_of c e ≡ Ok t → value_in c e ≡ constant_of c e
value_typed c e t h = ap (λ u. typed_value u (constant_of c e)) (found_is c e ∙ ap found_type h)

pub value_untyped : (c : Context) (e : Expression) (f : Failure) → verdict_of c e ≡ Err f → value_in c e ≡ None
value_untyped c e f h = ap (λ u. typed_value u (constant_of c e)) (found_is c e ∙ ap found_type h)

pub ruleset values = (value_typed, value_untyped)

-- what a length comes to by what was found
module _ (c : Context) (e : Expr) where
  elements_by : (v : Result ExpressionType Failure) → verdict_of c (shape e) ≡ v
      → (told_of e.span (with_constant (constant_in c (shape e)) v)).elements ≡ length_of c (Some (shape e))
  elements_by (Err failure) h = rw (value_untyped c (shape e) failure h) refl
  elements_by (Ok t) h = by_value (length_in (number_in (constant_in c (shape e)))) refl
    where
      same : length_in (value_in c (shape e)) ≡ length_in (number_in (constant_in c (shape e)))
      same = ap length_in (value_typed c (shape e) t h ∙ constant_is c (shape e))

      by_value : (n : Option ℕ) → length_in (number_in (constant_in c (shape e))) ≡ n → (by_elements e.span n).elements ≡ length_of c (Some (shape e))
      by_value None k = rw (same ∙ k) refl
      by_value (Some m) k = rw (same ∙ k) refl

  pub told_elements : (told_of e.span (found_in c (shape e))).elements ≡ length_of c (Some (shape e))
  unfolding found_in
  told_elements = elements_by (verdict_of c (shape e)) refl

  failure_by : (v : Result ExpressionType Failure) → verdict_of c (shape e) ≡ v
      → (told_of e.span (with_constant (constant_in c (shape e)) v)).failure ≡ first (length_premises c (Some (shape e)))
  failure_by (Err failure) h = sym (length_fails c (shape e) failure h)
  failure_by (Ok t) h = by_value (length_in (number_in (constant_in c (shape e)))) refl
    where
      same : length_in (constant_of c (shape e)) ≡ length_in (number_in (constant_in c (shape e)))
      same = ap length_in (constant_is c (shape e))

      by_value : (n : Option ℕ) → length_in (number_in (constant_in c (shape e))) ≡ n
          → (by_elements e.span n).failure ≡ first (length_premises c (Some (shape e)))
      by_value None k = sym (length_misses c e t h (ap is_some (same ∙ k)))
      by_value (Some n) k = sym (length_passes c (shape e) t h (ap is_some (same ∙ k)))

  pub told_failure : (told_of e.span (found_in c (shape e))).failure ≡ first (length_premises c (Some (shape e)))
  unfolding found_in
  told_failure = failure_by (verdict_of c (shape e)) refl

pub ruleset lengths = (no_length, told_elements, told_failure)
