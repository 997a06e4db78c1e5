-- What the walk over an expression comes to at each node.
use Rattle.std.proofs.Common.{◌≡◌, ◌∙◌, ℕ, ◌+◌, zero, suc, drop, Bool, true, false, not, ◌||◌, nat_eq, List, [], ◌∷◌, Option, Some, None}
use Rattle.std.proofs.Common.{Result, Ok, Err, refl, sym, ap, length, if◌then◌else◌}
use Rattle.tsa_base.specs.declared.token.Span.{Span}
use Rattle.tsa_base.proofs.Numbers.{plus_one}
use Rattle.tsa_tree.specs.declared.expr.Expr.{Expr}
use Rattle.tsa_tree.specs.expressions.Syntax.{Identifier, Expression, Arguments, number, null, call, more}
use Rattle.tsa_tree.specs.expressions.Shapes.{shape, shapes}
use Rattle.tsa_tree.specs.declared.premise.TypeCode.TheVariants.{TY4}
use Rattle.tsa_tree.specs.types.Expressions.{type_of, types_of, premises_of, premises_of_all, number_type, function_of, params_of}
use Rattle.tsa_tree.specs.types.Expressions.{arguments_break, result_type}
use Rattle.tsa_tree.specs.types.Known.{Context}
use Rattle.tsa_tree.specs.declared.meaning.Entry.{Entry}
use Rattle.tsa_types_expressions.specs.Judging.{cannot_go, failed}
use Rattle.tsa_tree.specs.types.Operands.{lacks, goes_to}
use Rattle.tsa_tree.specs.types.Premises.{first, or_else}
use Rattle.tsa_tree.specs.declared.premise.Failure.{Failure}
use Rattle.tsa_tree.specs.declared.kind.Kind.TheVariants as type
use Rattle.tsa_tree.specs.types.Types.{value}
use Rattle.tsa_tree.specs.declared.kind.ThingType.{ThingType}
use Rattle.tsa_tree.specs.declared.kind.ExpressionType.{ExpressionType}
use Rattle.tsa_types_expressions.specs.Verdicts.{at, outcome, found_type, verdict_of, failure_of_all, or_failed}
use Rattle.std.specs.Prelude.{slice_get}
use Rattle.std.proofs.lemmas.Bool.{eqb-true, eqb-false}
use Rattle.tsa_types_expressions.proofs.Steps.{Alike, alike, found_is, first_append, named_step, unary_step, binary_step, index_step}
use Rattle.tsa_types_expressions.proofs.Steps.{field_step, call_step, or_else_same}

pub number_step : (c : Context) (n : ℕ) (u : Bool) (span : Span) → verdict_of c (number n u span) ≡ Ok (number_type n u)
unfolding verdict_of type_of premises_of first
number_step c n u span = refl

pub null_step : (c : Context) (span : Span) → verdict_of c (null span) ≡ Ok (value type.Null)
unfolding verdict_of type_of premises_of first
null_step c span = refl

-- an argument beside its parameter
beside : (v : Result ExpressionType Failure) (p : ThingType) → lacks (λ t. goes_to t p) (found_type v) ≡ cannot_go v (Some p)
beside (Ok t) p = refl
beside (Err failure) p = refl

nothing : (v : Result ExpressionType Failure) → cannot_go v None ≡ false
nothing (Ok t) = refl
nothing (Err failure) = refl

break_step : (params : List ThingType) (n : ℕ) (v : Result ExpressionType Failure) (ts : List (Option ExpressionType))
    → arguments_break (drop n params) (found_type v ∷ ts) ≡ (cannot_go v (slice_get params n) || arguments_break (drop (suc n) params) ts)
break_step [] zero v ts = ap (λ b. b || false) (sym (nothing v))
break_step [] (suc n) v ts = ap (λ b. b || false) (sym (nothing v))
break_step (p ∷ params) zero v ts = ap (λ b. b || arguments_break params ts) (beside v p)
break_step (p ∷ params) (suc n) v ts = break_step params n v ts

or_same : (a b d : Bool) → (a || (b || d)) ≡ ((a || b) || d)
or_same true b d = refl
or_same false b d = refl

pub failed_is : (x : Option Failure) (t : Option ExpressionType) → Alike x t → failed (outcome x t) ≡ x
failed_is (Some x) t h = refl
failed_is None (Some t) h = refl
failed_is None None h = cc

pub or_nothing : (o : Option Failure) → or_else o None ≡ o
or_nothing (Some x) = refl
or_nothing None = refl

or_false : (b : Bool) → (b || false) ≡ b
or_false true = refl
or_false false = refl

differ_by : (m n : ℕ) (b : Bool) → nat_eq m n ≡ b → (m ≡ n → ⊥) → nat_eq m n ≡ false
differ_by m n true e h = absurd (h (eqb-true m n e))
differ_by m n false e h = e

pub counts_differ : (m n : ℕ) → (m ≡ n → ⊥) → nat_eq m n ≡ false
counts_differ m n h = differ_by m n (nat_eq m n) refl h

agree_by : (m n : ℕ) (b : Bool) → nat_eq m n ≡ b → m ≡ n → nat_eq m n ≡ true
agree_by m n true e h = e
agree_by m n false e h = absurd (eqb-false m n e h)

pub counts_agree : (m n : ℕ) → m ≡ n → nat_eq m n ≡ true
counts_agree m n h = agree_by m n (nat_eq m n) refl h

module _ (c : Context) where
  types_more : (e : Expression) (rest : Arguments) → types_of c (more e rest) ≡ found_type (verdict_of c e) ∷ types_of c rest
  unfolding types_of
  types_more e rest = ap (λ t. t ∷ types_of c rest) (found_is c e)

  failure_more : (e : Expression) (rest : Arguments) → failure_of_all c (more e rest) ≡ or_else (failed (verdict_of c e)) (failure_of_all c rest)
  unfolding failure_of_all premises_of_all verdict_of
  failure_more e rest =
      first_append (premises_of c e) (premises_of_all c rest)
      ∙ ap (λ x. or_else x (first (premises_of_all c rest))) (sym (failed_is (first (premises_of c e)) (type_of c e) (alike c e)))

  -- one argument more is judged
  breaks_more : (params : List ThingType) (args : List Expr) (n i : ℕ) (arg : Expr) (b : Bool) (v : Result ExpressionType Failure)
      → drop i args ≡ arg ∷ drop (suc i) args → v ≡ verdict_of c (shape arg)
      → (b || arguments_break (drop n params) (types_of c (shapes (drop i args))))
      ≡ ((b || cannot_go v (slice_get params n)) || arguments_break (drop (suc n) params) (types_of c (shapes (drop (suc i) args))))
  breaks_more params args n i arg b v at is =
      let rest = shapes (drop (suc i) args) in
      ap (λ x. b || arguments_break (drop n params) (types_of c (shapes x))) at
      ∙ ap (λ x. b || arguments_break (drop n params) x) (types_more (shape arg) rest ∙ ap (λ w. found_type w ∷ types_of c rest) (sym is))
      ∙ ap (λ x. b || x) (break_step params n v (types_of c rest))
      ∙ or_same b (cannot_go v (slice_get params n)) (arguments_break (drop (suc n) params) (types_of c rest))

  failure_more_next : (args : List Expr) (i : ℕ) (arg : Expr) (f : Option Failure) (v : Result ExpressionType Failure)
      → drop i args ≡ arg ∷ drop (suc i) args → v ≡ verdict_of c (shape arg)
      → or_else f (failure_of_all c (shapes (drop i args))) ≡ or_else (or_else f (failed v)) (failure_of_all c (shapes (drop (suc i) args)))
  failure_more_next args i arg f v at is =
      let rest = shapes (drop (suc i) args) in
      ap (λ x. or_else f (failure_of_all c (shapes x))) at
      ∙ ap (or_else f) (failure_more (shape arg) rest ∙ ap (λ w. or_else (failed w) (failure_of_all c rest)) (sym is))
      ∙ or_else_same f (failed v) (failure_of_all c rest)

  pub breaks_next : (params : List ThingType) (args : List Expr) (n i : ℕ) (arg : Expr) (b : Bool) (v : Result ExpressionType Failure)
      → drop i args ≡ arg ∷ drop (suc i) args → v ≡ verdict_of c (shape arg)
      → (b || arguments_break (drop n params) (types_of c (shapes (drop i args))))
      ≡ ((b || cannot_go v (slice_get params n)) || arguments_break (drop (n + 1) params) (types_of c (shapes (drop (i + 1) args))))
  breaks_next params args n i arg b v at is =
      let now = b || cannot_go v (slice_get params n) in
      breaks_more params args n i arg b v at is
      ∙ ap (λ m. now || arguments_break (drop m params) (types_of c (shapes (drop (suc i) args)))) (plus_one n)
      ∙ ap (λ j. now || arguments_break (drop (n + 1) params) (types_of c (shapes (drop j args)))) (plus_one i)

  pub failure_next : (args : List Expr) (i : ℕ) (arg : Expr) (f : Option Failure) (v : Result ExpressionType Failure)
      → drop i args ≡ arg ∷ drop (suc i) args → v ≡ verdict_of c (shape arg)
      → or_else f (failure_of_all c (shapes (drop i args))) ≡ or_else (or_else f (failed v)) (failure_of_all c (shapes (drop (i + 1) args)))
  failure_next args i arg f v at is =
      failure_more_next args i arg f v at is ∙ ap (λ j. or_else (or_else f (failed v)) (failure_of_all c (shapes (drop j args)))) (plus_one i)

  -- behind the last argument
  pub breaks_end : (params : List ThingType) (args : List Expr) (n i : ℕ) (b : Bool) → drop i args ≡ []
      → (b || arguments_break (drop n params) (types_of c (shapes (drop i args)))) ≡ b
  unfolding types_of
  breaks_end params args n i b empty =
      ap (λ x. b || arguments_break (drop n params) (types_of c (shapes x))) empty ∙ ap (λ x. b || x) (of_none (drop n params)) ∙ or_false b
    where
      of_none : (ps : List ThingType) → arguments_break ps [] ≡ false
      of_none [] = refl
      of_none (p ∷ ps) = refl

  pub failure_end : (args : List Expr) (i : ℕ) (f : Option Failure) → drop i args ≡ [] → or_else f (failure_of_all c (shapes (drop i args))) ≡ f
  unfolding failure_of_all premises_of_all first
  failure_end args i f empty = ap (λ x. or_else f (failure_of_all c (shapes x))) empty ∙ or_nothing f

  pub counts : (args : List Expr) → length (types_of c (shapes args)) ≡ length args
  unfolding types_of
  counts [] = refl
  counts (e ∷ args) = ap suc (counts args)

-- a call of a known function, whose arguments can go to their parameters
module _ (c : Context) (callee : Identifier) (args : Arguments) (span : Span) (e : Entry) (n : ℕ) (ps : List ThingType)
    (known : c.known callee.text ≡ Some e) (function : function_of e.meaning ≡ Some n) (params : ps ≡ c.params n)
  where
    params_are : params_of c e ≡ ps
    params_are = rw function (sym params)

    of_count : arguments_break ps (types_of c args) ≡ false
        → verdict_of c (call callee args span)
        ≡ (if not (nat_eq (length ps) (length (types_of c args))) then Err (at TY4 span) else or_failed (failure_of_all c args) (result_type e))
    of_count fits =
        call_step c callee args span ∙ rw (known, params_are, function, fits) refl

module _ (c : Context) (callee : Identifier) (args : List Expr) (span : Span) (e : Entry) (n : ℕ) (ps : List ThingType)
    (known : c.known callee.text ≡ Some e) (function : function_of e.meaning ≡ Some n) (params : ps ≡ c.params n)
    (fits : arguments_break ps (types_of c (shapes args)) ≡ false)
  where
    pub call_miscounts : nat_eq (length ps) (length args) ≡ false → verdict_of c (call callee (shapes args) span) ≡ Err (at TY4 span)
    call_miscounts h = of_count c callee (shapes args) span e n ps known function params fits ∙ rw (counts c args, h) refl

    pub call_fails : nat_eq (length ps) (length args) ≡ true → (f : Failure) → failure_of_all c (shapes args) ≡ Some f
        → verdict_of c (call callee (shapes args) span) ≡ Err f
    call_fails h f x = of_count c callee (shapes args) span e n ps known function params fits ∙ rw (counts c args, h, x) refl

    pub call_gives : nat_eq (length ps) (length args) ≡ true → failure_of_all c (shapes args) ≡ None
        → verdict_of c (call callee (shapes args) span) ≡ Ok (result_type e)
    call_gives h x = of_count c callee (shapes args) span e n ps known function params fits ∙ rw (counts c args, h, x) refl

pub ruleset steps = (number_step, null_step, named_step, unary_step, binary_step, index_step, field_step)

pub ruleset calls = (call_step)

pub ruleset lists = (failure_end)
