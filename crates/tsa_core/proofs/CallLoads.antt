-- Where a call stands in an expression, its answer stands for what its arguments load.
use Rattle.std.proofs.Common.{◌≡◌, ◌∙◌, nat_eq, true, false, not, ◌&&◌, ◌||◌, List, [], ◌∷◌, ◌++◌, length, Option, Some, None, is_some}
use Rattle.std.proofs.Common.{refl, sym, ap, subst}
use Rattle.std.specs.List.{flat_map}
use Rattle.tsa_base.specs.declared.token.Span.{Span}
use Rattle.tsa_base.proofs.Truths.{never}
use Rattle.tsa_tree.specs.declared.expr.BinaryOp.{BinaryOp}
use Rattle.tsa_tree.specs.declared.expr.BinaryOp.TheVariants as op
use Rattle.tsa_tree.specs.declared.expr.UnaryOp.TheVariants as prefix
use Rattle.tsa_tree.specs.declared.kind.ExpressionType.{ExpressionType}
use Rattle.tsa_tree.specs.declared.kind.ThingType.{ThingType}
use Rattle.tsa_tree.specs.expressions.Syntax.{Identifier, Expression, Arguments, number, null, named, call, unary, binary, field, index}
use Rattle.tsa_tree.specs.expressions.Syntax.{none, more}
use Rattle.tsa_tree.specs.types.Constants.{constant_of}
use Rattle.tsa_tree.specs.types.Expressions.{type_of, types_of, unless, both, arguments_break, all_typed}
use Rattle.tsa_tree.specs.types.Operands.{goes_to, lacks, breaks_prefix, breaks_binary, prefix_type, binary_type}
use Rattle.tsa_tree.specs.types.Runnable.{has_call, have_call, is_free, is_whole, is_call, is_compared, is_comparison, is_condition}
use Rattle.tsa_tree.specs.types.Scopes.{Scope, context_of}
use Rattle.tsa_tree.specs.types.Lookups.{params_in}
use Rattle.tsa_core.proofs.CallsHold.{none_is_more, more_is_none, one_less, call_called, call_whole}
use Rattle.tsa_core.proofs.KindTests.{both_true, neither, not_false, not_true, one_of}
use Rattle.tsa_core.proofs.KindsOfTerms.{of_one, of_two}
use Rattle.tsa_core.proofs.LoadsOfTerms.{AnswersLoad, free_loads, value_in, goes_in, both_in}
use Rattle.tsa_core.proofs.ValuesServe.{no_call, constant_free}
use Rattle.tsa_core.specs.Cells.{argument_cells, cells_read}
use Rattle.tsa_core.specs.Loads.{loads, places}
use Rattle.tsa_core.specs.Meanings.{Call, meaning, as_kind, arguments, call_of, or_call, call_in}
use Rattle.tsa_core.specs.PointLoads.{call_loads}

module _ (here : Scope) where
  -- what the arguments of a call load
  argument_in : (p : ThingType) (e : Expression) (t : ExpressionType) → has_call e ≡ false → type_of (context_of here) e ≡ Some t → goes_to t p ≡ true
      → loads (as_kind p.kind (meaning here e)) ≡ places here (cells_read here e)
  argument_in p e t free is goes = goes_in here [] e (value_in here [] e (free_loads here [] e free) t is) t p is goes

  args_load : (params : List ThingType) (args : Arguments) → have_call args ≡ false → arguments_break params (types_of (context_of here) args) ≡ false
      → nat_eq (length params) (length (types_of (context_of here) args)) ≡ true → all_typed (types_of (context_of here) args) ≡ true
      → flat_map loads (arguments here params args) ≡ places here (argument_cells here args)
  unfolding types_of arguments argument_cells
  args_load [] none free goes count all = refl
  args_load (p ∷ params) none free goes count all = more_is_none (length params) count
  args_load [] (more e rest) free goes count all = none_is_more (length (types_of (context_of here) rest)) count
  args_load (p ∷ params) (more e rest) free goes count all =
      by (type_of (context_of here) e) refl goes all
      (λ g a. args_load params rest (neither (has_call e) (have_call rest) free).1 g (one_less (length params) (length (types_of (context_of here) rest)) count) a)
    where
      by : (o : Option ExpressionType) → type_of (context_of here) e ≡ o
          → (lacks (λ t. goes_to t p) o || arguments_break params (types_of (context_of here) rest)) ≡ false
          → all_typed (o ∷ types_of (context_of here) rest) ≡ true
          → (arguments_break params (types_of (context_of here) rest) ≡ false → all_typed (types_of (context_of here) rest) ≡ true
          → flat_map loads (arguments here params rest) ≡ places here (argument_cells here rest))
          → loads (as_kind p.kind (meaning here e)) ++ flat_map loads (arguments here params rest) ≡ places here (cells_read here e ++ argument_cells here rest)
      by None is g a later = never (sym a)
      by (Some t) is g a later =
          let parts = neither (not (goes_to t p)) (arguments_break params (types_of (context_of here) rest)) g in
          both_in here [] (cells_read here e) (argument_cells here rest) _ _
          (argument_in p e t (neither (has_call e) (have_call rest) free).0 is (not_false (goes_to t p) parts.0)) (later parts.1 a)

  -- the answer of an expression's own call
  abbrev pub Answers : Expression → Type 0
  Answers e = AnswersLoad here (call_loads (call_in here e)) e

  call_answers : (callee : Identifier) (args : Arguments) (span : Span) (t : ExpressionType) → have_call args ≡ false → type_of (context_of here) (call callee args span) ≡ Some t
      → Answers (call callee args span)
  unfolding call_in
  call_answers callee args span t free is =
      let k = call_called here callee args span t is in
      ap call_loads (ap (call_of here args) k.known) ∙ args_load (params_in here k.n) args free k.goes k.count k.all

  pub whole_answers : (e : Expression) (t : ExpressionType) → is_whole e ≡ true → type_of (context_of here) e ≡ Some t → Answers e
  whole_answers (call callee args span) t whole is = call_answers callee args span t (not_true (have_call args) whole) is
  whole_answers (number n u span) t whole is = tt
  whole_answers (null span) t whole is = tt
  whole_answers (named name span) t whole is = tt
  whole_answers (unary o inner span) t whole is = free_loads here _ (unary o inner span) (not_true (has_call inner) whole)
  whole_answers (binary o left right span) t whole is = free_loads here _ (binary o left right span) (not_true (has_call left || has_call right) whole)
  whole_answers (field base name arrow span) t whole is = free_loads here _ (field base name arrow span) (not_true (has_call base) whole)
  whole_answers (index base at span) t whole is = free_loads here _ (index base at span) (not_true (has_call base || has_call at) whole)

  -- either side of a comparison may have the call
  or_none : (o : Option Call) → or_call o None ≡ o
  or_none None = refl
  or_none (Some x) = refl

  abbrev BothAnswer : Expression → Expression → Type 0
  BothAnswer left right =
      AnswersLoad here (call_loads (or_call (call_in here left) (call_in here right))) left
      × AnswersLoad here (call_loads (or_call (call_in here left) (call_in here right))) right

  left_answers : (left right : Expression) → Answers left → has_call right ≡ false → BothAnswer left right
  left_answers left right h free =
      let same : or_call (call_in here left) (call_in here right) ≡ call_in here left = ap (or_call (call_in here left)) (no_call here right free) ∙ or_none (call_in here left) in
      (subst (λ o. AnswersLoad here (call_loads o) left) (sym same) h, free_loads here _ right free)

  right_answers : (left right : Expression) → Answers right → has_call left ≡ false → BothAnswer left right
  right_answers left right h free =
      let same : or_call (call_in here left) (call_in here right) ≡ call_in here right = ap (λ o. or_call o (call_in here right)) (no_call here left free) in
      (free_loads here _ left free, subst (λ o. AnswersLoad here (call_loads o) right) (sym same) h)

  compared_answer : (left right : Expression) (a b : ExpressionType) → type_of (context_of here) left ≡ Some a → type_of (context_of here) right ≡ Some b
      → is_comparison (context_of here) left right ≡ true → BothAnswer left right
  compared_answer left right a b is_left is_right h =
      one_of (is_compared (context_of here) left right) _ h
      (λ x. let both = both_true (is_call left) (is_some (constant_of (context_of here) right)) x in
      left_answers left right (whole_answers left a (call_whole left both.0) is_left) (constant_free (context_of here) right both.1))
      (λ d. one_of (is_compared (context_of here) right left) (is_free left && is_free right) d
      (λ x. let both = both_true (is_call right) (is_some (constant_of (context_of here) left)) x in
      right_answers left right (whole_answers right b (call_whole right both.0) is_right) (constant_free (context_of here) left both.1))
      (λ f. let both = both_true (is_free left) (is_free right) f in
      left_answers left right (free_loads here _ left (not_true (has_call left) both.0)) (not_true (has_call right) both.1)))

  sides_answer : (o : BinaryOp) (left right : Expression) (t : ExpressionType)
      → unless (breaks_binary o (type_of (context_of here) left) (type_of (context_of here) right)) (both (binary_type o) (type_of (context_of here) left) (type_of (context_of here) right)) ≡ Some t
      → is_comparison (context_of here) left right ≡ true → BothAnswer left right
  sides_answer o left right t is h =
      let x = type_of (context_of here) left in
      let y = type_of (context_of here) right in
      let parts = of_two (binary_type o) (breaks_binary o x y) x y t is in
      compared_answer left right parts.1.0.0 parts.1.1.0 parts.1.0.1 parts.1.1.1 h

  pub condition_answers : (e : Expression) (t : ExpressionType) → is_condition (context_of here) e ≡ true → type_of (context_of here) e ≡ Some t → Answers e
  unfolding type_of call_in
  condition_answers (unary prefix.Not inner span) t h is =
      let x = type_of (context_of here) inner in
      let parts = of_one (prefix_type prefix.Not) (breaks_prefix prefix.Not x) x t is in
      whole_answers inner parts.1.0 h parts.1.1
  condition_answers (binary op.Equal left right span) t h is = sides_answer op.Equal left right t is h
  condition_answers (binary op.Unequal left right span) t h is = sides_answer op.Unequal left right t is h
  condition_answers (unary prefix.Minus inner span) t h is = whole_answers (unary prefix.Minus inner span) t h is
  condition_answers (unary prefix.Flip inner span) t h is = whole_answers (unary prefix.Flip inner span) t h is
  condition_answers (unary prefix.Address inner span) t h is = whole_answers (unary prefix.Address inner span) t h is
  condition_answers (unary prefix.Follow inner span) t h is = whole_answers (unary prefix.Follow inner span) t h is
  condition_answers (number n u span) t h is = tt
  condition_answers (null span) t h is = tt
  condition_answers (named name span) t h is = tt
  condition_answers (call callee args span) t h is = whole_answers (call callee args span) t h is
  condition_answers (field base name arrow span) t h is = whole_answers (field base name arrow span) t h is
  condition_answers (index base at span) t h is = whole_answers (index base at span) t h is
  condition_answers (binary op.Or left right span) t h is = whole_answers (binary op.Or left right span) t h is
  condition_answers (binary op.And left right span) t h is = whole_answers (binary op.And left right span) t h is
  condition_answers (binary op.BitOr left right span) t h is = whole_answers (binary op.BitOr left right span) t h is
  condition_answers (binary op.BitXor left right span) t h is = whole_answers (binary op.BitXor left right span) t h is
  condition_answers (binary op.BitAnd left right span) t h is = whole_answers (binary op.BitAnd left right span) t h is
  condition_answers (binary op.Less left right span) t h is = whole_answers (binary op.Less left right span) t h is
  condition_answers (binary op.More left right span) t h is = whole_answers (binary op.More left right span) t h is
  condition_answers (binary op.LessEqual left right span) t h is = whole_answers (binary op.LessEqual left right span) t h is
  condition_answers (binary op.MoreEqual left right span) t h is = whole_answers (binary op.MoreEqual left right span) t h is
  condition_answers (binary op.Plus left right span) t h is = whole_answers (binary op.Plus left right span) t h is
  condition_answers (binary op.Minus left right span) t h is = whole_answers (binary op.Minus left right span) t h is
  condition_answers (binary op.Times left right span) t h is = whole_answers (binary op.Times left right span) t h is
  condition_answers (binary op.Divide left right span) t h is = whole_answers (binary op.Divide left right span) t h is
  condition_answers (binary op.Remainder left right span) t h is = whole_answers (binary op.Remainder left right span) t h is
