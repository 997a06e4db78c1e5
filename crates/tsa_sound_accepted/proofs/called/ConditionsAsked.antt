-- What is said of the call in a condition, and of what it is compared with.
use Rattle.std.proofs.Common.{◌≡◌, ◌∙◌, Bool, true, false, not, ◌&&◌, ◌||◌, ◌++◌, Option, Some, None, IsSome, is_some, refl, sym, ap, ap₂}
use Rattle.std.proofs.Common.{subst}
use Rattle.tsa_base.specs.declared.token.Span.{Span}
use Rattle.tsa_base.proofs.Truths.{never}
use Rattle.tsa_tree.specs.declared.expr.BinaryOp.{BinaryOp}
use Rattle.tsa_tree.specs.declared.expr.BinaryOp.TheVariants as op
use Rattle.tsa_tree.specs.declared.expr.UnaryOp.TheVariants as prefix
use Rattle.tsa_tree.specs.declared.kind.ExpressionType.{ExpressionType}
use Rattle.tsa_tree.specs.declared.kind.Kind.TheVariants as type
use Rattle.tsa_tree.specs.declared.number.Number.{Number}
use Rattle.tsa_tree.specs.expressions.Syntax.{Expression, number, null, named, call, unary, binary, field, index}
use Rattle.tsa_tree.specs.types.Constants.{constant_of}
use Rattle.tsa_tree.specs.types.DeclaredTypes.{typed_value}
use Rattle.tsa_tree.specs.types.Expressions.{type_of, both, unless}
use Rattle.tsa_tree.specs.types.Operands.{is_scalar, breaks_prefix, breaks_comparison, comparable, prefix_type, binary_type}
use Rattle.tsa_tree.specs.types.Runnable.{has_call, is_free, is_call, is_compared, is_comparison, is_condition}
use Rattle.tsa_tree.specs.types.Scopes.{Scope, context_of}
use Rattle.tsa_tree.specs.types.Lookups.{params_in}
use Rattle.tsa_core.specs.Kinds.{scalar_kind}
use Rattle.tsa_core.specs.Meanings.{Call, beside, call_in, loaded, meaning, or_call}
use Rattle.tsa_core.specs.Terms.{Term, answer, joined, prefixed}
use Rattle.tsa_core.specs.Uses.{argument_ways, call_ways}
use Rattle.tsa_core.proofs.CallsHold.{call_whole}
use Rattle.tsa_core.proofs.KindTests.{both_true, neither, not_false, not_true, one_of, scalar_is}
use Rattle.tsa_core.proofs.KindsOfTerms.{of_one, of_two, typed}
use Rattle.tsa_core.proofs.SetsHold.{passes_typed}
use Rattle.tsa_core.proofs.TypedTerms.{some_same}
use Rattle.tsa_core.proofs.ValuesServe.{no_call, constant_free}
use Rattle.tsa_rules_roles.proofs.Constants.{terms_have_the_values}
use Rattle.tsa_profile_accesses.specs.Locks.{tries}
use Rattle.tsa_profile_accesses.specs.Premises.{first}
use Rattle.tsa_profile_accesses.specs.Standing as standing
use Rattle.tsa_profile_accesses.specs.declared.premise.ProfileCode.TheVariants.{PF8}
use Rattle.tsa_profile_accesses.specs.declared.standing.Standing.{Standing}
use Rattle.tsa_profile_accesses.specs.declared.standing.Standing.TheVariants.{Test, Operand}
use Rattle.tsa_profile_guards.proofs.NoneFails.{none_of_both, none_of_first}
use Rattle.tsa_profile_points.specs.Bodies.{Around, view_at}
use Rattle.tsa_profile_accesses.specs.Expressions.{View, attributes_at, compares_a_try, constant, expression, is_other, is_truth}
use Rattle.tsa_profile_accesses.specs.Expressions.{is_try_call, parts}
use Rattle.tsa_rules.specs.Conditions as cond
use Rattle.tsa_rules.specs.Conditions.{Condition, the_call, condition_in}
use Rattle.tsa_sound_accepted.proofs.called.CallTypes.{beside_answer, compared_left, compared_right, constant_some, left_asks, left_takes}
use Rattle.tsa_sound_accepted.proofs.called.CallTypes.{right_asks, right_takes}
use Rattle.tsa_sound_accepted.proofs.called.CallsAsked.{Called, called_sense, no_ways, whole_called}

or_left_call : {A : Type 0} (o p : Option A) (x : A) → p ≡ None → or_call o p ≡ Some x → o ≡ Some x
or_left_call None p x e h = sym e ∙ h
or_left_call (Some y) p x e h = h

or_right_call : {A : Type 0} (o p : Option A) (x : A) → o ≡ None → or_call o p ≡ Some x → p ≡ Some x
or_right_call o p x e h = subst (λ y. or_call y p ≡ Some x) e h

module _ (a : Around) (here : Scope) where
  abbrev v : View
  v = view_at a here

  -- What a test looks at: beside the answer a constant that is compared with it.
  pub record Tested (e : Expression) (c : Call) : Type 0 where
    pub s : Standing
    pub inner : Expression
    pub called : Called a here s inner c
    pub ways_are : call_ways a.stable here e ≡ Some (argument_ways a.stable here (params_in here called.n) called.args)
    pub scalar : scalar_kind called.thing.kind ≡ true
    pub asks : (k : Condition) → condition_in (loaded (meaning here e)) ≡ Some k → k.subject ≡ the_call
    pub takes : called.thing.kind ≡ type.Int → tries (attributes_at a.attributes called.n) ≡ true → IsSome (condition_in (loaded (meaning here e)))

  sense_scalar : (s : Standing) (e : Expression) (c : Call) (k : Called a here s e c) → is_scalar (meaning here e).type ≡ true → scalar_kind k.thing.kind ≡ true
  sense_scalar s e c k h = (scalar_is (called_sense a here k.n k.thing).type (subst (λ x. is_scalar x.type ≡ true) k.sense h)).1

  itself_tested : (e : Expression) (c : Call) → Called a here Test e c → is_scalar (meaning here e).type ≡ true → Tested e c
  itself_tested e c k scalar = record {
    s = Test;
    inner = e;
    called = k;
    ways_are = k.ways_are;
    scalar = sense_scalar Test e c k scalar;
    asks = λ x h. looks x (sym (ap (λ y. condition_in (loaded y)) k.sense) ∙ h);
    takes = λ i t. subst (λ y. IsSome (condition_in (loaded y))) (sym k.sense) refl;
  }
    where
      looks : (x : Condition) → condition_in answer ≡ Some x → x.subject ≡ the_call
      looks x h = let same : cond.condition true the_call ≡ x = cc in ap (λ y. y.subject) (sym same)

  not_tested : (inner : Expression) (span : Span) (c : Call) → Called a here Operand inner c → is_scalar (meaning here inner).type ≡ true
      → Tested (unary prefix.Not inner span) c
  unfolding call_ways meaning
  not_tested inner span c k scalar = record {
    s = Operand;
    inner = inner;
    called = k;
    ways_are = k.ways_are;
    scalar = sense_scalar Operand inner c k scalar;
    asks = λ x h. looks x (sym (ap (λ y. condition_in (prefixed prefix.Not (loaded y))) k.sense) ∙ h);
    takes = λ i t. subst (λ y. IsSome (condition_in (prefixed prefix.Not (loaded y)))) (sym k.sense) refl;
  }
    where
      looks : (x : Condition) → condition_in (prefixed prefix.Not answer) ≡ Some x → x.subject ≡ the_call
      looks x h = let same : cond.condition false the_call ≡ x = cc in ap (λ y. y.subject) (sym same)

  -- a constant beside a try is 0 or 1
  constant_told : (e : Expression) (t : ExpressionType) → type_of (context_of here) e ≡ Some t → is_some (constant_of (context_of here) e) ≡ true
      → is_other (constant v e) ≡ false
      → (n : Number) × ((cond.constant_in (loaded (meaning here e)) ≡ Some n) × (is_truth n ≡ true))
  constant_told e t is some other = by (constant_of (context_of here) e) refl some
    where
      same : constant v e ≡ constant_of (context_of here) e
      same = ap (λ o. typed_value o (constant_of (context_of here) e)) is

      by : (o : Option Number) → constant_of (context_of here) e ≡ o → is_some o ≡ true
          → (n : Number) × ((cond.constant_in (loaded (meaning here e)) ≡ Some n) × (is_truth n ≡ true))
      by None f g = never (sym g)
      by (Some n) f g = (n, (terms_have_the_values here e t is ∙ same ∙ f, not_false (is_truth n) (sym (ap is_other (same ∙ f)) ∙ other)))

  -- The two comparisons.
  record IsEquality (o : BinaryOp) (yes : Bool → Bool) : Type 0 where
    means : (x y : Term) → condition_in (joined o x y) ≡ cond.comparison yes x y

  module _ (o : BinaryOp) (yes : Bool → Bool) (equality : IsEquality o yes) (e left right : Expression) (c : Call)
      (term_is : loaded (meaning here e) ≡ joined o (beside (meaning here right).type.thing.kind (meaning here left))
      (beside (meaning here left).type.thing.kind (meaning here right)))
      (ways : call_ways a.stable here e ≡ or_call (call_ways a.stable here left) (call_ways a.stable here right))
      (is_left : type_of (context_of here) left ≡ Some (meaning here left).type) (is_right : type_of (context_of here) right ≡ Some (meaning here right).type)
      (both : comparable (meaning here left).type (meaning here right).type ≡ true) (fits : compares_a_try v left right ≡ false)
    where
      others : ((is_try_call v left && is_other (constant v right)) ≡ false) × ((is_try_call v right && is_other (constant v left)) ≡ false)
      others = neither (is_try_call v left && is_other (constant v right)) (is_try_call v right && is_other (constant v left)) fits

      no_other : (t x : Bool) → t ≡ true → (t && x) ≡ false → x ≡ false
      no_other true x h g = g
      no_other false x h g = never (sym h)

      left_tested : (s : Standing) → Called a here s left c → is_scalar (meaning here left).type ≡ true → is_some (constant_of (context_of here) right) ≡ true
          → Tested e c
      left_tested s k scalar some = record {
        s = s;
        inner = left;
        called = k;
        ways_are = ways ∙ ap (λ w. or_call w (call_ways a.stable here right)) k.ways_are;
        scalar = sense_scalar s left c k scalar;
        asks = λ x h. left_asks yes other x (sym (ap condition_in term ∙ equality.means answer other) ∙ h);
        takes = λ i t. subst IsSome (sym (ap condition_in term ∙ equality.means answer other)) (left_takes yes other (number_beside i t));
      }
        where
          other : Term
          other = beside (meaning here left).type.thing.kind (meaning here right)

          here_is : beside (meaning here right).type.thing.kind (meaning here left) ≡ answer
          here_is =
              ap (beside (meaning here right).type.thing.kind) k.sense
              ∙ beside_answer (meaning here right).type.thing.kind (called_sense a here k.n k.thing).type
              (compared_left (called_sense a here k.n k.thing).type (meaning here right).type
              (subst (λ y. comparable y.type (meaning here right).type ≡ true) k.sense both) refl)

          term : loaded (meaning here e) ≡ joined o answer other
          term = term_is ∙ ap (λ y. joined o y other) here_is

          plain : k.thing.kind ≡ type.Int → other ≡ loaded (meaning here right)
          plain i = ap (λ kind. beside kind (meaning here right)) (ap (λ y. y.type.thing.kind) k.sense ∙ i)

          number_beside : k.thing.kind ≡ type.Int → tries (attributes_at a.attributes k.n) ≡ true → IsSome (cond.answer_beside other)
          number_beside i t =
              let told = constant_told right (meaning here right).type is_right some
              (no_other (is_try_call v left) (is_other (constant v right)) (k.try_is ∙ t) others.0) in
              subst (λ y. IsSome (cond.answer_beside y)) (sym (plain i)) (constant_some (loaded (meaning here right)) told.0 told.1.0 told.1.1)

      right_tested : (s : Standing) → Called a here s right c → has_call left ≡ false → is_scalar (meaning here right).type ≡ true
          → is_some (constant_of (context_of here) left) ≡ true → Tested e c
      right_tested s k free scalar some = record {
        s = s;
        inner = right;
        called = k;
        ways_are = ways ∙ ap (λ w. or_call w (call_ways a.stable here right)) (no_ways a.stable here left free) ∙ k.ways_are;
        scalar = sense_scalar s right c k scalar;
        asks = λ x h. right_asks yes other x (sym (ap condition_in term ∙ equality.means other answer) ∙ h);
        takes = λ i t. subst IsSome (sym (ap condition_in term ∙ equality.means other answer)) (right_takes yes other (number_beside i t));
      }
        where
          other : Term
          other = beside (meaning here right).type.thing.kind (meaning here left)

          here_is : beside (meaning here left).type.thing.kind (meaning here right) ≡ answer
          here_is =
              ap (beside (meaning here left).type.thing.kind) k.sense
              ∙ beside_answer (meaning here left).type.thing.kind (called_sense a here k.n k.thing).type
              (compared_right (meaning here left).type (called_sense a here k.n k.thing).type
              (subst (λ y. comparable (meaning here left).type y.type ≡ true) k.sense both) refl)

          term : loaded (meaning here e) ≡ joined o other answer
          term = term_is ∙ ap (λ y. joined o other y) here_is

          plain : k.thing.kind ≡ type.Int → other ≡ loaded (meaning here left)
          plain i = ap (λ kind. beside kind (meaning here left)) (ap (λ y. y.type.thing.kind) k.sense ∙ i)

          number_beside : k.thing.kind ≡ type.Int → tries (attributes_at a.attributes k.n) ≡ true → IsSome (cond.answer_beside other)
          number_beside i t =
              let told = constant_told left (meaning here left).type is_left some
              (no_other (is_try_call v right) (is_other (constant v left)) (k.try_is ∙ t) others.1) in
              subst (λ y. IsSome (cond.answer_beside y)) (sym (plain i)) (constant_some (loaded (meaning here left)) told.0 told.1.0 told.1.1)

      comparison_tested : is_comparison (context_of here) left right ≡ true → is_scalar (meaning here left).type ≡ true → is_scalar (meaning here right).type ≡ true
          → (s t : Standing) → first (expression v s left) ≡ None → first (expression v t right) ≡ None
          → or_call (call_in here left) (call_in here right) ≡ Some c → Tested e c
      comparison_tested h scalar_left scalar_right s t asked_left asked_right is =
          one_of (is_compared (context_of here) left right) (is_compared (context_of here) right left || (is_free left && is_free right)) h
          (λ g. let x = both_true (is_call left) (is_some (constant_of (context_of here) right)) g in
          let free = constant_free (context_of here) right x.1 in
          left_tested s (whole_called a here s left (meaning here left).type c (call_whole left x.0) is_left asked_left
          (or_left_call (call_in here left) (call_in here right) c (no_call here right free) is)) scalar_left x.1)
          (λ g.
          one_of (is_compared (context_of here) right left) (is_free left && is_free right) g
          (λ f. let x = both_true (is_call right) (is_some (constant_of (context_of here) left)) f in
          let free = constant_free (context_of here) left x.1 in
          right_tested t (whole_called a here t right (meaning here right).type c (call_whole right x.0) is_right asked_right
          (or_right_call (call_in here left) (call_in here right) c (no_call here left free) is)) free scalar_right x.1)
          (λ f. let x = both_true (is_free left) (is_free right) f in
          let z = sym (ap₂ or_call (no_call here left (not_true (has_call left) x.0)) (no_call here right (not_true (has_call right) x.1))) ∙ is in
          absurd cc))

  equal_is : IsEquality op.Equal cond.itself
  equal_is = record { means = λ x y. refl }

  unequal_is : IsEquality op.Unequal not
  unequal_is = record { means = λ x y. refl }

  none_tested : {A : Type 0} (c : Call) → ◌≡◌ {A = Option Call} None (Some c) → A
  none_tested c h = absurd cc

  -- what the sides of a comparison are
  sides_told : (left right : Expression) (t : ExpressionType) (f : ExpressionType → ExpressionType → ExpressionType)
      → unless (breaks_comparison (type_of (context_of here) left) (type_of (context_of here) right))
      (both f (type_of (context_of here) left) (type_of (context_of here) right)) ≡ Some t
      → ((type_of (context_of here) left ≡ Some (meaning here left).type) × (type_of (context_of here) right ≡ Some (meaning here right).type))
      × ((is_scalar (meaning here left).type ≡ true) × ((is_scalar (meaning here right).type ≡ true) × (comparable (meaning here left).type
      (meaning here right).type ≡ true)))
  sides_told left right t f is =
      let x = type_of (context_of here) left in
      let y = type_of (context_of here) right in
      let told = of_two f (breaks_comparison x y) x y t is in
      let l = typed here left told.1.0.0 told.1.0.1 in
      let r = typed here right told.1.1.0 told.1.1.1 in
      let p = (meaning here left).type in
      let q = (meaning here right).type in
      let breaks : breaks_comparison (Some p) (Some q) ≡ false = sym (ap₂ breaks_comparison l r) ∙ told.0 in
      let first_two = neither (not (is_scalar p) || not (is_scalar q)) (not (comparable p q)) breaks in
      let scalars = neither (not (is_scalar p)) (not (is_scalar q)) first_two.0 in
      ((l, r), (not_false (is_scalar p) scalars.0, (not_false (is_scalar q) scalars.1, not_false (comparable p q) first_two.1)))

  pub condition_tested : (e : Expression) (t : ExpressionType) (c : Call) → is_condition (context_of here) e ≡ true → type_of (context_of here) e ≡ Some t
      → is_scalar t ≡ true
      → first (expression v Test e) ≡ None → call_in here e ≡ Some c → Tested e c
  unfolding call_in call_ways meaning type_of parts
  condition_tested (call name args span) t c h is scalar asked e =
      let x : Expression = call name args span in
      itself_tested x c (whole_called a here Test x t c h is asked e) (subst (λ y. is_scalar y ≡ true) (some_same (sym is ∙ typed here x t is)) scalar)
  condition_tested (unary prefix.Not inner span) t c h is scalar asked e =
      let x = type_of (context_of here) inner in
      let told = of_one (prefix_type prefix.Not) (breaks_prefix prefix.Not x) x t is in
      let same = typed here inner told.1.0 told.1.1 in
      not_tested inner span c (whole_called a here Operand inner (meaning here inner).type c h same asked e)
      (passes_typed is_scalar x (meaning here inner).type same told.0)
  condition_tested (binary op.Equal left right span) t c h is scalar asked e =
      let s = standing.beside Test (is_some (constant v right)) in
      let u = standing.beside Test (is_some (constant v left)) in
      let x = none_of_first PF8 span (compares_a_try v left right) (expression v s left ++ expression v u right) asked in
      let y = none_of_both (expression v s left) (expression v u right) x.1 in
      let told = sides_told left right t (binary_type op.Equal) is in
      comparison_tested op.Equal cond.itself equal_is (binary op.Equal left right span) left right c refl refl told.0.0 told.0.1 told.1.1.1 x.0 h
      told.1.0 told.1.1.0 s u y.0 y.1 e
  condition_tested (binary op.Unequal left right span) t c h is scalar asked e =
      let s = standing.beside Test (is_some (constant v right)) in
      let u = standing.beside Test (is_some (constant v left)) in
      let x = none_of_first PF8 span (compares_a_try v left right) (expression v s left ++ expression v u right) asked in
      let y = none_of_both (expression v s left) (expression v u right) x.1 in
      let told = sides_told left right t (binary_type op.Unequal) is in
      comparison_tested op.Unequal not unequal_is (binary op.Unequal left right span) left right c refl refl told.0.0 told.0.1 told.1.1.1 x.0 h
      told.1.0 told.1.1.0 s u y.0 y.1 e
  condition_tested (unary prefix.Minus inner span) t c h is scalar asked e = none_tested c e
  condition_tested (unary prefix.Flip inner span) t c h is scalar asked e = none_tested c e
  condition_tested (unary prefix.Address inner span) t c h is scalar asked e = none_tested c e
  condition_tested (unary prefix.Follow inner span) t c h is scalar asked e = none_tested c e
  condition_tested (binary op.Or left right span) t c h is scalar asked e = none_tested c e
  condition_tested (binary op.And left right span) t c h is scalar asked e = none_tested c e
  condition_tested (binary op.BitOr left right span) t c h is scalar asked e = none_tested c e
  condition_tested (binary op.BitXor left right span) t c h is scalar asked e = none_tested c e
  condition_tested (binary op.BitAnd left right span) t c h is scalar asked e = none_tested c e
  condition_tested (binary op.Less left right span) t c h is scalar asked e = none_tested c e
  condition_tested (binary op.More left right span) t c h is scalar asked e = none_tested c e
  condition_tested (binary op.LessEqual left right span) t c h is scalar asked e = none_tested c e
  condition_tested (binary op.MoreEqual left right span) t c h is scalar asked e = none_tested c e
  condition_tested (binary op.Plus left right span) t c h is scalar asked e = none_tested c e
  condition_tested (binary op.Minus left right span) t c h is scalar asked e = none_tested c e
  condition_tested (binary op.Times left right span) t c h is scalar asked e = none_tested c e
  condition_tested (binary op.Divide left right span) t c h is scalar asked e = none_tested c e
  condition_tested (binary op.Remainder left right span) t c h is scalar asked e = none_tested c e
  condition_tested (number n u span) t c h is scalar asked e = none_tested c e
  condition_tested (null span) t c h is scalar asked e = none_tested c e
  condition_tested (named name span) t c h is scalar asked e = none_tested c e
  condition_tested (field base name arrow span) t c h is scalar asked e = none_tested c e
  condition_tested (index base at span) t c h is scalar asked e = none_tested c e
