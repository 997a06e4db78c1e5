-- What is said of the call of a deed by typing, by running and by the profile.
use Rattle.std.proofs.Common.{◌≡◌, ◌∙◌, ℕ, Bool, true, false, not, ◌&&◌, ◌||◌, List, [], ◌∷◌, Some, None, option_and_then, refl, sym, ap}
use Rattle.std.proofs.Common.{ap₂}
use Rattle.tsa_base.specs.declared.token.Span.{Span}
use Rattle.tsa_base.proofs.Truths.{never}
use Rattle.tsa_tree.specs.declared.expr.BinaryOp.TheVariants as op
use Rattle.tsa_tree.specs.declared.expr.UnaryOp.TheVariants as prefix
use Rattle.tsa_tree.specs.declared.kind.ExpressionType.{ExpressionType}
use Rattle.tsa_tree.specs.declared.kind.ThingType.{ThingType}
use Rattle.tsa_tree.specs.declared.meaning.Meaning.TheVariants as meant
use Rattle.tsa_tree.specs.expressions.Syntax.{Identifier, Expression, Arguments, number, null, named, call, unary, binary, field, index}
use Rattle.tsa_tree.specs.types.Expressions.{type_of, types_of, all_typed, function_of, result_type}
use Rattle.tsa_tree.specs.types.Runnable.{has_call, is_whole}
use Rattle.tsa_tree.specs.types.Scopes.{Scope, context_of, known_in}
use Rattle.tsa_tree.specs.types.Lookups.{params_in}
use Rattle.tsa_core.specs.Meanings.{Call, arguments, call_in, call_of, meaning, of_call, of_type, or_call}
use Rattle.tsa_core.specs.Terms.{answer, Sense}
use Rattle.tsa_core.specs.Uses.{argument_ways, call_ways, called_ways}
use Rattle.tsa_core.proofs.CallsHold.{call_called}
use Rattle.tsa_core.proofs.KindTests.{neither, not_true}
use Rattle.tsa_core.proofs.TypedTerms.{some_same}
use Rattle.tsa_core.proofs.ValuesServe.{no_call}
use Rattle.tsa_profile_accesses.specs.Locks.{tries}
use Rattle.tsa_profile_accesses.specs.Premises.{first, premise}
use Rattle.tsa_profile_accesses.specs.Standing.{may_call, may_try}
use Rattle.tsa_profile_accesses.specs.declared.premise.ProfileCode.TheVariants.{PF1, PF2, PF5}
use Rattle.tsa_profile_accesses.specs.declared.standing.Standing.{Standing}
use Rattle.tsa_profile_guards.proofs.NoneFails.{none_of_both, none_of_first}
use Rattle.tsa_profile_points.specs.Bodies.{Around, view_at}
use Rattle.tsa_profile_accesses.specs.Expressions.{View, attributes_at, callee, expression, is_try_call, lacks_a_path, of_callee, own}
use Rattle.tsa_profile_accesses.specs.Expressions.{parts}

-- an expression without a call has no arguments of one
pub no_ways : (stable : ℕ → Bool) (here : Scope) (e : Expression) → has_call e ≡ false → call_ways stable here e ≡ None
unfolding call_ways
no_ways stable here (number n u span) h = refl
no_ways stable here (null span) h = refl
no_ways stable here (named name span) h = refl
no_ways stable here (call callee args span) h = never h
no_ways stable here (unary prefix.Not inner span) h = no_ways stable here inner h
no_ways stable here (unary prefix.Minus inner span) h = refl
no_ways stable here (unary prefix.Flip inner span) h = refl
no_ways stable here (unary prefix.Address inner span) h = refl
no_ways stable here (unary prefix.Follow inner span) h = refl
no_ways stable here (binary op.Equal left right span) h =
    let both = neither (has_call left) (has_call right) h in ap₂ or_call (no_ways stable here left both.0) (no_ways stable here right both.1)
no_ways stable here (binary op.Unequal left right span) h =
    let both = neither (has_call left) (has_call right) h in ap₂ or_call (no_ways stable here left both.0) (no_ways stable here right both.1)
no_ways stable here (binary op.Or left right span) h = refl
no_ways stable here (binary op.And left right span) h = refl
no_ways stable here (binary op.BitOr left right span) h = refl
no_ways stable here (binary op.BitXor left right span) h = refl
no_ways stable here (binary op.BitAnd left right span) h = refl
no_ways stable here (binary op.Less left right span) h = refl
no_ways stable here (binary op.More left right span) h = refl
no_ways stable here (binary op.LessEqual left right span) h = refl
no_ways stable here (binary op.MoreEqual left right span) h = refl
no_ways stable here (binary op.Plus left right span) h = refl
no_ways stable here (binary op.Minus left right span) h = refl
no_ways stable here (binary op.Times left right span) h = refl
no_ways stable here (binary op.Divide left right span) h = refl
no_ways stable here (binary op.Remainder left right span) h = refl
no_ways stable here (field base name arrow span) h = refl
no_ways stable here (index base at span) h = refl

module _ (a : Around) (here : Scope) where
  abbrev v : View
  v = view_at a here

  abbrev pub called_sense : ℕ → ThingType → Sense
  called_sense n thing = of_type answer (result_type (record { meaning = meant.Function n; thing = thing }))

  -- a call that is the whole of an expression, as it is known, typed and asked
  pub record Called (s : Standing) (e : Expression) (c : Call) : Type 0 where
    pub name : List ℕ
    pub n : ℕ
    pub thing : ThingType
    pub args : Arguments
    pub known : known_in here name ≡ Some (record { meaning = meant.Function n; thing = thing })
    pub call_is : c ≡ record { function = n; args = arguments here (params_in here n) args }
    pub ways_are : call_ways a.stable here e ≡ Some (argument_ways a.stable here (params_in here n) args)
    pub typed_args : all_typed (types_of (context_of here) args) ≡ true
    pub sense : meaning here e ≡ called_sense n thing
    pub has_paths : lacks_a_path v args n ≡ false
    pub try_is : is_try_call v e ≡ tries (attributes_at a.attributes n)
    pub stands : (tries (attributes_at a.attributes n) && not (may_try s)) ≡ false

  call_known : (s : Standing) (name : Identifier) (args : Arguments) (span : Span) (t : ExpressionType) (c : Call)
      → type_of (context_of here) (call name args span) ≡ Some t
      → first (own v s true (call name args span)) ≡ None → call_in here (call name args span) ≡ Some c → Called s (call name args span) c
  unfolding call_in call_ways meaning
  call_known s name args span t c is h e =
      let k = call_called here name args span t is in
      let x : Expression = call name args span in
      let n : callee v x ≡ Some k.n = ap (λ o. option_and_then (λ z. function_of z.meaning) o) k.known in
      let y = none_of_first PF1 span (not (may_call s)) (premise PF2 span (of_callee (lacks_a_path v args) (callee v x)) ∷ premise PF5 span
      (is_try_call v x && not (may_try s)) ∷ []) h in
      let z = none_of_first PF2 span (of_callee (lacks_a_path v args) (callee v x)) (premise PF5 span (is_try_call v x && not (may_try s)) ∷ []) y.1 in
      let w = none_of_first PF5 span (is_try_call v x && not (may_try s)) [] z.1 in
      let tried : is_try_call v x ≡ tries (attributes_at a.attributes k.n) = ap (of_callee (λ m. tries (attributes_at a.attributes m))) n in
      record {
        name = name.text;
        n = k.n;
        thing = k.thing;
        args = args;
        known = k.known;
        call_is = some_same (sym e ∙ ap (call_of here args) k.known);
        ways_are = ap (called_ways a.stable here args) k.known;
        typed_args = k.all;
        sense = ap of_call k.known;
        has_paths = sym (ap (of_callee (lacks_a_path v args)) n) ∙ z.0;
        try_is = tried;
        stands = sym (ap (λ b. b && not (may_try s)) tried) ∙ w.0;
      }

  none_called : {A : Type 0} (e : Expression) (c : Call) → has_call e ≡ false → call_in here e ≡ Some c → A
  none_called e c free h = let z = sym (no_call here e free) ∙ h in absurd cc

  pub whole_called : (s : Standing) (e : Expression) (t : ExpressionType) (c : Call) → is_whole e ≡ true → type_of (context_of here) e ≡ Some t
      → first (expression v s e) ≡ None
      → call_in here e ≡ Some c → Called s e c
  whole_called s (call name args span) t c whole is h e =
      call_known s name args span t c is (none_of_both (own v s true (call name args span)) (parts v s (call name args span)) h).0 e
  whole_called s (number n u span) t c whole is h e = none_called (number n u span) c refl e
  whole_called s (null span) t c whole is h e = none_called (null span) c refl e
  whole_called s (named name span) t c whole is h e = none_called (named name span) c refl e
  whole_called s (unary o inner span) t c whole is h e = none_called (unary o inner span) c (not_true (has_call inner) whole) e
  whole_called s (binary o left right span) t c whole is h e = none_called (binary o left right span) c (not_true (has_call left || has_call right) whole) e
  whole_called s (field base name arrow span) t c whole is h e = none_called (field base name arrow span) c (not_true (has_call base) whole) e
  whole_called s (index base at span) t c whole is h e = none_called (index base at span) c (not_true (has_call base || has_call at) whole) e

  -- where a try may not stand there is none, and where there is one it may
  pub may_stand : (s : Standing) (e : Expression) (c : Call) (k : Called s e c) → tries (attributes_at a.attributes k.n) ≡ true → may_try s ≡ true
  may_stand s e c k h = by (tries (attributes_at a.attributes k.n)) (may_try s) h k.stands
    where
      by : (t m : Bool) → t ≡ true → (t && not m) ≡ false → m ≡ true
      by true true h g = refl
      by true false h g = never g
      by false m h g = never (sym h)
