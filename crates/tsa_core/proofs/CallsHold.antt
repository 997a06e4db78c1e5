-- The arguments of a point's call serve its parameters, and what the call gives is what the point's terms use.
use Rattle.std.proofs.Common.{◌≡◌, ◌∙◌, ℕ, suc, arith, nat_eq, Bool, true, false, not, ◌&&◌, ◌||◌, List, [], ◌∷◌, length, map, Option, Some}
use Rattle.std.proofs.Common.{None, is_some, option_map, refl, sym, ap, ap₂, subst, eqb-true, eq-eqb}
use Rattle.tsa_base.specs.declared.token.Span.{Span}
use Rattle.tsa_base.proofs.Truths.{never}
use Rattle.tsa_tree.specs.declared.expr.BinaryOp.{BinaryOp}
use Rattle.tsa_tree.specs.declared.expr.BinaryOp.TheVariants as op
use Rattle.tsa_tree.specs.declared.expr.UnaryOp.TheVariants as prefix
use Rattle.tsa_tree.specs.declared.kind.ExpressionType.{ExpressionType}
use Rattle.tsa_tree.specs.declared.kind.Kind.{Kind}
use Rattle.tsa_tree.specs.declared.kind.ThingType.{ThingType}
use Rattle.tsa_tree.specs.declared.meaning.Entry.{Entry}
use Rattle.tsa_tree.specs.declared.meaning.Meaning.{Meaning}
use Rattle.tsa_tree.specs.declared.meaning.Meaning.TheVariants as meant
use Rattle.tsa_tree.specs.expressions.Sound.{Words, is_sound, are_sound}
use Rattle.tsa_tree.specs.expressions.Syntax.{Identifier, Expression, Arguments, number, null, named, call, unary, binary, field, index}
use Rattle.tsa_tree.specs.expressions.Syntax.{none, more}
use Rattle.tsa_tree.specs.types.Constants.{constant_of}
use Rattle.tsa_tree.specs.types.Expressions.{type_of, types_of, unless, both, known_and, breaks_call, miscounts, arguments_break, all_typed}
use Rattle.tsa_tree.specs.types.Expressions.{result_type}
use Rattle.tsa_tree.specs.types.Operands.{is_scalar, goes_to, lacks, breaks_prefix, breaks_binary, breaks_comparison, comparable}
use Rattle.tsa_tree.specs.types.Operands.{prefix_type, binary_type}
use Rattle.tsa_tree.specs.types.Runnable.{has_call, have_call, is_free, is_whole, is_call, is_compared, is_comparison, is_condition}
use Rattle.tsa_tree.specs.types.Runnable.{is_small}
use Rattle.tsa_tree.specs.types.Scopes.{Scope, context_of, known_in}
use Rattle.tsa_tree.specs.types.Lookups.{params_in}
use Rattle.tsa_place_model.specs.Calls.{Layout}
use Rattle.tsa_core.specs.Kinds.{Setting, Belongs, GivesAnswer, GiveAnswer}
use Rattle.tsa_core.specs.Meanings.{Call, meaning, as_kind, arguments, call_of, or_call, call_in}
use Rattle.tsa_core.specs.PointKinds.{Signatures, Serves, ArgsServe, CallHolds, answer_of, at_point}
use Rattle.tsa_core.proofs.KindTests.{both_true, neither, not_false, not_true, one_of}
use Rattle.tsa_core.proofs.KindsOfTerms.{holds, of_one, of_two}
use Rattle.tsa_core.proofs.TypedTerms.{some_same, terms_have_types}
use Rattle.tsa_core.proofs.ValuesServe.{goes_served, small_scalar, free_gives, no_call, constant_free}

-- lists that are as long as each other
pub none_is_more : {A : Type 0} (n : ℕ) → nat_eq 0 (suc n) ≡ true → A
none_is_more n e = let h = eqb-true 0 (suc n) e in absurd (omega (arith, h))

pub more_is_none : {A : Type 0} (n : ℕ) → nat_eq (suc n) 0 ≡ true → A
more_is_none n e = let h = eqb-true (suc n) 0 e in absurd (omega (arith, h))

pub one_less : (n m : ℕ) → nat_eq (suc n) (suc m) ≡ true → nat_eq n m ≡ true
one_less n m e = let h = eqb-true (suc n) (suc m) e in eq-eqb n m (omega (arith, h))

-- what is known of functions by name is what their signatures say
abbrev pub CallsFit : Signatures → Scope → Type 0
CallsFit sig here = (name : List ℕ) (e : Entry) (n : ℕ) → known_in here name ≡ Some e → e.meaning ≡ meant.Function n
    → (sig.result n ≡ Some e.thing.kind) × (sig.params n ≡ Some (map (λ p. p.kind) (params_in here n)))

-- a typed call, and what it calls
pub record IsTypedCall (here : Scope) (name : List ℕ) (args : Arguments) (t : ExpressionType) : Type 0 where
  pub n : ℕ
  pub thing : ThingType
  pub known : known_in here name ≡ Some (record { meaning = meant.Function n; thing = thing })
  pub type : t ≡ result_type (record { meaning = meant.Function n; thing = thing })
  pub goes : arguments_break (params_in here n) (types_of (context_of here) args) ≡ false
  pub count : nat_eq (length (params_in here n)) (length (types_of (context_of here) args)) ≡ true
  pub all : all_typed (types_of (context_of here) args) ≡ true

module _ (here : Scope) (args : Arguments) (name : List ℕ) (t : ExpressionType) where
  abbrev ts : List (Option ExpressionType)
  ts = types_of (context_of here) args

  called_by : (m : Meaning) (thing : ThingType) → known_in here name ≡ Some (record { meaning = m; thing = thing })
      → (breaks_call (context_of here) ts (record { meaning = m; thing = thing }) || (miscounts (context_of here) ts (record { meaning = m; thing = thing }) || not (all_typed ts))) ≡ false
      → result_type (record { meaning = m; thing = thing }) ≡ t → IsTypedCall here name args t
  called_by (meant.Function n) thing is e type =
      let a = neither (arguments_break (params_in here n) ts) _ e in
      let b = neither (not (nat_eq (length (params_in here n)) (length ts))) (not (all_typed ts)) a.1 in
      record {
        n = n;
        thing = thing;
        known = is;
        type = sym type;
        goes = a.0;
        count = not_false (nat_eq (length (params_in here n)) (length ts)) b.0;
        all = not_false (all_typed ts) b.1;
      }
  called_by (meant.Global n) thing is e type = never e
  called_by (meant.Local n) thing is e type = never e
  called_by meant.Owned thing is e type = never e
  called_by (meant.Constant z) thing is e type = never e
  called_by meant.TypeName thing is e type = never e

  known_called : (o : Option Entry) → known_in here name ≡ o
      → unless (known_and (breaks_call (context_of here) ts) o || (known_and (miscounts (context_of here) ts) o || not (all_typed ts))) (option_map result_type o) ≡ Some t → IsTypedCall here name args t
  known_called o is e = by (known_and (breaks_call (context_of here) ts) o || (known_and (miscounts (context_of here) ts) o || not (all_typed ts))) refl o refl e
    where
      by : (b : Bool) → (known_and (breaks_call (context_of here) ts) o || (known_and (miscounts (context_of here) ts) o || not (all_typed ts))) ≡ b
          → (p : Option Entry) → o ≡ p → unless b (option_map result_type p) ≡ Some t → IsTypedCall here name args t
      by true f p same e = cc
      by false f None same e = cc
      by false f (Some x) same e =
          called_by x.meaning x.thing (is ∙ same)
          (subst (λ p. (known_and (breaks_call (context_of here) ts) p || (known_and (miscounts (context_of here) ts) p || not (all_typed ts))) ≡ false) same f) (some_same e)

pub call_called : (here : Scope) (callee : Identifier) (args : Arguments) (span : Span) (t : ExpressionType) → type_of (context_of here) (call callee args span) ≡ Some t → IsTypedCall here callee.text args t
unfolding type_of
call_called here callee args span t e = known_called here args callee.text t (known_in here callee.text) refl e

pub call_whole : (e : Expression) → is_call e ≡ true → is_whole e ≡ true
call_whole (call callee args span) h = h
call_whole (number n u span) h = never (sym h)
call_whole (null span) h = never (sym h)
call_whole (named name span) h = never (sym h)
call_whole (unary o inner span) h = never (sym h)
call_whole (binary o left right span) h = never (sym h)
call_whole (field base name arrow span) h = never (sym h)
call_whole (index base at span) h = never (sym h)

module _ (here : Scope) (l : Layout) (locals : ℕ → Option Kind) (sig : Signatures) (words : Words) (bel : (given : Option Kind) → Belongs here (at_point l locals given))
    (fit : CallsFit sig here) where
  abbrev pub quiet : Setting
  quiet = at_point l locals None

  args_serve : (params : List ThingType) (args : Arguments) → have_call args ≡ false → are_sound words args ≡ true
      → arguments_break params (types_of (context_of here) args) ≡ false → nat_eq (length params) (length (types_of (context_of here) args)) ≡ true
      → all_typed (types_of (context_of here) args) ≡ true → ArgsServe quiet (map (λ p. p.kind) params) (arguments here params args)
  unfolding types_of arguments
  args_serve [] none free sound goes count all = tt
  args_serve (p ∷ params) none free sound goes count all = more_is_none (length params) count
  args_serve [] (more e rest) free sound goes count all = none_is_more (length (types_of (context_of here) rest)) count
  args_serve (p ∷ params) (more e rest) free sound goes count all =
      by (type_of (context_of here) e) refl goes all
      (λ g a. args_serve params rest (neither (has_call e) (have_call rest) free).1 (both_true (is_sound words e) (are_sound words rest) sound).1 g (one_less (length params) (length (types_of (context_of here) rest)) count) a)
    where
      first : (t : ExpressionType) → type_of (context_of here) e ≡ Some t → goes_to t p ≡ true → Serves quiet (as_kind p.kind (meaning here e)) p.kind
      first t is go =
          (goes_served quiet (meaning here e)
          (holds here quiet (bel None) words e (both_true (is_sound words e) (are_sound words rest) sound).0
          (free_gives here quiet e (neither (has_call e) (have_call rest) free).0) t is)
          p (subst (λ x. goes_to x p ≡ true) (sym (terms_have_types here e t is)) go)).1.1

      by : (o : Option ExpressionType) → type_of (context_of here) e ≡ o
          → (lacks (λ t. goes_to t p) o || arguments_break params (types_of (context_of here) rest)) ≡ false
          → all_typed (o ∷ types_of (context_of here) rest) ≡ true
          → (arguments_break params (types_of (context_of here) rest) ≡ false → all_typed (types_of (context_of here) rest) ≡ true
          → ArgsServe quiet (map (λ p. p.kind) params) (arguments here params rest))
          → ArgsServe quiet (map (λ p. p.kind) (p ∷ params)) (as_kind p.kind (meaning here e) ∷ arguments here params rest)
      by None is g a later = never (sym a)
      by (Some t) is g a later =
          let parts = neither (not (goes_to t p)) (arguments_break params (types_of (context_of here) rest)) g in
          (first t is (not_false (goes_to t p) parts.0), later parts.1 a)

  -- the call of a point, and what uses its answer
  abbrev pub Gives : Expression → Type 0
  Gives e = (k : Setting) → k.answer ≡ answer_of sig (call_in here e) → GiveAnswer here k e

  abbrev pub Holding : Expression → Type 0
  Holding e = CallHolds sig quiet (call_in here e)

  called_is : (callee : Identifier) (args : Arguments) (t : ExpressionType) (c : IsTypedCall here callee.text args t)
      → call_of here args (known_in here callee.text) ≡ Some (record { function = c.n; args = arguments here (params_in here c.n) args })
  called_is callee args t c = ap (call_of here args) c.known

  pub call_holding : (callee : Identifier) (args : Arguments) (span : Span) (t : ExpressionType) → is_sound words (call callee args span) ≡ true → have_call args ≡ false
      → type_of (context_of here) (call callee args span) ≡ Some t → Holding (call callee args span)
  unfolding call_in
  call_holding callee args span t sound free is =
      let c = call_called here callee args span t is in
      let f = fit callee.text (record { meaning = meant.Function c.n; thing = c.thing }) c.n c.known refl in
      subst (CallHolds sig quiet) (sym (called_is callee args t c)) (
        map (λ p. p.kind) (params_in here c.n),
        (f.1, args_serve (params_in here c.n) args free (both_true _ (are_sound words args) sound).1 c.goes c.count c.all),
      )

  call_gives : (callee : Identifier) (args : Arguments) (span : Span) (t : ExpressionType) → type_of (context_of here) (call callee args span) ≡ Some t
      → is_small t.thing ≡ true → Gives (call callee args span)
  unfolding call_in
  call_gives callee args span t is small k answer =
      let c = call_called here callee args span t is in
      let f = fit callee.text (record { meaning = meant.Function c.n; thing = c.thing }) c.n c.known refl in
      subst (GivesAnswer k) (sym c.known)
      (answer ∙ ap (answer_of sig) (called_is callee args t c) ∙ f.0, subst (λ x. is_small x.thing ≡ true) c.type small)

  free_holding : (e : Expression) → has_call e ≡ false → Holding e
  free_holding e free = subst (CallHolds sig quiet) (sym (no_call here e free)) tt

  pub whole_holding : (e : Expression) (t : ExpressionType) → is_sound words e ≡ true → is_whole e ≡ true → type_of (context_of here) e ≡ Some t → Holding e
  whole_holding (call callee args span) t sound whole is = call_holding callee args span t sound (not_true (have_call args) whole) is
  whole_holding (number n u span) t sound whole is = free_holding (number n u span) refl
  whole_holding (null span) t sound whole is = free_holding (null span) refl
  whole_holding (named name span) t sound whole is = free_holding (named name span) refl
  whole_holding (unary o inner span) t sound whole is = free_holding (unary o inner span) (not_true (has_call inner) whole)
  whole_holding (binary o left right span) t sound whole is = free_holding (binary o left right span) (not_true (has_call left || has_call right) whole)
  whole_holding (field base name arrow span) t sound whole is = free_holding (field base name arrow span) (not_true (has_call base) whole)
  whole_holding (index base at span) t sound whole is = free_holding (index base at span) (not_true (has_call base || has_call at) whole)

  pub whole_gives : (e : Expression) (t : ExpressionType) → is_whole e ≡ true → type_of (context_of here) e ≡ Some t → (t.is_zero ≡ false → is_small t.thing ≡ true) → Gives e
  whole_gives (call callee args span) t whole is small k answer =
      call_gives callee args span t is (small (ap (λ x. x.is_zero) (call_called here callee args span t is).type)) k answer
  whole_gives (number n u span) t whole is small k answer = tt
  whole_gives (null span) t whole is small k answer = tt
  whole_gives (named name span) t whole is small k answer = tt
  whole_gives (unary o inner span) t whole is small k answer = free_gives here k (unary o inner span) (not_true (has_call inner) whole)
  whole_gives (binary o left right span) t whole is small k answer = free_gives here k (binary o left right span) (not_true (has_call left || has_call right) whole)
  whole_gives (field base name arrow span) t whole is small k answer = free_gives here k (field base name arrow span) (not_true (has_call base) whole)
  whole_gives (index base at span) t whole is small k answer = free_gives here k (index base at span) (not_true (has_call base || has_call at) whole)

  -- conditions
  abbrev pub Good : Expression → Type 0
  Good e = Holding e × Gives e

  pub whole_good : (e : Expression) (t : ExpressionType) → is_sound words e ≡ true → is_whole e ≡ true → type_of (context_of here) e ≡ Some t → is_small t.thing ≡ true → Good e
  whole_good e t sound whole is small = (whole_holding e t sound whole is, whole_gives e t whole is (λ z. small))

  or_none : (c : Option Call) → or_call c None ≡ c
  or_none None = refl
  or_none (Some x) = refl

  -- either side may have the call
  abbrev GoodBoth : Expression → Expression → Type 0
  GoodBoth left right =
      CallHolds sig quiet (or_call (call_in here left) (call_in here right))
      × ((k : Setting) → k.answer ≡ answer_of sig (or_call (call_in here left) (call_in here right)) → GiveAnswer here k left × GiveAnswer here k right)

  left_calls : (left right : Expression) → Good left → has_call right ≡ false → GoodBoth left right
  left_calls left right good free =
      let same : or_call (call_in here left) (call_in here right) ≡ call_in here left = ap (or_call (call_in here left)) (no_call here right free) ∙ or_none (call_in here left) in
      (subst (CallHolds sig quiet) (sym same) good.0, λ k answer. (good.1 k (answer ∙ ap (answer_of sig) same), free_gives here k right free))

  right_calls : (left right : Expression) → Good right → has_call left ≡ false → GoodBoth left right
  right_calls left right good free =
      let same : or_call (call_in here left) (call_in here right) ≡ call_in here right = ap (λ c. or_call c (call_in here right)) (no_call here left free) in
      (subst (CallHolds sig quiet) (sym same) good.0, λ k answer. (free_gives here k left free, good.1 k (answer ∙ ap (answer_of sig) same)))

  comparison_good : (left right : Expression) (a b : ExpressionType) → is_sound words left ≡ true → is_sound words right ≡ true
      → type_of (context_of here) left ≡ Some a → type_of (context_of here) right ≡ Some b → is_scalar a ≡ true → is_scalar b ≡ true
      → is_comparison (context_of here) left right ≡ true → GoodBoth left right
  comparison_good left right a b sound_left sound_right is_left is_right scalar_left scalar_right h =
      one_of (is_compared (context_of here) left right) _ h
      (λ c. let both = both_true (is_call left) (is_some (constant_of (context_of here) right)) c in
      left_calls left right (whole_good left a sound_left (call_whole left both.0) is_left (small_scalar a scalar_left)) (constant_free (context_of here) right both.1))
      (λ d. one_of (is_compared (context_of here) right left) (is_free left && is_free right) d
      (λ c. let both = both_true (is_call right) (is_some (constant_of (context_of here) left)) c in
      right_calls left right (whole_good right b sound_right (call_whole right both.0) is_right (small_scalar b scalar_right)) (constant_free (context_of here) left both.1))
      (λ f. let both = both_true (is_free left) (is_free right) f in
      let free = not_true (has_call right) both.1 in
      let other = not_true (has_call left) both.0 in
      left_calls left right (free_holding left other, λ k answer. free_gives here k left other) free))

  -- what a comparison's sides are
  compared_sides : (o : BinaryOp) (left right : Expression) (t : ExpressionType) → ((a b : Option ExpressionType) → breaks_binary o a b ≡ breaks_comparison a b)
      → unless (breaks_binary o (type_of (context_of here) left) (type_of (context_of here) right)) (both (binary_type o) (type_of (context_of here) left) (type_of (context_of here) right)) ≡ Some t
      → is_sound words left ≡ true → is_sound words right ≡ true → is_comparison (context_of here) left right ≡ true → GoodBoth left right
  compared_sides o left right t rule is sound_left sound_right h =
      let x = type_of (context_of here) left in
      let y = type_of (context_of here) right in
      let parts = of_two (binary_type o) (breaks_binary o x y) x y t is in
      let a = parts.1.0.0 in
      let b = parts.1.1.0 in
      let breaks : breaks_comparison (Some a) (Some b) ≡ false =
      sym (ap₂ breaks_comparison parts.1.0.1 parts.1.1.1) ∙ sym (rule x y) ∙ parts.0 in
      let scalars = neither (not (is_scalar a)) (not (is_scalar b)) (neither (not (is_scalar a) || not (is_scalar b)) (not (comparable a b)) breaks).0 in
      comparison_good left right a b sound_left sound_right parts.1.0.1 parts.1.1.1 (not_false (is_scalar a) scalars.0) (not_false (is_scalar b) scalars.1) h

  not_good : (inner : Expression) (span : Span) (t : ExpressionType) → is_sound words inner ≡ true → is_whole inner ≡ true
      → unless (breaks_prefix prefix.Not (type_of (context_of here) inner)) (option_map (prefix_type prefix.Not) (type_of (context_of here) inner)) ≡ Some t → Good inner
  not_good inner span t sound whole is =
      let x = type_of (context_of here) inner in
      let parts = of_one (prefix_type prefix.Not) (breaks_prefix prefix.Not x) x t is in
      let scalar : breaks_prefix prefix.Not (Some parts.1.0) ≡ false = subst (λ y. breaks_prefix prefix.Not y ≡ false) parts.1.1 parts.0 in
      whole_good inner parts.1.0 sound whole parts.1.1 (small_scalar parts.1.0 (not_false (is_scalar parts.1.0) scalar))

  pub condition_good : (e : Expression) (t : ExpressionType) → is_sound words e ≡ true → is_condition (context_of here) e ≡ true → type_of (context_of here) e ≡ Some t → is_scalar t ≡ true → Good e
  unfolding type_of call_in
  condition_good (unary prefix.Not inner span) t sound h is scalar = not_good inner span t sound h is
  condition_good (binary op.Equal left right span) t sound h is scalar =
      let s = both_true (is_sound words left) (is_sound words right) sound in compared_sides op.Equal left right t (λ a b. refl) is s.0 s.1 h
  condition_good (binary op.Unequal left right span) t sound h is scalar =
      let s = both_true (is_sound words left) (is_sound words right) sound in compared_sides op.Unequal left right t (λ a b. refl) is s.0 s.1 h
  condition_good (unary prefix.Minus inner span) t sound h is scalar = whole_good (unary prefix.Minus inner span) t sound h is (small_scalar t scalar)
  condition_good (unary prefix.Flip inner span) t sound h is scalar = whole_good (unary prefix.Flip inner span) t sound h is (small_scalar t scalar)
  condition_good (unary prefix.Address inner span) t sound h is scalar = whole_good (unary prefix.Address inner span) t sound h is (small_scalar t scalar)
  condition_good (unary prefix.Follow inner span) t sound h is scalar = whole_good (unary prefix.Follow inner span) t sound h is (small_scalar t scalar)
  condition_good (number n u span) t sound h is scalar = whole_good (number n u span) t sound h is (small_scalar t scalar)
  condition_good (null span) t sound h is scalar = whole_good (null span) t sound h is (small_scalar t scalar)
  condition_good (named name span) t sound h is scalar = whole_good (named name span) t sound h is (small_scalar t scalar)
  condition_good (call callee args span) t sound h is scalar = whole_good (call callee args span) t sound h is (small_scalar t scalar)
  condition_good (field base name arrow span) t sound h is scalar = whole_good (field base name arrow span) t sound h is (small_scalar t scalar)
  condition_good (index base at span) t sound h is scalar = whole_good (index base at span) t sound h is (small_scalar t scalar)
  condition_good (binary op.Or left right span) t sound h is scalar = whole_good (binary op.Or left right span) t sound h is (small_scalar t scalar)
  condition_good (binary op.And left right span) t sound h is scalar = whole_good (binary op.And left right span) t sound h is (small_scalar t scalar)
  condition_good (binary op.BitOr left right span) t sound h is scalar = whole_good (binary op.BitOr left right span) t sound h is (small_scalar t scalar)
  condition_good (binary op.BitXor left right span) t sound h is scalar = whole_good (binary op.BitXor left right span) t sound h is (small_scalar t scalar)
  condition_good (binary op.BitAnd left right span) t sound h is scalar = whole_good (binary op.BitAnd left right span) t sound h is (small_scalar t scalar)
  condition_good (binary op.Less left right span) t sound h is scalar = whole_good (binary op.Less left right span) t sound h is (small_scalar t scalar)
  condition_good (binary op.More left right span) t sound h is scalar = whole_good (binary op.More left right span) t sound h is (small_scalar t scalar)
  condition_good (binary op.LessEqual left right span) t sound h is scalar = whole_good (binary op.LessEqual left right span) t sound h is (small_scalar t scalar)
  condition_good (binary op.MoreEqual left right span) t sound h is scalar = whole_good (binary op.MoreEqual left right span) t sound h is (small_scalar t scalar)
  condition_good (binary op.Plus left right span) t sound h is scalar = whole_good (binary op.Plus left right span) t sound h is (small_scalar t scalar)
  condition_good (binary op.Minus left right span) t sound h is scalar = whole_good (binary op.Minus left right span) t sound h is (small_scalar t scalar)
  condition_good (binary op.Times left right span) t sound h is scalar = whole_good (binary op.Times left right span) t sound h is (small_scalar t scalar)
  condition_good (binary op.Divide left right span) t sound h is scalar = whole_good (binary op.Divide left right span) t sound h is (small_scalar t scalar)
  condition_good (binary op.Remainder left right span) t sound h is scalar = whole_good (binary op.Remainder left right span) t sound h is (small_scalar t scalar)
