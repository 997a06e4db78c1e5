-- Values that may be calls fit, so do the arguments of their calls, and beside a call stand constants alone.
use Rattle.std.proofs.Common.{◌≡◌, ◌∙◌, ℕ, Bool, true, false, not, ◌&&◌, ◌||◌, List, Option, Some, None, IsSome, is_some, if◌then◌else◌}
use Rattle.std.proofs.Common.{refl, sym, ap, ap₂, subst, inl, inr}
use Rattle.tsa_tree.specs.declared.expr.BinaryOp.{BinaryOp}
use Rattle.tsa_tree.specs.declared.expr.BinaryOp.TheVariants as op
use Rattle.tsa_tree.specs.declared.expr.UnaryOp.TheVariants as prefix
use Rattle.tsa_tree.specs.declared.kind.ExpressionType.{ExpressionType}
use Rattle.tsa_tree.specs.declared.kind.Kind.{Kind}
use Rattle.tsa_tree.specs.declared.kind.Kind.TheVariants as type
use Rattle.tsa_tree.specs.declared.kind.ThingType.{ThingType}
use Rattle.tsa_tree.specs.declared.meaning.Entry.{Entry}
use Rattle.tsa_tree.specs.declared.meaning.Meaning.{Meaning}
use Rattle.tsa_tree.specs.declared.meaning.Meaning.TheVariants as known
use Rattle.tsa_tree.specs.expressions.Sound.{Words, SoundExpression, is_sound, are_sound}
use Rattle.tsa_tree.specs.expressions.Syntax.{Expression, number, null, named, call, unary, binary, field, index}
use Rattle.tsa_tree.specs.types.Constants.{constant_of, enumerator, is_known_enumerator, is_made_of_constants, worked, without_trap}
use Rattle.tsa_tree.specs.types.Expressions.{type_of}
use Rattle.tsa_tree.specs.types.Operands.{integer_kind, pointer_kind, unsigned_kind, breaks_prefix, breaks_binary, prefix_type, binary_type}
use Rattle.tsa_tree.specs.types.Runnable.{has_call, have_call, is_free, is_whole, is_call, is_compared, is_comparison, is_condition}
use Rattle.tsa_tree.specs.types.Scopes.{Scope, context_of, known_in}
use Rattle.tsa_tree.specs.types.Lookups.{params_in}
use Rattle.tsa_place_model.specs.Calls.{Layout}
use Rattle.tsa_core.specs.Kinds.{Belongs}
use Rattle.tsa_core.specs.Meanings.{Call, loaded, of_name, of_call, beside, operands, as_kind, null_pointer, call_of, call_in, or_call}
use Rattle.tsa_core.specs.Meanings.{meaning}
use Rattle.tsa_core.specs.Meanings as meant
use Rattle.tsa_core.specs.PointKinds.{at_point}
use Rattle.tsa_core.specs.Terms.{Term, converted, joined, Sense}
use Rattle.tsa_core.proofs.CallsHold.{call_called, call_whole}
use Rattle.tsa_core.proofs.KindTests.{both_true, not_true, one_of}
use Rattle.tsa_core.proofs.KindsOfTerms.{of_one, of_two}
use Rattle.tsa_core.proofs.TypedTerms.{some_same}
use Rattle.tsa_core.proofs.ValuesServe.{no_call, constant_free}
use Rattle.tsa_profile.proofs.NumbersFit.{IsSmall}
use Rattle.tsa_sound.specs.TermFacts.{AllFit, Loads, TermFits}
use Rattle.tsa_sound_accepted.proofs.terms.CellsAsked.{AddressesFree}
use Rattle.tsa_sound_accepted.proofs.terms.TermsFit.{fits, operands_fit, arguments_fit}
use Rattle.tsa_base.proofs.Truths.{never}

-- a value that loads nothing
abbrev pub IsQuiet : Term → Type 0
IsQuiet x = (b : Bool) (q : Term) → Loads x b q → ⊥

pub beside_quiet : (other : Kind) (s : Sense) → IsQuiet (loaded s) → IsQuiet (beside other s)
beside_quiet other s h = by (pointer_kind other && integer_kind s.type.thing.kind)
  where
    by : (b : Bool) → IsQuiet (if b then null_pointer else loaded s)
    by true c q g = g
    by false c q g = h c q g

operands_quiet : (o : BinaryOp) (x y : Sense) → IsQuiet (loaded x) → IsQuiet (loaded y) → IsQuiet (operands o x y)
operands_quiet o x y h g = by o
  where
    plainly : IsQuiet (joined o (loaded x) (loaded y))
    plainly b q (inl f) = h b q f
    plainly b q (inr f) = g b q f

    compared : IsQuiet (joined o (beside y.type.thing.kind x) (beside x.type.thing.kind y))
    compared b q (inl f) = beside_quiet y.type.thing.kind x h b q f
    compared b q (inr f) = beside_quiet x.type.thing.kind y g b q f

    by : (o : BinaryOp) → IsQuiet (operands o x y)
    by op.Or b q f = plainly b q f
    by op.And b q f = plainly b q f
    by op.BitOr b q f = plainly b q f
    by op.BitXor b q f = plainly b q f
    by op.BitAnd b q f = plainly b q f
    by op.Equal b q f = compared b q f
    by op.Unequal b q f = compared b q f
    by op.Less b q f = plainly b q f
    by op.More b q f = plainly b q f
    by op.LessEqual b q f = plainly b q f
    by op.MoreEqual b q f = plainly b q f
    by op.Plus b q f = plainly b q f
    by op.Minus b q f = plainly b q f
    by op.Times b q f = plainly b q f
    by op.Divide b q f = plainly b q f
    by op.Remainder b q f = plainly b q f

pub as_kind_quiet : (kind : Kind) (s : Sense) → IsQuiet (loaded s) → IsQuiet (as_kind kind s)
as_kind_quiet type.Int s h = by (unsigned_kind s.type.thing.kind)
  where
    by : (b : Bool) → IsQuiet (if b then converted type.Int (loaded s) else loaded s)
    by true c q g = h c q g
    by false c q g = h c q g
as_kind_quiet type.Unsigned s h = by (meant.is_int s.type.thing.kind)
  where
    by : (b : Bool) → IsQuiet (if b then converted type.Unsigned (loaded s) else loaded s)
    by true c q g = h c q g
    by false c q g = h c q g
as_kind_quiet type.Void s h = beside_quiet type.Void s h
as_kind_quiet (type.Structure n) s h = beside_quiet (type.Structure n) s h
as_kind_quiet (type.Pointer n c) s h = beside_quiet (type.Pointer n c) s h
as_kind_quiet type.Null s h = beside_quiet type.Null s h
as_kind_quiet type.Function s h = beside_quiet type.Function s h

module _ (here : Scope) where
  -- what a call gives, and a constant, load nothing
  answer_quiet : (o : Option Entry) → IsQuiet (loaded (of_call o))
  answer_quiet None b q h = h
  answer_quiet (Some x) b q h = h

  name_quiet : (o : Option Entry) → is_known_enumerator (enumerator o) ≡ true → IsQuiet (loaded (of_name o))
  name_quiet None h b q f = f
  name_quiet (Some x) h b q f = by x.meaning x.thing h f
    where
      by : (m : Meaning) (t : ThingType) → is_known_enumerator (enumerator (Some (record { meaning = m; thing = t }))) ≡ true
          → Loads (loaded (of_name (Some (record { meaning = m; thing = t })))) b q → ⊥
      by (known.Constant z) t g f = f
      by (known.Global n) t g f = never (sym g)
      by (known.Local n) t g f = never (sym g)
      by (known.Function n) t g f = never (sym g)
      by known.Owned t g f = never (sym g)
      by known.TypeName t g f = never (sym g)

  joined_value : (o : BinaryOp) (x y : Sense) → IsQuiet (operands o x y) → IsQuiet (loaded (meant.of_binary o x y))
  joined_value o x y h = by o h
    where
      by : (o : BinaryOp) → IsQuiet (operands o x y) → IsQuiet (loaded (meant.of_binary o x y))
      by op.Or h = h
      by op.And h = h
      by op.BitOr h = h
      by op.BitXor h = h
      by op.BitAnd h = h
      by op.Equal h = h
      by op.Unequal h = h
      by op.Less h = h
      by op.More h = h
      by op.LessEqual h = h
      by op.MoreEqual h = h
      by op.Plus h = h
      by op.Minus h = h
      by op.Times h = h
      by op.Divide h = h
      by op.Remainder h = h

  made_quiet : (e : Expression) → is_made_of_constants (context_of here) e ≡ true → IsQuiet (loaded (meaning here e))
  unfolding meaning
  made_quiet (number n u span) h b q f = f
  made_quiet (null span) h b q f = never (sym h)
  made_quiet (named name span) h b q f = name_quiet (known_in here name.text) h b q f
  made_quiet (call callee args span) h b q f = never (sym h)
  made_quiet (unary prefix.Minus inner span) h b q f = made_quiet inner h b q f
  made_quiet (unary prefix.Not inner span) h b q f = made_quiet inner h b q f
  made_quiet (unary prefix.Flip inner span) h b q f = made_quiet inner h b q f
  made_quiet (unary prefix.Address inner span) h b q f = never (sym h)
  made_quiet (unary prefix.Follow inner span) h b q f = never (sym h)
  made_quiet (binary o left right span) h b q f =
      let both = both_true (is_made_of_constants (context_of here) left) (is_made_of_constants (context_of here) right) h in
      joined_value o (meaning here left) (meaning here right)
      (operands_quiet o (meaning here left) (meaning here right) (λ c p g. made_quiet left both.0 c p g) (λ c p g. made_quiet right both.1 c p g)) b q f
  made_quiet (field base name arrow span) h b q f = never (sym h)
  made_quiet (index base at span) h b q f = never (sym h)

  pub constant_made : (e : Expression) → is_some (constant_of (context_of here) e) ≡ true → is_made_of_constants (context_of here) e ≡ true
  unfolding constant_of
  constant_made e h = by (is_made_of_constants (context_of here) e) h
    where
      by : (b : Bool) → is_some (if b then without_trap (worked (context_of here) e) else None) ≡ true → b ≡ true
      by true g = refl
      by false g = never (sym g)

  pub constant_quiet : (e : Expression) → is_some (constant_of (context_of here) e) ≡ true → IsQuiet (loaded (meaning here e))
  constant_quiet e h = made_quiet e (constant_made e h)

  -- an expression without a call makes none
  pub no_call_made : {A : Type 0} (e : Expression) → has_call e ≡ false → IsSome (call_in here e) → A
  no_call_made e free h = never (sym (subst IsSome (no_call here e free) h))

  pub whole_quiet : (e : Expression) → is_whole e ≡ true → IsSome (call_in here e) → IsQuiet (loaded (meaning here e))
  unfolding meaning
  whole_quiet (call callee args span) whole h = answer_quiet (known_in here callee.text)
  whole_quiet (number n u span) whole h = no_call_made (number n u span) refl h
  whole_quiet (null span) whole h = no_call_made (null span) refl h
  whole_quiet (named name span) whole h = no_call_made (named name span) refl h
  whole_quiet (unary o inner span) whole h = no_call_made (unary o inner span) (not_true (has_call inner) whole) h
  whole_quiet (binary o left right span) whole h = no_call_made (binary o left right span) (not_true (has_call left || has_call right) whole) h
  whole_quiet (field base name arrow span) whole h = no_call_made (field base name arrow span) (not_true (has_call base) whole) h
  whole_quiet (index base at span) whole h = no_call_made (index base at span) (not_true (has_call base || has_call at) whole) h

  call_quiet : (e : Expression) → is_call e ≡ true → IsQuiet (loaded (meaning here e))
  unfolding meaning
  call_quiet (call callee args span) h = answer_quiet (known_in here callee.text)
  call_quiet (number n u span) h = never (sym h)
  call_quiet (null span) h = never (sym h)
  call_quiet (named name span) h = never (sym h)
  call_quiet (unary o inner span) h = never (sym h)
  call_quiet (binary o left right span) h = never (sym h)
  call_quiet (field base name arrow span) h = never (sym h)
  call_quiet (index base at span) h = never (sym h)

  compared_quiet : (o : BinaryOp) (left right : Expression) → is_comparison (context_of here) left right ≡ true → (has_call left ≡ false → has_call right ≡ false → ⊥)
      → IsQuiet (operands o (meaning here left) (meaning here right))
  compared_quiet o left right h some =
      one_of (is_compared (context_of here) left right) (is_compared (context_of here) right left || (is_free left && is_free right)) h
      (λ g. let both = both_true (is_call left) (is_some (constant_of (context_of here) right)) g in
      operands_quiet o (meaning here left) (meaning here right) (call_quiet left both.0) (constant_quiet right both.1))
      (λ g.
      one_of (is_compared (context_of here) right left) (is_free left && is_free right) g
      (λ f. let both = both_true (is_call right) (is_some (constant_of (context_of here) left)) f in
      operands_quiet o (meaning here left) (meaning here right) (constant_quiet left both.1) (call_quiet right both.0))
      (λ f. let both = both_true (is_free left) (is_free right) f in absurd (some (not_true (has_call left) both.0) (not_true (has_call right) both.1))))

  pub either_called : (left right : Expression) → IsSome (or_call (call_in here left) (call_in here right)) → has_call left ≡ false → has_call right ≡ false → ⊥
  either_called left right h f g = never (sym (subst IsSome (ap₂ or_call (no_call here left f) (no_call here right g)) h))

  -- beside the call of a test stand constants alone
  pub condition_quiet : (e : Expression) → is_condition (context_of here) e ≡ true → IsSome (call_in here e) → IsQuiet (loaded (meaning here e))
  unfolding meaning call_in
  condition_quiet (unary prefix.Not x span) h c = whole_quiet x h c
  condition_quiet (binary op.Equal left right span) h c = compared_quiet op.Equal left right h (either_called left right c)
  condition_quiet (binary op.Unequal left right span) h c = compared_quiet op.Unequal left right h (either_called left right c)
  condition_quiet (unary prefix.Minus x span) h c = never (sym c)
  condition_quiet (unary prefix.Flip x span) h c = never (sym c)
  condition_quiet (unary prefix.Address x span) h c = never (sym c)
  condition_quiet (unary prefix.Follow x span) h c = never (sym c)
  condition_quiet (binary op.Or left right span) h c = never (sym c)
  condition_quiet (binary op.And left right span) h c = never (sym c)
  condition_quiet (binary op.BitOr left right span) h c = never (sym c)
  condition_quiet (binary op.BitXor left right span) h c = never (sym c)
  condition_quiet (binary op.BitAnd left right span) h c = never (sym c)
  condition_quiet (binary op.Less left right span) h c = never (sym c)
  condition_quiet (binary op.More left right span) h c = never (sym c)
  condition_quiet (binary op.LessEqual left right span) h c = never (sym c)
  condition_quiet (binary op.MoreEqual left right span) h c = never (sym c)
  condition_quiet (binary op.Plus left right span) h c = never (sym c)
  condition_quiet (binary op.Minus left right span) h c = never (sym c)
  condition_quiet (binary op.Times left right span) h c = never (sym c)
  condition_quiet (binary op.Divide left right span) h c = never (sym c)
  condition_quiet (binary op.Remainder left right span) h c = never (sym c)
  condition_quiet (number n u span) h c = never (sym c)
  condition_quiet (null span) h c = never (sym c)
  condition_quiet (named name span) h c = never (sym c)
  condition_quiet (call callee args span) h c = answer_quiet (known_in here callee.text)
  condition_quiet (field base name arrow span) h c = never (sym c)
  condition_quiet (index base at span) h c = never (sym c)

  -- each side of a comparison is a call, a constant, or has no call
  pub sides_whole : (left right : Expression) → is_comparison (context_of here) left right ≡ true → (is_whole left ≡ true) × (is_whole right ≡ true)
  sides_whole left right h =
      one_of (is_compared (context_of here) left right) (is_compared (context_of here) right left || (is_free left && is_free right)) h
      (λ g. let both = both_true (is_call left) (is_some (constant_of (context_of here) right)) g in
      (call_whole left both.0, free_whole right (constant_free (context_of here) right both.1)))
      (λ g.
      one_of (is_compared (context_of here) right left) (is_free left && is_free right) g
      (λ f. let both = both_true (is_call right) (is_some (constant_of (context_of here) left)) f in
      (free_whole left (constant_free (context_of here) left both.1), call_whole right both.0))
      (λ f. let both = both_true (is_free left) (is_free right) f in
      (free_whole left (not_true (has_call left) both.0), free_whole right (not_true (has_call right) both.1))))
    where
      free_whole : (e : Expression) → has_call e ≡ false → is_whole e ≡ true
      free_whole (call callee args span) f = never f
      free_whole (number n u span) f = refl
      free_whole (null span) f = refl
      free_whole (named name span) f = refl
      free_whole (unary o inner span) f = ap not f
      free_whole (binary o left right span) f = ap not f
      free_whole (field base name arrow span) f = ap not f
      free_whole (index base at span) f = ap not f

  -- Values that may be calls, and the arguments of these.
  module _ (l : Layout) (locals : ℕ → Option Kind) (bel : (given : Option Kind) → Belongs here (at_point l locals given)) (stable : ℕ → Bool) (words : Words)
      (small : (name : List ℕ) → IsSmall (enumerator (known_in here name)))
    where
      abbrev Fits : Option Kind → Term → Type 0
      Fits given x = TermFits (at_point l locals given) stable x

      answer_fits : (given : Option Kind) (o : Option Entry) → Fits given (loaded (of_call o))
      answer_fits given None = tt
      answer_fits given (Some x) = tt

      free_fits : (given : Option Kind) (e : Expression) (t : ExpressionType) → SoundExpression words e → has_call e ≡ false → AddressesFree l stable here e
          → type_of (context_of here) e ≡ Some t → Fits given (loaded (meaning here e))
      free_fits given e t sound free addresses is = (fits here (at_point l locals given) (bel given) stable words small e sound free addresses t is).value

      pub whole_fits : (given : Option Kind) (e : Expression) (t : ExpressionType) → is_whole e ≡ true → SoundExpression words e → AddressesFree l stable here e
          → type_of (context_of here) e ≡ Some t → Fits given (loaded (meaning here e))
      unfolding meaning
      whole_fits given (call callee args span) t whole sound addresses is = answer_fits given (known_in here callee.text)
      whole_fits given (number n u span) t whole sound addresses is = free_fits given (number n u span) t sound refl addresses is
      whole_fits given (null span) t whole sound addresses is = free_fits given (null span) t sound refl addresses is
      whole_fits given (named name span) t whole sound addresses is = free_fits given (named name span) t sound refl addresses is
      whole_fits given (unary o inner span) t whole sound addresses is = free_fits given (unary o inner span) t sound (not_true (has_call inner) whole) addresses is
      whole_fits given (binary o left right span) t whole sound addresses is =
          free_fits given (binary o left right span) t sound (not_true (has_call left || has_call right) whole) addresses is
      whole_fits given (field base name arrow span) t whole sound addresses is =
          free_fits given (field base name arrow span) t sound (not_true (has_call base) whole) addresses is
      whole_fits given (index base at span) t whole sound addresses is =
          free_fits given (index base at span) t sound (not_true (has_call base || has_call at) whole) addresses is

      compared_fits : (given : Option Kind) (o : BinaryOp) (left right : Expression) (x y : ExpressionType) → SoundExpression words left → SoundExpression words right
          → AddressesFree l stable here left → AddressesFree l stable here right → type_of (context_of here) left ≡ Some x → type_of (context_of here) right ≡ Some y
          → is_comparison (context_of here) left right ≡ true → Fits given (operands o (meaning here left) (meaning here right))
      compared_fits given o left right x y sound other a b is as_well h =
          let sides = sides_whole left right h in
          operands_fit here (at_point l locals given) (bel given) stable words small o (meaning here left) (meaning here right)
          (whole_fits given left x sides.0 sound a is) (whole_fits given right y sides.1 other b as_well)

      pub condition_fits : (given : Option Kind) (e : Expression) (t : ExpressionType) → is_condition (context_of here) e ≡ true → SoundExpression words e
          → AddressesFree l stable here e → type_of (context_of here) e ≡ Some t → Fits given (loaded (meaning here e))
      unfolding type_of meaning
      condition_fits given (unary prefix.Not x span) t h sound addresses is =
          let parts = of_one (prefix_type prefix.Not) (breaks_prefix prefix.Not (type_of (context_of here) x)) (type_of (context_of here) x) t is in
          whole_fits given x parts.1.0 h sound addresses parts.1.1
      condition_fits given (binary op.Equal left right span) t h sound addresses is =
          let x = type_of (context_of here) left in
          let y = type_of (context_of here) right in
          let parts = of_two (binary_type op.Equal) (breaks_binary op.Equal x y) x y t is in
          let s = both_true (is_sound words left) (is_sound words right) sound in
          compared_fits given op.Equal left right parts.1.0.0 parts.1.1.0 s.0 s.1 addresses.0 addresses.1 parts.1.0.1 parts.1.1.1 h
      condition_fits given (binary op.Unequal left right span) t h sound addresses is =
          let x = type_of (context_of here) left in
          let y = type_of (context_of here) right in
          let parts = of_two (binary_type op.Unequal) (breaks_binary op.Unequal x y) x y t is in
          let s = both_true (is_sound words left) (is_sound words right) sound in
          compared_fits given op.Unequal left right parts.1.0.0 parts.1.1.0 s.0 s.1 addresses.0 addresses.1 parts.1.0.1 parts.1.1.1 h
      condition_fits given (unary prefix.Minus x span) t h sound addresses is = whole_fits given (unary prefix.Minus x span) t h sound addresses is
      condition_fits given (unary prefix.Flip x span) t h sound addresses is = whole_fits given (unary prefix.Flip x span) t h sound addresses is
      condition_fits given (unary prefix.Address x span) t h sound addresses is = whole_fits given (unary prefix.Address x span) t h sound addresses is
      condition_fits given (unary prefix.Follow x span) t h sound addresses is = whole_fits given (unary prefix.Follow x span) t h sound addresses is
      condition_fits given (binary op.Or a b span) t h sound addresses is = whole_fits given (binary op.Or a b span) t h sound addresses is
      condition_fits given (binary op.And a b span) t h sound addresses is = whole_fits given (binary op.And a b span) t h sound addresses is
      condition_fits given (binary op.BitOr a b span) t h sound addresses is = whole_fits given (binary op.BitOr a b span) t h sound addresses is
      condition_fits given (binary op.BitXor a b span) t h sound addresses is = whole_fits given (binary op.BitXor a b span) t h sound addresses is
      condition_fits given (binary op.BitAnd a b span) t h sound addresses is = whole_fits given (binary op.BitAnd a b span) t h sound addresses is
      condition_fits given (binary op.Less a b span) t h sound addresses is = whole_fits given (binary op.Less a b span) t h sound addresses is
      condition_fits given (binary op.More a b span) t h sound addresses is = whole_fits given (binary op.More a b span) t h sound addresses is
      condition_fits given (binary op.LessEqual a b span) t h sound addresses is = whole_fits given (binary op.LessEqual a b span) t h sound addresses is
      condition_fits given (binary op.MoreEqual a b span) t h sound addresses is = whole_fits given (binary op.MoreEqual a b span) t h sound addresses is
      condition_fits given (binary op.Plus a b span) t h sound addresses is = whole_fits given (binary op.Plus a b span) t h sound addresses is
      condition_fits given (binary op.Minus a b span) t h sound addresses is = whole_fits given (binary op.Minus a b span) t h sound addresses is
      condition_fits given (binary op.Times a b span) t h sound addresses is = whole_fits given (binary op.Times a b span) t h sound addresses is
      condition_fits given (binary op.Divide a b span) t h sound addresses is = whole_fits given (binary op.Divide a b span) t h sound addresses is
      condition_fits given (binary op.Remainder a b span) t h sound addresses is = whole_fits given (binary op.Remainder a b span) t h sound addresses is
      condition_fits given (number n u span) t h sound addresses is = whole_fits given (number n u span) t h sound addresses is
      condition_fits given (null span) t h sound addresses is = whole_fits given (null span) t h sound addresses is
      condition_fits given (named name span) t h sound addresses is = whole_fits given (named name span) t h sound addresses is
      condition_fits given (call callee args span) t h sound addresses is = whole_fits given (call callee args span) t h sound addresses is
      condition_fits given (field base name arrow span) t h sound addresses is = whole_fits given (field base name arrow span) t h sound addresses is
      condition_fits given (index base at span) t h sound addresses is = whole_fits given (index base at span) t h sound addresses is

      -- the arguments of the call of an expression
      abbrev pub CallFits : Option Call → Type 0
      CallFits o = (c : Call) → o ≡ Some c → AllFit (at_point l locals None) stable c.args

      none_fits : (o : Option Call) → o ≡ None → CallFits o
      none_fits o e c f = let g = sym e ∙ f in absurd cc

      or_fits : (o p : Option Call) → CallFits o → CallFits p → CallFits (or_call o p)
      or_fits None p h g c f = g c f
      or_fits (Some x) p h g c f = h c f

      pub whole_call_fits : (e : Expression) (t : ExpressionType) → is_whole e ≡ true → SoundExpression words e → AddressesFree l stable here e → type_of (context_of here) e ≡ Some t
          → CallFits (call_in here e)
      unfolding call_in
      whole_call_fits (call callee args span) t whole sound addresses is =
          let typed = call_called here callee args span t is in λ c f.
          subst (λ x. AllFit (at_point l locals None) stable x.args) (some_same (sym (ap (call_of here args) typed.known) ∙ f))
          (arguments_fit here (at_point l locals None) (bel None) stable words small (params_in here typed.n) args (both_true _ (are_sound words args) sound).1
          (not_true (have_call args) whole) addresses typed.all)
      whole_call_fits (number n u span) t whole sound addresses is = none_fits (call_in here (number n u span)) (no_call here (number n u span) refl)
      whole_call_fits (null span) t whole sound addresses is = none_fits (call_in here (null span)) (no_call here (null span) refl)
      whole_call_fits (named name span) t whole sound addresses is = none_fits (call_in here (named name span)) (no_call here (named name span) refl)
      whole_call_fits (unary o inner span) t whole sound addresses is =
          none_fits (call_in here (unary o inner span)) (no_call here (unary o inner span) (not_true (has_call inner) whole))
      whole_call_fits (binary o left right span) t whole sound addresses is =
          none_fits (call_in here (binary o left right span)) (no_call here (binary o left right span) (not_true (has_call left || has_call right) whole))
      whole_call_fits (field base name arrow span) t whole sound addresses is =
          none_fits (call_in here (field base name arrow span)) (no_call here (field base name arrow span) (not_true (has_call base) whole))
      whole_call_fits (index base at span) t whole sound addresses is =
          none_fits (call_in here (index base at span)) (no_call here (index base at span) (not_true (has_call base || has_call at) whole))

      sides_call_fit : (left right : Expression) (x y : ExpressionType) → SoundExpression words left → SoundExpression words right
          → AddressesFree l stable here left → AddressesFree l stable here right → type_of (context_of here) left ≡ Some x → type_of (context_of here) right ≡ Some y
          → is_comparison (context_of here) left right ≡ true → CallFits (or_call (call_in here left) (call_in here right))
      sides_call_fit left right x y sound other a b is as_well h =
          let sides = sides_whole left right h in
          or_fits (call_in here left) (call_in here right) (whole_call_fits left x sides.0 sound a is) (whole_call_fits right y sides.1 other b as_well)

      pub condition_call_fits : (e : Expression) (t : ExpressionType) → is_condition (context_of here) e ≡ true → SoundExpression words e → AddressesFree l stable here e
          → type_of (context_of here) e ≡ Some t → CallFits (call_in here e)
      unfolding type_of call_in
      condition_call_fits (unary prefix.Not x span) t h sound addresses is =
          let parts = of_one (prefix_type prefix.Not) (breaks_prefix prefix.Not (type_of (context_of here) x)) (type_of (context_of here) x) t is in
          whole_call_fits x parts.1.0 h sound addresses parts.1.1
      condition_call_fits (binary op.Equal left right span) t h sound addresses is =
          let x = type_of (context_of here) left in
          let y = type_of (context_of here) right in
          let parts = of_two (binary_type op.Equal) (breaks_binary op.Equal x y) x y t is in
          let s = both_true (is_sound words left) (is_sound words right) sound in
          sides_call_fit left right parts.1.0.0 parts.1.1.0 s.0 s.1 addresses.0 addresses.1 parts.1.0.1 parts.1.1.1 h
      condition_call_fits (binary op.Unequal left right span) t h sound addresses is =
          let x = type_of (context_of here) left in
          let y = type_of (context_of here) right in
          let parts = of_two (binary_type op.Unequal) (breaks_binary op.Unequal x y) x y t is in
          let s = both_true (is_sound words left) (is_sound words right) sound in
          sides_call_fit left right parts.1.0.0 parts.1.1.0 s.0 s.1 addresses.0 addresses.1 parts.1.0.1 parts.1.1.1 h
      condition_call_fits (call callee args span) t h sound addresses is = whole_call_fits (call callee args span) t h sound addresses is
      condition_call_fits (unary prefix.Minus x span) t h sound addresses is = none_fits None refl
      condition_call_fits (unary prefix.Flip x span) t h sound addresses is = none_fits None refl
      condition_call_fits (unary prefix.Address x span) t h sound addresses is = none_fits None refl
      condition_call_fits (unary prefix.Follow x span) t h sound addresses is = none_fits None refl
      condition_call_fits (binary op.Or a b span) t h sound addresses is = none_fits None refl
      condition_call_fits (binary op.And a b span) t h sound addresses is = none_fits None refl
      condition_call_fits (binary op.BitOr a b span) t h sound addresses is = none_fits None refl
      condition_call_fits (binary op.BitXor a b span) t h sound addresses is = none_fits None refl
      condition_call_fits (binary op.BitAnd a b span) t h sound addresses is = none_fits None refl
      condition_call_fits (binary op.Less a b span) t h sound addresses is = none_fits None refl
      condition_call_fits (binary op.More a b span) t h sound addresses is = none_fits None refl
      condition_call_fits (binary op.LessEqual a b span) t h sound addresses is = none_fits None refl
      condition_call_fits (binary op.MoreEqual a b span) t h sound addresses is = none_fits None refl
      condition_call_fits (binary op.Plus a b span) t h sound addresses is = none_fits None refl
      condition_call_fits (binary op.Minus a b span) t h sound addresses is = none_fits None refl
      condition_call_fits (binary op.Times a b span) t h sound addresses is = none_fits None refl
      condition_call_fits (binary op.Divide a b span) t h sound addresses is = none_fits None refl
      condition_call_fits (binary op.Remainder a b span) t h sound addresses is = none_fits None refl
      condition_call_fits (number n u span) t h sound addresses is = none_fits None refl
      condition_call_fits (null span) t h sound addresses is = none_fits None refl
      condition_call_fits (named name span) t h sound addresses is = none_fits None refl
      condition_call_fits (field base name arrow span) t h sound addresses is = none_fits None refl
      condition_call_fits (index base at span) t h sound addresses is = none_fits None refl
