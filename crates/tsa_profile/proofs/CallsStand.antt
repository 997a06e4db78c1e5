-- Where calls stand in what the profile asks of an expression.
use Rattle.std.proofs.Common.{◌≡◌, ◌⊎◌, inl, inr, Bool, true, false, not, ◌&&◌, ◌||◌, ◌++◌, Option, Some, None, is_some, refl, sym, subst}
use Rattle.tsa_base.specs.declared.token.Span.{Span}
use Rattle.tsa_base.proofs.Truths.{never, or_right}
use Rattle.tsa_tree.specs.declared.expr.BinaryOp.{BinaryOp}
use Rattle.tsa_tree.specs.declared.expr.BinaryOp.TheVariants as op
use Rattle.tsa_tree.specs.declared.expr.UnaryOp.{UnaryOp}
use Rattle.tsa_tree.specs.declared.expr.UnaryOp.TheVariants as prefix
use Rattle.tsa_tree.specs.declared.kind.ExpressionType.{ExpressionType}
use Rattle.tsa_tree.specs.declared.number.Number.{Number}
use Rattle.tsa_tree.specs.expressions.Syntax.{Expression, Arguments, number, null, named, call, unary, binary, field, index, none, more}
use Rattle.tsa_tree.specs.types.Constants.{constant_of}
use Rattle.tsa_tree.specs.types.DeclaredTypes.{typed_value}
use Rattle.tsa_tree.specs.types.Expressions.{type_of}
use Rattle.tsa_tree.specs.types.Runnable.{has_call, have_call, is_free, is_whole, is_call, is_compared, is_comparison, is_condition}
use Rattle.tsa_tree.specs.types.Scopes.{context_of}
use Rattle.tsa_core.proofs.KindTests.{and_true, or_left}
use Rattle.tsa_profile_accesses.specs.declared.premise.ProfileCode.TheVariants.{PF1}
use Rattle.tsa_profile_accesses.specs.Premises.{first}
use Rattle.tsa_profile_accesses.specs.declared.standing.Standing.{Standing}
use Rattle.tsa_profile_accesses.specs.declared.standing.Standing.TheVariants.{Whole, Begins, Test, Operand, Inside}
use Rattle.tsa_profile_accesses.specs.Standing.{under_not, beside}
use Rattle.tsa_profile_accesses.specs.Expressions.{View, constant, own, parts, arguments, expression}
use Rattle.tsa_profile_guards.proofs.NoneFails.{none_of_both, none_of_first}

-- nothing fails at an expression or in its parts
abbrev pub Keeps : View → Standing → Bool → Expression → Type 0
Keeps v s b e = (first (own v s b e) ≡ None) × (first (parts v s e) ≡ None)

keeps : (v : View) (s : Standing) (b : Bool) (e : Expression) → first (own v s b e ++ parts v s e) ≡ None → Keeps v s b e
keeps v s b e h = none_of_both (own v s b e) (parts v s e) h

-- where no test stands, all parts stand inside
abbrev Plain : Standing → Type 0
Plain s = (under_not s ≡ Inside) × ((b : Bool) → beside s b ≡ Inside)

plain_inside : Plain Inside
plain_inside = (refl, λ b. refl)

plain_operand : Plain Operand
plain_operand = (refl, λ b. refl)

plain_whole : Plain Whole
plain_whole = (refl, λ b. refl)

plain_begins : Plain Begins
plain_begins = (refl, λ b. refl)

pub neither_has : (a b : Bool) → not a ≡ true → not b ≡ true → not (a || b) ≡ true
neither_has true b e f = never (sym e)
neither_has false b e f = f

-- what stands inside is no call itself
no_call : (v : View) (b : Bool) (e : Expression) → first (own v Inside b e) ≡ None → is_whole e ≡ true → is_free e ≡ true
no_call v b (number n u span) h w = w
no_call v b (null span) h w = w
no_call v b (named name span) h w = w
no_call v b (call name args span) h w = never (none_of_first PF1 span true _ h).0
no_call v b (unary o inner span) h w = w
no_call v b (binary o left right span) h w = w
no_call v b (field base name arrow span) h w = w
no_call v b (index base at span) h w = w

-- the sides of an operator, which stand inside
sides : (v : View) (s : Standing) → Plain s → (o : BinaryOp) (left right : Expression) (span : Span) → first (parts v s (binary o left right span)) ≡ None
    → Keeps v Inside true left × Keeps v Inside true right
unfolding parts
sides v s plain o left right span h = by o h
  where
    both : (t u : Standing) → t ≡ Inside → u ≡ Inside
        → first ((own v t true left ++ parts v t left) ++ (own v u true right ++ parts v u right)) ≡ None → Keeps v Inside true left × Keeps v Inside true right
    both t u e f h =
        let x = none_of_both (own v t true left ++ parts v t left) (own v u true right ++ parts v u right) h in
        (subst (λ y. Keeps v y true left) e (keeps v t true left x.0), subst (λ y. Keeps v y true right) f (keeps v u true right x.1))

    by : (o : BinaryOp) → first (parts v s (binary o left right span)) ≡ None → Keeps v Inside true left × Keeps v Inside true right
    by op.Equal h = both (beside s (is_some (constant v right))) (beside s (is_some (constant v left))) (plain.1 _) (plain.1 _) h
    by op.Unequal h = both (beside s (is_some (constant v right))) (beside s (is_some (constant v left))) (plain.1 _) (plain.1 _) h
    by op.Or h = both Inside Inside refl refl h
    by op.And h = both Inside Inside refl refl h
    by op.BitOr h = both Inside Inside refl refl h
    by op.BitXor h = both Inside Inside refl refl h
    by op.BitAnd h = both Inside Inside refl refl h
    by op.Less h = both Inside Inside refl refl h
    by op.More h = both Inside Inside refl refl h
    by op.LessEqual h = both Inside Inside refl refl h
    by op.MoreEqual h = both Inside Inside refl refl h
    by op.Plus h = both Inside Inside refl refl h
    by op.Minus h = both Inside Inside refl refl h
    by op.Times h = both Inside Inside refl refl h
    by op.Divide h = both Inside Inside refl refl h
    by op.Remainder h = both Inside Inside refl refl h

-- the operand of a prefix operator, which stands inside: at `&` its place is wanted
inner_side : (v : View) (s : Standing) → Plain s → (o : UnaryOp) (inner : Expression) (span : Span) → first (parts v s (unary o inner span)) ≡ None
    → (b : Bool) × Keeps v Inside b inner
unfolding parts
inner_side v s plain prefix.Address inner span h = (false, keeps v Inside false inner h)
inner_side v s plain prefix.Not inner span h = (true, subst (λ y. Keeps v y true inner) plain.0 (keeps v (under_not s) true inner h))
inner_side v s plain prefix.Minus inner span h = (true, keeps v Inside true inner h)
inner_side v s plain prefix.Flip inner span h = (true, keeps v Inside true inner h)
inner_side v s plain prefix.Follow inner span h = (true, keeps v Inside true inner h)

-- what stands in no test is one call that is the whole, or has none
mutual
  unfolding parts arguments

  parts_whole : (v : View) (s : Standing) → Plain s → (e : Expression) → first (parts v s e) ≡ None → is_whole e ≡ true
  parts_whole v s plain (number n u span) h = refl
  parts_whole v s plain (null span) h = refl
  parts_whole v s plain (named name span) h = refl
  parts_whole v s plain (call name args span) h = arguments_free v args h
  parts_whole v s plain (unary o inner span) h =
      let x = inner_side v s plain o inner span h in no_call v x.0 inner x.1.0 (parts_whole v Inside plain_inside inner x.1.1)
  parts_whole v s plain (binary o left right span) h =
      let x = sides v s plain o left right span h in
      neither_has (has_call left) (has_call right) (no_call v true left x.0.0 (parts_whole v Inside plain_inside left x.0.1))
      (no_call v true right x.1.0 (parts_whole v Inside plain_inside right x.1.1))
  parts_whole v s plain (field base name arrow span) h =
      let x = keeps v Inside arrow base h in no_call v arrow base x.0 (parts_whole v Inside plain_inside base x.1)
  parts_whole v s plain (index base at span) h =
      let x = none_of_both (own v Inside false base ++ parts v Inside base) (own v Inside true at ++ parts v Inside at) h in
      let y = keeps v Inside false base x.0 in
      let z = keeps v Inside true at x.1 in
      neither_has (has_call base) (has_call at) (no_call v false base y.0 (parts_whole v Inside plain_inside base y.1))
      (no_call v true at z.0 (parts_whole v Inside plain_inside at z.1))

  pub arguments_free : (v : View) (args : Arguments) → first (arguments v args) ≡ None → not (have_call args) ≡ true
  arguments_free v none h = refl
  arguments_free v (more e rest) h =
      let x = none_of_both (own v Inside true e ++ parts v Inside e) (arguments v rest) h in
      let y = keeps v Inside true e x.0 in
      neither_has (has_call e) (have_call rest) (no_call v true e y.0 (parts_whole v Inside plain_inside e y.1)) (arguments_free v rest x.1)

pub keeps_free : (v : View) (b : Bool) (e : Expression) → Keeps v Inside b e → is_free e ≡ true
keeps_free v b e h = no_call v b e h.0 (parts_whole v Inside plain_inside e h.1)

pub inside_free : (v : View) (e : Expression) → first (expression v Inside e) ≡ None → is_free e ≡ true
inside_free v e h = keeps_free v true e (keeps v Inside true e h)

pub whole_stands : (v : View) (e : Expression) → first (expression v Whole e) ≡ None → is_whole e ≡ true
whole_stands v e h = parts_whole v Whole plain_whole e (keeps v Whole true e h).1

pub begun_stands : (v : View) (e : Expression) → first (expression v Begins e) ≡ None → is_whole e ≡ true
begun_stands v e h = parts_whole v Begins plain_begins e (keeps v Begins true e h).1

-- a side of a comparison in a test is a call beside a constant, or has none
whole_or_free : (e : Expression) → is_whole e ≡ true → (is_call e ≡ true) ⊎ (is_free e ≡ true)
whole_or_free (number n u span) h = inr h
whole_or_free (null span) h = inr h
whole_or_free (named name span) h = inr h
whole_or_free (call name args span) h = inl h
whole_or_free (unary o inner span) h = inr h
whole_or_free (binary o left right span) h = inr h
whole_or_free (field base name arrow span) h = inr h
whole_or_free (index base at span) h = inr h

side : (v : View) (e : Expression) (k : Bool) → first (expression v (beside Test k) e) ≡ None → ((is_call e && k) ≡ true) ⊎ (is_free e ≡ true)
side v e false h = inr (inside_free v e h)
side v e true h = by (whole_or_free e (parts_whole v Operand plain_operand e (keeps v Operand true e h).1))
  where
    by : (is_call e ≡ true) ⊎ (is_free e ≡ true) → ((is_call e && true) ≡ true) ⊎ (is_free e ≡ true)
    by (inl c) = inl (and_true (is_call e) true c refl)
    by (inr f) = inr f

-- what has a value is a constant
valued : (t : Option ExpressionType) (n : Option Number) (b : Bool) → (b && is_some (typed_value t n)) ≡ true → (b && is_some n) ≡ true
valued (Some t) n b h = h
valued None n true h = never (sym h)
valued None n false h = h

comparison_stands : (v : View) (left right : Expression)
    → first (expression v (beside Test (is_some (constant v right))) left ++ expression v (beside Test (is_some (constant v left))) right) ≡ None
    → is_comparison (context_of v.here) left right ≡ true
comparison_stands v left right h = by (side v left (is_some (constant v right)) x.0) (side v right (is_some (constant v left)) x.1)
  where
    x : (first (expression v (beside Test (is_some (constant v right))) left) ≡ None) × (first (expression v (beside Test (is_some (constant v left))) right) ≡ None)
    x = none_of_both (expression v (beside Test (is_some (constant v right))) left) (expression v (beside Test (is_some (constant v left))) right) h

    l : Bool
    l = is_compared (context_of v.here) left right

    r : Bool
    r = is_compared (context_of v.here) right left

    by : ((is_call left && is_some (constant v right)) ≡ true) ⊎ (is_free left ≡ true) → ((is_call right && is_some (constant v left)) ≡ true) ⊎ (is_free right ≡ true)
        → is_comparison (context_of v.here) left right ≡ true
    by (inl e) other = or_left l (r || (is_free left && is_free right)) (valued (type_of (context_of v.here) right) (constant_of (context_of v.here) right) (is_call left) e)
    by (inr e) (inl f) =
        or_right l (r || (is_free left && is_free right))
        (or_left r (is_free left && is_free right) (valued (type_of (context_of v.here) left) (constant_of (context_of v.here) left) (is_call right) f))
    by (inr e) (inr f) = or_right l (r || (is_free left && is_free right)) (or_right r (is_free left && is_free right) (and_true (is_free left) (is_free right) e f))

-- the test of an `if` or of a loop
pub test_stands : (v : View) (e : Expression) → first (expression v Test e) ≡ None → is_condition (context_of v.here) e ≡ true
unfolding parts arguments
test_stands v e h = by e (keeps v Test true e h).1
  where
    by : (e : Expression) → first (parts v Test e) ≡ None → is_condition (context_of v.here) e ≡ true
    by (number n u span) h = refl
    by (null span) h = refl
    by (named name span) h = refl
    by (call name args span) h = arguments_free v args h
    by (unary prefix.Not inner span) h = parts_whole v Operand plain_operand inner (keeps v Operand true inner h).1
    by (unary prefix.Address inner span) h = parts_whole v Inside plain_inside (unary prefix.Address inner span) h
    by (unary prefix.Minus inner span) h = parts_whole v Inside plain_inside (unary prefix.Minus inner span) h
    by (unary prefix.Flip inner span) h = parts_whole v Inside plain_inside (unary prefix.Flip inner span) h
    by (unary prefix.Follow inner span) h = parts_whole v Inside plain_inside (unary prefix.Follow inner span) h
    by (binary op.Equal left right span) h = comparison_stands v left right h
    by (binary op.Unequal left right span) h = comparison_stands v left right h
    by (binary op.Or left right span) h = parts_whole v Inside plain_inside (binary op.Or left right span) h
    by (binary op.And left right span) h = parts_whole v Inside plain_inside (binary op.And left right span) h
    by (binary op.BitOr left right span) h = parts_whole v Inside plain_inside (binary op.BitOr left right span) h
    by (binary op.BitXor left right span) h = parts_whole v Inside plain_inside (binary op.BitXor left right span) h
    by (binary op.BitAnd left right span) h = parts_whole v Inside plain_inside (binary op.BitAnd left right span) h
    by (binary op.Less left right span) h = parts_whole v Inside plain_inside (binary op.Less left right span) h
    by (binary op.More left right span) h = parts_whole v Inside plain_inside (binary op.More left right span) h
    by (binary op.LessEqual left right span) h = parts_whole v Inside plain_inside (binary op.LessEqual left right span) h
    by (binary op.MoreEqual left right span) h = parts_whole v Inside plain_inside (binary op.MoreEqual left right span) h
    by (binary op.Plus left right span) h = parts_whole v Inside plain_inside (binary op.Plus left right span) h
    by (binary op.Minus left right span) h = parts_whole v Inside plain_inside (binary op.Minus left right span) h
    by (binary op.Times left right span) h = parts_whole v Inside plain_inside (binary op.Times left right span) h
    by (binary op.Divide left right span) h = parts_whole v Inside plain_inside (binary op.Divide left right span) h
    by (binary op.Remainder left right span) h = parts_whole v Inside plain_inside (binary op.Remainder left right span) h
    by (field base name arrow span) h = parts_whole v Inside plain_inside (field base name arrow span) h
    by (index base at span) h = parts_whole v Inside plain_inside (index base at span) h
