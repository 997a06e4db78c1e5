-- Inside of other expressions no call may stand, so that the attributes of functions make no difference there.
use Rattle.std.proofs.Common.{◌≡◌, ◌∙◌, Bool, true, false, not, ◌&&◌, ◌||◌, List, ◌∷◌, ◌++◌, Option, Some, None, is_some, is_none, refl}
use Rattle.std.proofs.Common.{sym, ap}
use Rattle.tsa_base.specs.declared.token.Span.{Span}
use Rattle.tsa_tree.specs.declared.expr.BinaryOp.TheVariants as op
use Rattle.tsa_tree.specs.declared.expr.UnaryOp.TheVariants as prefix
use Rattle.tsa_tree.specs.expressions.Syntax.{Identifier, Expression, Arguments, number, null, named, call, unary, binary, field, index}
use Rattle.tsa_tree.specs.types.Scopes.{Scope}
use Rattle.tsa_place_model.specs.Calls.{Layout}
use Rattle.tsa_core.specs.Programs.{Attr}
use Rattle.tsa_profile_accesses.specs.declared.premise.Failure.{Failure}
use Rattle.tsa_profile_accesses.specs.declared.premise.ProfileCode.TheVariants.{PF1, PF8}
use Rattle.tsa_profile_accesses.specs.declared.standing.Standing.TheVariants.{Inside}
use Rattle.tsa_profile_accesses.specs.Premises.{Premise, premise, first}
use Rattle.tsa_profile_accesses.specs.Expressions.{compares_a_try, constant, is_other, is_try_call, own, parts}
use Rattle.tsa_profile_guards.proofs.NoneFails.{none_of_both, none_of_first, none_of_two}
use Rattle.tsa_profile_items.proofs.EachItem.{value_asked}
use Rattle.tsa_profile.specs.Arguments.{view_with, is_in_profile}

neither : (x y p q : Bool) → x ≡ false → y ≡ false → ((x && p) || (y && q)) ≡ false
neither false false p q e h = refl
neither true y p q e h = absurd cc
neither false true p q e h = absurd cc

same_none : (x y : Option Failure) → (x ≡ None → y ≡ None) → (y ≡ None → x ≡ None) → is_none x ≡ is_none y
same_none None None f g = refl
same_none None (Some y) f g = let never = f refl in absurd cc
same_none (Some x) None f g = let never = g refl in absurd cc
same_none (Some x) (Some y) f g = refl

-- that nothing fails, by a test
pub none_by : (x : Option Failure) (b : Bool) → is_some x ≡ not b → b ≡ is_none x
none_by None true h = refl
none_by None false h = absurd cc
none_by (Some f) true h = absurd cc
none_by (Some f) false h = refl

module _ (l : Layout) (here : Scope) where
  abbrev whole : List (List Attr) → Bool → Expression → List Premise
  whole attributes is_value e = own (view_with attributes l here) Inside is_value e ++ parts (view_with attributes l here) Inside e

  abbrev Holds : List (List Attr) → Bool → Expression → Type 0
  Holds attributes is_value e = first (whole attributes is_value e) ≡ None

  -- what stands there is no call
  no_call : {A : Type 0} (a : List (List Attr)) (is_value : Bool) (name : Identifier) (args : Arguments) (span : Span) → Holds a is_value (call name args span) → A
  no_call a is_value name args span h = let never = (none_of_first PF1 span true _ h).0 in absurd cc

  -- and so no try
  no_try : (a b : List (List Attr)) (e : Expression) → Holds a true e → is_try_call (view_with b l here) e ≡ false
  no_try a b (call name args span) h = no_call a true name args span h
  no_try a b (number n u span) h = refl
  no_try a b (null span) h = refl
  no_try a b (named name span) h = refl
  no_try a b (unary o inner span) h = refl
  no_try a b (binary o left right span) h = refl
  no_try a b (field base name arrow span) h = refl
  no_try a b (index base at span) h = refl

  module _ (a b : List (List Attr)) where
    -- a part behind what is asked of the whole itself, and two parts
    behind : (before : List Premise) (p : Bool) (e : Expression) → (Holds a p e → Holds b p e) → first (before ++ whole a p e) ≡ None → first (before ++ whole b p e) ≡ None
    behind before p e on h = let both = none_of_both before (whole a p e) h in none_of_two before (whole b p e) both.0 (on both.1)

    sides : (p q : Bool) (left right : Expression) → (Holds a p left → Holds b p left) → (Holds a q right → Holds b q right)
        → first (whole a p left ++ whole a q right) ≡ None → first (whole b p left ++ whole b q right) ≡ None
    sides p q left right on_left on_right h =
        let both = none_of_both (whole a p left) (whole a q right) h in
        none_of_two (whole b p left) (whole b q right) (on_left both.0) (on_right both.1)

    behind_both : (before : List Premise) (p q : Bool) (left right : Expression) → (Holds a p left → Holds b p left) → (Holds a q right → Holds b q right)
        → first (before ++ (whole a p left ++ whole a q right)) ≡ None → first (before ++ (whole b p left ++ whole b q right)) ≡ None
    behind_both before p q left right on_left on_right h =
        let both = none_of_both before (whole a p left ++ whole a q right) h in
        none_of_two before (whole b p left ++ whole b q right) both.0 (sides p q left right on_left on_right both.1)

    -- of an operator that compares
    compared : (left right : Expression) (span : Span) → (Holds a true left → Holds b true left) → (Holds a true right → Holds b true right)
        → first (premise PF8 span (compares_a_try (view_with a l here) left right) ∷ (whole a true left ++ whole a true right)) ≡ None
        → first (premise PF8 span (compares_a_try (view_with b l here) left right) ∷ (whole b true left ++ whole b true right)) ≡ None
    unfolding first
    compared left right span on_left on_right h =
        let w = view_with b l here in
        let told = none_of_first PF8 span (compares_a_try (view_with a l here) left right) (whole a true left ++ whole a true right) h in
        let both = none_of_both (whole a true left) (whole a true right) told.1 in
        let compares : compares_a_try w left right ≡ false =
        neither (is_try_call w left) (is_try_call w right) (is_other (constant w right)) (is_other (constant w left)) (no_try a b left both.0) (no_try a b right both.1) in
        ap (λ t. first (premise PF8 span t ∷ (whole b true left ++ whole b true right))) compares ∙ sides true true left right on_left on_right told.1

  alike : (a b : List (List Attr)) (is_value : Bool) (e : Expression) → Holds a is_value e → Holds b is_value e
  unfolding parts
  alike a b is_value (number n u span) h = h
  alike a b is_value (null span) h = h
  alike a b is_value (named name span) h = h
  alike a b is_value (call name args span) h = no_call a is_value name args span h
  alike a b is_value (unary prefix.Address inner span) h = behind a b (own (view_with a l here) Inside is_value (unary prefix.Address inner span)) false inner (alike a b false inner) h
  alike a b is_value (unary prefix.Not inner span) h = alike a b true inner h
  alike a b is_value (unary prefix.Minus inner span) h = alike a b true inner h
  alike a b is_value (unary prefix.Flip inner span) h = alike a b true inner h
  alike a b is_value (unary prefix.Follow inner span) h = alike a b true inner h
  alike a b is_value (binary op.Equal left right span) h = compared a b left right span (alike a b true left) (alike a b true right) h
  alike a b is_value (binary op.Unequal left right span) h = compared a b left right span (alike a b true left) (alike a b true right) h
  alike a b is_value (binary op.Or left right span) h = sides a b true true left right (alike a b true left) (alike a b true right) h
  alike a b is_value (binary op.And left right span) h = sides a b true true left right (alike a b true left) (alike a b true right) h
  alike a b is_value (binary op.BitOr left right span) h = sides a b true true left right (alike a b true left) (alike a b true right) h
  alike a b is_value (binary op.BitXor left right span) h = sides a b true true left right (alike a b true left) (alike a b true right) h
  alike a b is_value (binary op.BitAnd left right span) h = sides a b true true left right (alike a b true left) (alike a b true right) h
  alike a b is_value (binary op.Less left right span) h = sides a b true true left right (alike a b true left) (alike a b true right) h
  alike a b is_value (binary op.More left right span) h = sides a b true true left right (alike a b true left) (alike a b true right) h
  alike a b is_value (binary op.LessEqual left right span) h = sides a b true true left right (alike a b true left) (alike a b true right) h
  alike a b is_value (binary op.MoreEqual left right span) h = sides a b true true left right (alike a b true left) (alike a b true right) h
  alike a b is_value (binary op.Plus left right span) h = sides a b true true left right (alike a b true left) (alike a b true right) h
  alike a b is_value (binary op.Minus left right span) h = sides a b true true left right (alike a b true left) (alike a b true right) h
  alike a b is_value (binary op.Times left right span) h = sides a b true true left right (alike a b true left) (alike a b true right) h
  alike a b is_value (binary op.Divide left right span) h = sides a b true true left right (alike a b true left) (alike a b true right) h
  alike a b is_value (binary op.Remainder left right span) h = sides a b true true left right (alike a b true left) (alike a b true right) h
  alike a b is_value (field base name arrow span) h = behind a b (own (view_with a l here) Inside is_value (field base name arrow span)) arrow base (alike a b arrow base) h
  alike a b is_value (index base at span) h =
      behind_both a b (own (view_with a l here) Inside is_value (index base at span)) false true base at (alike a b false base) (alike a b true at) h

  -- so an initialiser is in the profile whatever attributes functions have
  pub none_differs : (a b : List (List Attr)) (e : Expression) → is_in_profile (view_with a l here) e ≡ is_in_profile (view_with b l here) e
  none_differs a b e =
      sym (ap is_none (value_asked (view_with a l here) e))
      ∙ same_none (first (whole a false e)) (first (whole b false e)) (alike a b false e) (alike b a false e)
      ∙ ap is_none (value_asked (view_with b l here) e)
