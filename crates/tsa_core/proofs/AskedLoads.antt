-- What is loaded at a point is loaded by the arguments of its call or by its action: where it has a call, its action asks for the answer.
use Rattle.std.proofs.Common.{◌≡◌, ◌∙◌, arith, Bool, true, false, not, ◌&&◌, ◌||◌, List, [], ◌∷◌, ◌++◌, Option, Some, None, is_some}
use Rattle.std.proofs.Common.{if◌then◌else◌, refl, sym, ap, subst, ◌⊎◌, inl, inr}
use Rattle.std.proofs.lemmas.List.Elements.{Contains-append_left, Contains-append_right, Contains-append_cases}
use Rattle.std.specs.List.{Contains}
use Rattle.tsa_base.specs.declared.token.Span.{Span}
use Rattle.tsa_base.proofs.Truths.{never, or_right}
use Rattle.tsa_tree.specs.declared.expr.BinaryOp.{BinaryOp}
use Rattle.tsa_tree.specs.declared.expr.BinaryOp.TheVariants as op
use Rattle.tsa_tree.specs.declared.expr.UnaryOp.TheVariants as prefix
use Rattle.tsa_tree.specs.declared.kind.ExpressionType.{ExpressionType}
use Rattle.tsa_tree.specs.declared.kind.Kind.{Kind}
use Rattle.tsa_tree.specs.declared.kind.Kind.TheVariants as type
use Rattle.tsa_tree.specs.declared.kind.ThingType.{ThingType}
use Rattle.tsa_tree.specs.declared.meaning.Entry.{Entry}
use Rattle.tsa_tree.specs.expressions.Syntax.{Identifier, Expression, Arguments, number, null, named, call, unary, binary, field, index}
use Rattle.tsa_tree.specs.types.Constants.{constant_of}
use Rattle.tsa_tree.specs.types.Expressions.{type_of, types_of, unless, both}
use Rattle.tsa_tree.specs.types.Operands.{integer_kind, pointer_kind, unsigned_kind, is_scalar, comparable, goes_to, breaks_prefix}
use Rattle.tsa_tree.specs.types.Operands.{breaks_binary, breaks_comparison, prefix_type, binary_type}
use Rattle.tsa_tree.specs.types.Runnable.{has_call, is_free, is_whole, is_call, is_compared, is_comparison, is_condition}
use Rattle.tsa_tree.specs.types.Scopes.{Scope, context_of, known_in}
use Rattle.tsa_core.proofs.CallsHold.{call_called, call_whole}
use Rattle.tsa_core.proofs.KindTests.{both_true, neither, not_false, not_true, one_of, or_left}
use Rattle.tsa_core.proofs.KindsOfTerms.{of_one, of_two, typed}
use Rattle.tsa_core.proofs.TypedTerms.{terms_have_types}
use Rattle.tsa_core.proofs.ValuesServe.{no_call, constant_free}
use Rattle.tsa_core.proofs.ZeroConstants.{one_is_zero, other_is_zero, goes_zero}
use Rattle.tsa_core.specs.Loads.{loads, loads_with}
use Rattle.tsa_core.specs.Meanings.{Call, is_int, loaded, null_pointer, of_call, beside, as_kind, meaning, or_call, call_in}
use Rattle.tsa_core.specs.PointLoads.{call_loads}
use Rattle.tsa_core.specs.Terms.{Term, constant, variable, answer, global, member, element, target, load, address, converted, prefixed}
use Rattle.tsa_core.specs.Terms.{joined, Sense}

-- whether a term asks for the answer
abbrev pub asks : Term → Bool
asks (constant v) = false
asks (variable n) = false
asks answer = true
asks (global n) = false
asks (member base n) = asks base
asks (element base at) = asks base || asks at
asks (target p) = asks p
asks (load stable p) = asks p
asks (address p) = asks p
asks (converted to x) = asks x
asks (prefixed o x) = asks x
asks (joined o l r) = asks l || asks r

pub nothing_there : {A : Type 0} {B : Type 0} (x : A) → Contains [] x → B
nothing_there x c = let less = c.1 in absurd (omega (arith, less))

-- The loads of a term with other loads for those of the answer are those of the term, and where it asks for the answer the other ones.
module _ (ps : List Term) (x : Term) where
  kept_in_both : (xs bs cs ds : List Term) → (Contains xs x → Contains cs x) → (Contains bs x → Contains ds x) → Contains (xs ++ bs) x → Contains (cs ++ ds) x
  kept_in_both xs bs cs ds f g c = by (Contains-append_cases xs bs x c)
    where
      by : Contains xs x ⊎ Contains bs x → Contains (cs ++ ds) x
      by (inl h) = Contains-append_left cs ds x (f h)
      by (inr h) = Contains-append_right cs ds x (g h)

  pub loads_kept : (t : Term) → Contains (loads t) x → Contains (loads_with ps t) x
  loads_kept (constant v) c = c
  loads_kept (variable n) c = c
  loads_kept answer c = nothing_there x c
  loads_kept (global n) c = c
  loads_kept (member base n) c = loads_kept base c
  loads_kept (element base at) c = kept_in_both (loads base) (loads at) (loads_with ps base) (loads_with ps at) (loads_kept base) (loads_kept at) c
  loads_kept (target p) c = loads_kept p c
  loads_kept (load stable p) c = kept_in_both (p ∷ []) (loads p) (p ∷ []) (loads_with ps p) (λ h. h) (loads_kept p) c
  loads_kept (address p) c = loads_kept p c
  loads_kept (converted to t) c = loads_kept t c
  loads_kept (prefixed o t) c = loads_kept t c
  loads_kept (joined o l r) c = kept_in_both (loads l) (loads r) (loads_with ps l) (loads_with ps r) (loads_kept l) (loads_kept r) c

  abbrev Parted : List Term → List Term → Type 0
  Parted xs cs = Contains xs x → Contains ps x ⊎ Contains cs x

  further : (cs ds : List Term) → (Contains cs x → Contains ds x) → Contains ps x ⊎ Contains cs x → Contains ps x ⊎ Contains ds x
  further cs ds f (inl h) = inl h
  further cs ds f (inr h) = inr (f h)

  parted_both : (xs bs cs ds : List Term) → Parted xs cs → Parted bs ds → Parted (xs ++ bs) (cs ++ ds)
  parted_both xs bs cs ds f g c = by (Contains-append_cases xs bs x c)
    where
      by : Contains xs x ⊎ Contains bs x → Contains ps x ⊎ Contains (cs ++ ds) x
      by (inl h) = further cs (cs ++ ds) (Contains-append_left cs ds x) (f h)
      by (inr h) = further ds (cs ++ ds) (Contains-append_right cs ds x) (g h)

  pub loads_parted : (t : Term) → Parted (loads_with ps t) (loads t)
  loads_parted (constant v) c = nothing_there x c
  loads_parted (variable n) c = nothing_there x c
  loads_parted answer c = inl c
  loads_parted (global n) c = nothing_there x c
  loads_parted (member base n) c = loads_parted base c
  loads_parted (element base at) c = parted_both (loads_with ps base) (loads_with ps at) (loads base) (loads at) (loads_parted base) (loads_parted at) c
  loads_parted (target p) c = loads_parted p c
  loads_parted (load stable p) c = parted_both (p ∷ []) (loads_with ps p) (p ∷ []) (loads p) (λ h. inr h) (loads_parted p) c
  loads_parted (address p) c = loads_parted p c
  loads_parted (converted to t) c = loads_parted t c
  loads_parted (prefixed o t) c = loads_parted t c
  loads_parted (joined o l r) c = parted_both (loads_with ps l) (loads_with ps r) (loads l) (loads r) (loads_parted l) (loads_parted r) c

  asked_both : (a b : Bool) (xs bs : List Term) → (a ≡ true → Contains xs x) → (b ≡ true → Contains bs x) → (a || b) ≡ true → Contains (xs ++ bs) x
  asked_both a b xs bs f g e = one_of a b e (λ h. Contains-append_left xs bs x (f h)) (λ h. Contains-append_right xs bs x (g h))

  pub loads_asked : (t : Term) → Contains ps x → asks t ≡ true → Contains (loads_with ps t) x
  loads_asked (constant v) c e = never (sym e)
  loads_asked (variable n) c e = never (sym e)
  loads_asked answer c e = c
  loads_asked (global n) c e = never (sym e)
  loads_asked (member base n) c e = loads_asked base c e
  loads_asked (element base at) c e = asked_both (asks base) (asks at) (loads_with ps base) (loads_with ps at) (loads_asked base c) (loads_asked at c) e
  loads_asked (target p) c e = loads_asked p c e
  loads_asked (load stable p) c e = Contains-append_right (p ∷ []) (loads_with ps p) x (loads_asked p c e)
  loads_asked (address p) c e = loads_asked p c e
  loads_asked (converted to t) c e = loads_asked t c e
  loads_asked (prefixed o t) c e = loads_asked t c e
  loads_asked (joined o l r) c e = asked_both (asks l) (asks r) (loads_with ps l) (loads_with ps r) (loads_asked l c) (loads_asked r c) e

-- A value that asks for the answer does so where it is converted.
module _ (s : Sense) (plain : s.type.is_zero ≡ false) (asked : asks (loaded s) ≡ true) where
  null_asks : (b : Bool) → (b ≡ true → s.type.is_zero ≡ true) → asks (if b then null_pointer else loaded s) ≡ true
  null_asks true zero = never (sym (zero refl) ∙ plain)
  null_asks false zero = asked

  converted_asks : (b : Bool) (kind : Kind) → asks (if b then converted kind (loaded s) else loaded s) ≡ true
  converted_asks true kind = asked
  converted_asks false kind = asked

  abbrev OnlyZero : Kind → Type 0
  OnlyZero kind = (pointer_kind kind && integer_kind s.type.thing.kind) ≡ true → s.type.is_zero ≡ true

  pub beside_asks : (kind : Kind) → OnlyZero kind → asks (beside kind s) ≡ true
  beside_asks kind zero = null_asks (pointer_kind kind && integer_kind s.type.thing.kind) zero

  pub as_asks : (kind : Kind) → OnlyZero kind → asks (as_kind kind s) ≡ true
  as_asks type.Int zero = converted_asks (unsigned_kind s.type.thing.kind) type.Int
  as_asks type.Unsigned zero = converted_asks (is_int s.type.thing.kind) type.Unsigned
  as_asks type.Void zero = beside_asks type.Void zero
  as_asks (type.Structure n) zero = beside_asks (type.Structure n) zero
  as_asks (type.Pointer n c) zero = beside_asks (type.Pointer n c) zero
  as_asks type.Null zero = beside_asks type.Null zero
  as_asks type.Function zero = beside_asks type.Function zero

module _ (here : Scope) (x : Term) where
  -- where the call of an expression loads, the expression asks for its answer
  abbrev pub Calls : Expression → Type 0
  Calls e = Contains (call_loads (call_in here e)) x

  abbrev pub Asks : Expression → Type 0
  Asks e = ((meaning here e).type.is_zero ≡ false) × (asks (loaded (meaning here e)) ≡ true)

  none_called : {B : Type 0} (e : Expression) → has_call e ≡ false → Calls e → B
  none_called e free c = nothing_there x (subst (λ o. Contains (call_loads o) x) (no_call here e free) c)

  known_asks : (o : Option Entry) (e : Entry) → o ≡ Some e → ((of_call o).type.is_zero ≡ false) × (asks (loaded (of_call o)) ≡ true)
  known_asks None e h = cc
  known_asks (Some y) e h = (refl, refl)

  call_asks : (callee : Identifier) (args : Arguments) (span : Span) (t : ExpressionType) → type_of (context_of here) (call callee args span) ≡ Some t → Asks (call callee args span)
  unfolding meaning
  call_asks callee args span t is = let k = call_called here callee args span t is in known_asks (known_in here callee.text) _ k.known

  pub whole_asks : (e : Expression) (t : ExpressionType) → is_whole e ≡ true → type_of (context_of here) e ≡ Some t → Calls e → Asks e
  whole_asks (call callee args span) t whole is c = call_asks callee args span t is
  whole_asks (number n u span) t whole is c = none_called (number n u span) refl c
  whole_asks (null span) t whole is c = none_called (null span) refl c
  whole_asks (named name span) t whole is c = none_called (named name span) refl c
  whole_asks (unary o inner span) t whole is c = none_called (unary o inner span) (not_true (has_call inner) whole) c
  whole_asks (binary o left right span) t whole is c = none_called (binary o left right span) (not_true (has_call left || has_call right) whole) c
  whole_asks (field base name arrow span) t whole is c = none_called (field base name arrow span) (not_true (has_call base) whole) c
  whole_asks (index base at span) t whole is c = none_called (index base at span) (not_true (has_call base || has_call at) whole) c

  pub goes_asks : (e : Expression) (t : ExpressionType) (to : ThingType) → is_whole e ≡ true → type_of (context_of here) e ≡ Some t → goes_to t to ≡ true → Calls e
      → asks (as_kind to.kind (meaning here e)) ≡ true
  goes_asks e t to whole is goes c =
      let a = whole_asks e t whole is c in
      as_asks (meaning here e) a.0 a.1 to.kind (goes_zero (meaning here e).type to (subst (λ y. goes_to y to ≡ true) (sym (terms_have_types here e t is)) goes))

  -- a comparison, of which one side may be a call
  module _ (left right : Expression) (comparable_both : comparable (meaning here left).type (meaning here right).type ≡ true) where
    abbrev l : Sense
    l = meaning here left

    abbrev r : Sense
    r = meaning here right

    abbrev SideAsks : Type 0
    SideAsks = (asks (beside r.type.thing.kind l) || asks (beside l.type.thing.kind r)) ≡ true

    left_asks : Asks left → SideAsks
    left_asks a = or_left _ _ (beside_asks l a.0 a.1 r.type.thing.kind (one_is_zero l.type r.type comparable_both))

    right_asks : Asks right → SideAsks
    right_asks a = or_right _ _ (beside_asks r a.0 a.1 l.type.thing.kind (other_is_zero l.type r.type comparable_both))

    either_asks : (a b : ExpressionType) → type_of (context_of here) left ≡ Some a → type_of (context_of here) right ≡ Some b → is_comparison (context_of here) left right ≡ true
        → Contains (call_loads (or_call (call_in here left) (call_in here right))) x → SideAsks
    either_asks a b is_left is_right h c =
        one_of (is_compared (context_of here) left right) _ h
        (λ y. let both = both_true (is_call left) (is_some (constant_of (context_of here) right)) y in
        left_asks (whole_asks left a (call_whole left both.0) is_left (on_left (constant_free (context_of here) right both.1) c)))
        (λ d. one_of (is_compared (context_of here) right left) (is_free left && is_free right) d
        (λ y. let both = both_true (is_call right) (is_some (constant_of (context_of here) left)) y in
        right_asks (whole_asks right b (call_whole right both.0) is_right (on_right (constant_free (context_of here) left both.1) c)))
        (λ f. let both = both_true (is_free left) (is_free right) f in
        none_called right (not_true (has_call right) both.1) (on_right (not_true (has_call left) both.0) c)))
      where
        alone : (o : Option Call) → or_call o None ≡ o
        alone None = refl
        alone (Some y) = refl

        on_left : has_call right ≡ false → Contains (call_loads (or_call (call_in here left) (call_in here right))) x → Calls left
        on_left free c = subst (λ o. Contains (call_loads o) x) (ap (or_call (call_in here left)) (no_call here right free) ∙ alone (call_in here left)) c

        on_right : has_call left ≡ false → Contains (call_loads (or_call (call_in here left) (call_in here right))) x → Calls right
        on_right free c = subst (λ o. Contains (call_loads o) x) (ap (λ o. or_call o (call_in here right)) (no_call here left free)) c

  sides_ask : (o : BinaryOp) (left right : Expression) (t : ExpressionType) → ((a b : Option ExpressionType) → breaks_binary o a b ≡ breaks_comparison a b)
      → unless (breaks_binary o (type_of (context_of here) left) (type_of (context_of here) right)) (both (binary_type o) (type_of (context_of here) left) (type_of (context_of here) right)) ≡ Some t
      → is_comparison (context_of here) left right ≡ true → Contains (call_loads (or_call (call_in here left) (call_in here right))) x
      → (asks (beside (meaning here right).type.thing.kind (meaning here left)) || asks (beside (meaning here left).type.thing.kind (meaning here right))) ≡ true
  sides_ask o left right t rule is h c =
      let y = type_of (context_of here) left in
      let z = type_of (context_of here) right in
      let a = (meaning here left).type in
      let b = (meaning here right).type in
      let parts = of_two (binary_type o) (breaks_binary o y z) y z t is in
      let breaks : breaks_comparison (Some a) (Some b) ≡ false =
      sym (rule (Some a) (Some b))
      ∙ subst (λ q. breaks_binary o (Some a) q ≡ false) (typed here right parts.1.1.0 parts.1.1.1)
      (subst (λ p. breaks_binary o p z ≡ false) (typed here left parts.1.0.0 parts.1.0.1) parts.0) in
      let good = not_false (comparable a b) (neither (not (is_scalar a) || not (is_scalar b)) (not (comparable a b)) breaks).1 in
      either_asks left right good parts.1.0.0 parts.1.1.0 parts.1.0.1 parts.1.1.1 h c

  pub condition_asks : (e : Expression) (t : ExpressionType) → is_condition (context_of here) e ≡ true → type_of (context_of here) e ≡ Some t → Calls e → asks (loaded (meaning here e)) ≡ true
  unfolding type_of types_of call_in meaning
  condition_asks (unary prefix.Not inner span) t h is c =
      let y = type_of (context_of here) inner in
      let parts = of_one (prefix_type prefix.Not) (breaks_prefix prefix.Not y) y t is in
      (whole_asks inner parts.1.0 h parts.1.1 c).1
  condition_asks (binary op.Equal left right span) t h is c = sides_ask op.Equal left right t (λ a b. refl) is h c
  condition_asks (binary op.Unequal left right span) t h is c = sides_ask op.Unequal left right t (λ a b. refl) is h c
  condition_asks (unary prefix.Minus inner span) t h is c = nothing_there x c
  condition_asks (unary prefix.Flip inner span) t h is c = nothing_there x c
  condition_asks (unary prefix.Address inner span) t h is c = nothing_there x c
  condition_asks (unary prefix.Follow inner span) t h is c = nothing_there x c
  condition_asks (number n u span) t h is c = nothing_there x c
  condition_asks (null span) t h is c = nothing_there x c
  condition_asks (named name span) t h is c = nothing_there x c
  condition_asks (call callee args span) t h is c = (whole_asks (call callee args span) t h is c).1
  condition_asks (field base name arrow span) t h is c = nothing_there x c
  condition_asks (index base at span) t h is c = nothing_there x c
  condition_asks (binary op.Or left right span) t h is c = nothing_there x c
  condition_asks (binary op.And left right span) t h is c = nothing_there x c
  condition_asks (binary op.BitOr left right span) t h is c = nothing_there x c
  condition_asks (binary op.BitXor left right span) t h is c = nothing_there x c
  condition_asks (binary op.BitAnd left right span) t h is c = nothing_there x c
  condition_asks (binary op.Less left right span) t h is c = nothing_there x c
  condition_asks (binary op.More left right span) t h is c = nothing_there x c
  condition_asks (binary op.LessEqual left right span) t h is c = nothing_there x c
  condition_asks (binary op.MoreEqual left right span) t h is c = nothing_there x c
  condition_asks (binary op.Plus left right span) t h is c = nothing_there x c
  condition_asks (binary op.Minus left right span) t h is c = nothing_there x c
  condition_asks (binary op.Times left right span) t h is c = nothing_there x c
  condition_asks (binary op.Divide left right span) t h is c = nothing_there x c
  condition_asks (binary op.Remainder left right span) t h is c = nothing_there x c
