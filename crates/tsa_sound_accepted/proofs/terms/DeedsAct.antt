-- A deed that calls does something with the answer, and a test of it looks at the answer.
use Rattle.std.proofs.Common.{◌≡◌, ◌∙◌, Bool, true, false, not, ◌&&◌, ◌||◌, Option, Some, None, IsSome, is_some, option_map, if◌then◌else◌}
use Rattle.std.proofs.Common.{refl, sym, ap, subst}
use Rattle.tsa_tree.specs.declarations.Syntax.{Initialiser, value, list}
use Rattle.tsa_tree.specs.declared.expr.BinaryOp.{BinaryOp}
use Rattle.tsa_tree.specs.declared.expr.BinaryOp.TheVariants as op
use Rattle.tsa_tree.specs.declared.expr.UnaryOp.TheVariants as prefix
use Rattle.tsa_tree.specs.declared.kind.Kind.{Kind}
use Rattle.tsa_tree.specs.declared.kind.ThingType.{ThingType}
use Rattle.tsa_tree.specs.declared.meaning.Entry.{Entry}
use Rattle.tsa_tree.specs.declared.meaning.Meaning.{Meaning}
use Rattle.tsa_tree.specs.declared.meaning.Meaning.TheVariants as known
use Rattle.tsa_tree.specs.expressions.Syntax.{Expression, number, null, named, call, unary, binary, field, index}
use Rattle.tsa_tree.specs.points.Syntax.{Deed, declares, evaluates, assigns, tests, switches, jumps, idles, returns, ends}
use Rattle.tsa_tree.specs.expressions.Sound.{Words}
use Rattle.tsa_tree.specs.types.Constants.{constant_of, enumerator, is_known_enumerator, is_made_of_constants}
use Rattle.tsa_tree.specs.types.DeclaredTypes.{thing_type}
use Rattle.tsa_tree.specs.types.Operands.{integer_kind, pointer_kind}
use Rattle.tsa_tree.specs.types.Runnable.{has_call, is_free, is_whole, is_call, is_compared, is_comparison, is_condition}
use Rattle.tsa_tree.specs.types.Scopes.{Scope, context_of, known_in}
use Rattle.tsa_core.specs.Bodies.{declared, point_by, right_side, set_to}
use Rattle.tsa_core.specs.Meanings.{Call, beside, call_in, loaded, meaning, null_pointer, of_call, of_name}
use Rattle.tsa_core.specs.Meanings as meant
use Rattle.tsa_core.specs.Terms.{Term, constant, variable, answer, global, member, element, target, load, address, converted, prefixed}
use Rattle.tsa_core.specs.Terms.{joined, Sense}
use Rattle.tsa_core.proofs.DeedsHold.{Facts}
use Rattle.tsa_core.proofs.KindTests.{both_true, not_true, one_of}
use Rattle.tsa_core.proofs.TypedTerms.{some_same}
use Rattle.tsa_rules.specs.Conditions.{Condition, Subject, the_call, the_local, condition, condition_at, condition_in, subject_in}
use Rattle.tsa_rules.specs.Conditions.{answer_beside, comparison, either, itself}
use Rattle.tsa_rules.specs.Conditions as conditions
use Rattle.tsa_sound.specs.CallFacts.{CanCall}
use Rattle.tsa_sound_accepted.proofs.terms.ValuesFit.{constant_made, either_called, no_call_made}
use Rattle.tsa_base.proofs.Truths.{never}

-- what is looked at is the answer, if anything
abbrev AsksCall : Option Subject → Type 0
AsksCall None = Unit {0}
AsksCall (Some the_call) = Unit {0}
AsksCall (Some (the_local n)) = ⊥

call_asked : (o : Option Subject) (s : Subject) → AsksCall o → o ≡ Some s → s ≡ the_call
call_asked None s h e = cc
call_asked (Some the_call) s h e = sym (some_same e)
call_asked (Some (the_local n)) s h e = absurd h

-- a condition whose subject is the answer
abbrev pub TestsCall : Option Condition → Type 0
TestsCall None = Unit {0}
TestsCall (Some k) = k.subject ≡ the_call

beside_tests : (means : Bool → Bool) (o : Option Subject) (b : Option Bool) → AsksCall o → TestsCall (conditions.beside means o b)
beside_tests means None b h = tt
beside_tests means (Some the_call) None h = tt
beside_tests means (Some the_call) (Some b) h = refl
beside_tests means (Some (the_local n)) b h = absurd h

either_tests : (o p : Option Condition) → TestsCall o → TestsCall p → TestsCall (either o p)
either_tests None p h g = g
either_tests (Some k) p h g = h

comparison_tests : (means : Bool → Bool) (x y : Term) → AsksCall (subject_in x) → AsksCall (subject_in y) → TestsCall (comparison means x y)
comparison_tests means x y h g =
    either_tests (conditions.beside means (subject_in x) (answer_beside y)) (conditions.beside means (subject_in y) (answer_beside x))
    (beside_tests means (subject_in x) (answer_beside y) h) (beside_tests means (subject_in y) (answer_beside x) g)

denied_tests : (o : Option Subject) → AsksCall o → TestsCall (option_map (condition false) o)
denied_tests None h = tt
denied_tests (Some the_call) h = refl
denied_tests (Some (the_local n)) h = absurd h

abbrev Asks : Term → Type 0
Asks x = AsksCall (subject_in x)

beside_asks : (other : Kind) (s : Sense) → Asks (loaded s) → Asks (beside other s)
beside_asks other s h = by (pointer_kind other && integer_kind s.type.thing.kind)
  where
    by : (b : Bool) → Asks (if b then null_pointer else loaded s)
    by true = tt
    by false = h

module _ (here : Scope) where
  answer_asks : (o : Option Entry) → Asks (loaded (of_call o))
  answer_asks None = tt
  answer_asks (Some x) = tt

  answer_tests : (o : Option Entry) → TestsCall (condition_in (loaded (of_call o)))
  answer_tests None = tt
  answer_tests (Some x) = refl

  name_asks : (o : Option Entry) → is_known_enumerator (enumerator o) ≡ true → Asks (loaded (of_name o))
  name_asks None h = tt
  name_asks (Some x) h = by x.meaning x.thing h
    where
      by : (m : Meaning) (t : ThingType) → is_known_enumerator (enumerator (Some (record { meaning = m; thing = t }))) ≡ true
          → Asks (loaded (of_name (Some (record { meaning = m; thing = t }))))
      by (known.Constant z) t g = tt
      by (known.Global n) t g = never (sym g)
      by (known.Local n) t g = never (sym g)
      by (known.Function n) t g = never (sym g)
      by known.Owned t g = never (sym g)
      by known.TypeName t g = never (sym g)

  joined_asks : (o : BinaryOp) (x y : Sense) → Asks (loaded (meant.of_binary o x y))
  joined_asks op.Or x y = tt
  joined_asks op.And x y = tt
  joined_asks op.BitOr x y = tt
  joined_asks op.BitXor x y = tt
  joined_asks op.BitAnd x y = tt
  joined_asks op.Equal x y = tt
  joined_asks op.Unequal x y = tt
  joined_asks op.Less x y = tt
  joined_asks op.More x y = tt
  joined_asks op.LessEqual x y = tt
  joined_asks op.MoreEqual x y = tt
  joined_asks op.Plus x y = tt
  joined_asks op.Minus x y = tt
  joined_asks op.Times x y = tt
  joined_asks op.Divide x y = tt
  joined_asks op.Remainder x y = tt

  made_asks : (e : Expression) → is_made_of_constants (context_of here) e ≡ true → Asks (loaded (meaning here e))
  unfolding meaning
  made_asks (number n u span) h = tt
  made_asks (named name span) h = name_asks (known_in here name.text) h
  made_asks (unary prefix.Minus inner span) h = tt
  made_asks (unary prefix.Not inner span) h = tt
  made_asks (unary prefix.Flip inner span) h = tt
  made_asks (unary prefix.Address inner span) h = never (sym h)
  made_asks (unary prefix.Follow inner span) h = never (sym h)
  made_asks (binary o left right span) h = joined_asks o (meaning here left) (meaning here right)
  made_asks (null span) h = never (sym h)
  made_asks (call callee args span) h = never (sym h)
  made_asks (field base name arrow span) h = never (sym h)
  made_asks (index base at span) h = never (sym h)

  constant_asks : (e : Expression) → is_some (constant_of (context_of here) e) ≡ true → Asks (loaded (meaning here e))
  constant_asks e h = made_asks e (constant_made here e h)

  call_asks : (e : Expression) → is_call e ≡ true → Asks (loaded (meaning here e))
  unfolding meaning
  call_asks (call callee args span) h = answer_asks (known_in here callee.text)
  call_asks (number n u span) h = never (sym h)
  call_asks (null span) h = never (sym h)
  call_asks (named name span) h = never (sym h)
  call_asks (unary o inner span) h = never (sym h)
  call_asks (binary o left right span) h = never (sym h)
  call_asks (field base name arrow span) h = never (sym h)
  call_asks (index base at span) h = never (sym h)

  whole_asks : (e : Expression) → is_whole e ≡ true → IsSome (call_in here e) → Asks (loaded (meaning here e))
  unfolding meaning
  whole_asks (call callee args span) whole h = answer_asks (known_in here callee.text)
  whole_asks (number n u span) whole h = no_call_made here (number n u span) refl h
  whole_asks (null span) whole h = no_call_made here (null span) refl h
  whole_asks (named name span) whole h = no_call_made here (named name span) refl h
  whole_asks (unary o inner span) whole h = no_call_made here (unary o inner span) (not_true (has_call inner) whole) h
  whole_asks (binary o left right span) whole h = no_call_made here (binary o left right span) (not_true (has_call left || has_call right) whole) h
  whole_asks (field base name arrow span) whole h = no_call_made here (field base name arrow span) (not_true (has_call base) whole) h
  whole_asks (index base at span) whole h = no_call_made here (index base at span) (not_true (has_call base || has_call at) whole) h

  sides_ask : (left right : Expression) → is_comparison (context_of here) left right ≡ true → (has_call left ≡ false → has_call right ≡ false → ⊥)
      → Asks (loaded (meaning here left)) × Asks (loaded (meaning here right))
  sides_ask left right h some =
      one_of (is_compared (context_of here) left right) (is_compared (context_of here) right left || (is_free left && is_free right)) h
      (λ g. let both = both_true (is_call left) (is_some (constant_of (context_of here) right)) g in (call_asks left both.0, constant_asks right both.1))
      (λ g.
      one_of (is_compared (context_of here) right left) (is_free left && is_free right) g
      (λ f. let both = both_true (is_call right) (is_some (constant_of (context_of here) left)) f in (constant_asks left both.1, call_asks right both.0))
      (λ f. let both = both_true (is_free left) (is_free right) f in absurd (some (not_true (has_call left) both.0) (not_true (has_call right) both.1))))

  compared_tests : (means : Bool → Bool) (left right : Expression) → is_comparison (context_of here) left right ≡ true → (has_call left ≡ false → has_call right ≡ false → ⊥)
      → TestsCall (comparison means (beside (meaning here right).type.thing.kind (meaning here left)) (beside (meaning here left).type.thing.kind (meaning here right)))
  compared_tests means left right h some =
      let both = sides_ask left right h some in
      comparison_tests means (beside (meaning here right).type.thing.kind (meaning here left)) (beside (meaning here left).type.thing.kind (meaning here right))
      (beside_asks (meaning here right).type.thing.kind (meaning here left) both.0) (beside_asks (meaning here left).type.thing.kind (meaning here right) both.1)

  pub condition_tests : (e : Expression) → is_condition (context_of here) e ≡ true → IsSome (call_in here e) → TestsCall (condition_in (loaded (meaning here e)))
  unfolding meaning call_in
  condition_tests (unary prefix.Not x span) h c = denied_tests (subject_in (loaded (meaning here x))) (whole_asks x h c)
  condition_tests (binary op.Equal left right span) h c = compared_tests itself left right h (either_called here left right c)
  condition_tests (binary op.Unequal left right span) h c = compared_tests not left right h (either_called here left right c)
  condition_tests (call callee args span) h c = answer_tests (known_in here callee.text)
  condition_tests (unary prefix.Minus x span) h c = never (sym c)
  condition_tests (unary prefix.Flip x span) h c = never (sym c)
  condition_tests (unary prefix.Address x span) h c = never (sym c)
  condition_tests (unary prefix.Follow x span) h c = never (sym c)
  condition_tests (binary op.Or a b span) h c = never (sym c)
  condition_tests (binary op.And a b span) h c = never (sym c)
  condition_tests (binary op.BitOr a b span) h c = never (sym c)
  condition_tests (binary op.BitXor a b span) h c = never (sym c)
  condition_tests (binary op.BitAnd a b span) h c = never (sym c)
  condition_tests (binary op.Less a b span) h c = never (sym c)
  condition_tests (binary op.More a b span) h c = never (sym c)
  condition_tests (binary op.LessEqual a b span) h c = never (sym c)
  condition_tests (binary op.MoreEqual a b span) h c = never (sym c)
  condition_tests (binary op.Plus a b span) h c = never (sym c)
  condition_tests (binary op.Minus a b span) h c = never (sym c)
  condition_tests (binary op.Times a b span) h c = never (sym c)
  condition_tests (binary op.Divide a b span) h c = never (sym c)
  condition_tests (binary op.Remainder a b span) h c = never (sym c)
  condition_tests (number n u span) h c = never (sym c)
  condition_tests (null span) h c = never (sym c)
  condition_tests (named name span) h c = never (sym c)
  condition_tests (field base name arrow span) h c = never (sym c)
  condition_tests (index base at span) h c = never (sym c)

  -- a condition that is found tests what it tests
  pub subject_is : (o : Option Condition) (k : Condition) → TestsCall o → o ≡ Some k → k.subject ≡ the_call
  subject_is None k h e = cc
  subject_is (Some j) k h e = sym (ap (λ x. x.subject) (some_same e)) ∙ h

  not_called : {A : Type 0} → IsSome {T = Call} None → A
  not_called h = never (sym h)

  -- an assignment can follow a call, and tests nothing
  set_acts : (x : Term) (o : Option BinaryOp) (kind : Kind) (r : Term) → CanCall (set_to x o kind r) × (condition_at (set_to x o kind r) ≡ None)
  set_acts (variable n) o kind r = (tt, refl)
  set_acts (global n) o kind r = (tt, refl)
  set_acts (member base n) o kind r = (tt, refl)
  set_acts (element base i) o kind r = (tt, refl)
  set_acts (target p) o kind r = (tt, refl)
  set_acts (constant v) o kind r = (tt, refl)
  set_acts answer o kind r = (tt, refl)
  set_acts (load s p) o kind r = (tt, refl)
  set_acts (address p) o kind r = (tt, refl)
  set_acts (converted to y) o kind r = (tt, refl)
  set_acts (prefixed u y) o kind r = (tt, refl)
  set_acts (joined b y z) o kind r = (tt, refl)

  init_acts : (kind : Kind) (i : Option Initialiser) → CanCall (declared here kind i).action × (condition_at (declared here kind i).action ≡ None)
  init_acts kind None = (tt, refl)
  init_acts kind (Some (value e)) = (tt, refl)
  init_acts kind (Some (list items span)) = (tt, refl)

  nothing_tested : {o : Option Condition} → o ≡ None → TestsCall o
  nothing_tested e = subst TestsCall (sym e) tt

  pub deed_acts : (words : Words) (result : ThingType) (d : Deed) → Facts words result here d → IsSome (point_by here result.kind d).call
      → CanCall (point_by here result.kind d).action × TestsCall (condition_at (point_by here result.kind d).action)
  deed_acts words result (declares d) f h = let x = init_acts (thing_type here d.ctype).kind d.init in (x.0, nothing_tested x.1)
  deed_acts words result (evaluates e) f h = (tt, tt)
  deed_acts words result (assigns left o right) f h =
      let kind = (meaning here left).type.thing.kind in
      let x = set_acts (meaning here left).term o kind (right_side o kind (meaning here right)) in (x.0, nothing_tested x.1)
  deed_acts words result (tests None) f h = not_called h
  deed_acts words result (tests (Some e)) f h = (tt, condition_tests e f.1.1.0 h)
  deed_acts words result (switches e) f h = not_called h
  deed_acts words result jumps f h = not_called h
  deed_acts words result idles f h = not_called h
  deed_acts words result (returns None) f h = not_called h
  deed_acts words result (returns (Some e)) f h = (tt, tt)
  deed_acts words result ends f h = not_called h
