-- A condition on a call tells the answer that the call gives.
use Rattle.std.proofs.Common.{◌≡◌, ◌∙◌, ℕ, pos, negsuc, Bool, true, false, not, Option, Some, None, Result, Ok, Err, ◌⊎◌, inl, inr}
use Rattle.std.proofs.Common.{option_map, option_and_then, if◌then◌else◌, refl, ap, sym, subst}
use Rattle.tsa_base.specs.declared.value.Value.{Value}
use Rattle.tsa_base.specs.declared.value.Value.TheVariants.{Int, Unsigned, Pointer}
use Rattle.tsa_tree.specs.declared.expr.BinaryOp.{BinaryOp}
use Rattle.tsa_tree.specs.declared.expr.BinaryOp.TheVariants as op
use Rattle.tsa_tree.specs.declared.expr.UnaryOp.TheVariants as prefix
use Rattle.tsa_tree.specs.declared.kind.Kind.{Kind}
use Rattle.tsa_tree.specs.declared.kind.Kind.TheVariants as type
use Rattle.tsa_tree.specs.declared.number.Number.{Number}
use Rattle.tsa_tree.specs.declared.number.Number.TheVariants as numeral
use Rattle.tsa_tree.specs.declared.number.Trap.{Trap}
use Rattle.tsa_tree.specs.types.Constants.{without_trap}
use Rattle.tsa_place_model.specs.Calls.{Layout}
use Rattle.tsa_core.specs.Kinds.{Setting, binary_kind, of_both, value_kind}
use Rattle.tsa_core.specs.Meanings.{of_number}
use Rattle.tsa_core.specs.Terms.{Term, constant, variable, answer, global, member, element, target, load, address, converted, prefixed}
use Rattle.tsa_core.specs.Terms.{joined}
use Rattle.tsa_rules.specs.Conditions.{Condition, Subject, the_call, the_local, answer_beside, answer_in, beside, comparison, condition}
use Rattle.tsa_rules.specs.Conditions.{condition_in, constant_result, either, is_constant, itself, subject_in}
use Rattle.tsa_rules.specs.Effects.{same_answer}
use Rattle.tsa_path.specs.Values.{is_true, of_truth}
use Rattle.tsa_mean.specs.Operators.{joined_with, operate_on, prefix_on}
use Rattle.tsa_mean.specs.Outs.{Out, traps, reads, yields, bind}
use Rattle.tsa_mean.specs.Working.{Locals, rvalue, with_answer}
use Rattle.tsa_sound.specs.PartlyWorked.{IsOfKind, IsWorked}
use Rattle.tsa_sound.specs.SettledStatuses.{answer_held}
use Rattle.tsa_sound.proofs.Comparisons.{Tells, equal_left, equal_right, equal_tells, unequal_left, unequal_right, unequal_tells}
use Rattle.tsa_sound.proofs.Constants.{Matches, constant_as_written, constants_match}
use Rattle.tsa_sound.proofs.Tests.{IsBeside, answers, as_int, as_unsigned, held_number, none_is_some, number, same_some}

-- a term with an answer of its kind is a partly worked one
module _ (k : Setting) (stable : ℕ → Bool) (locals : Locals) (v : Value) (fits : IsOfKind k.layout k.answer v) where
  pub answered_worked : (x : Term) → IsWorked k stable locals x (with_answer v x)
  answered_worked (constant w) = refl
  answered_worked (variable n) = refl
  answered_worked answer = fits
  answered_worked (global n) = refl
  answered_worked (member base n) = (refl, answered_worked base)
  answered_worked (element base index) = (answered_worked base, answered_worked index)
  answered_worked (target pointer) = answered_worked pointer
  answered_worked (load is_stable place) = (refl, answered_worked place)
  answered_worked (address place) = answered_worked place
  answered_worked (converted kind inner) = (refl, answered_worked inner)
  answered_worked (prefixed o inner) = (refl, answered_worked inner)
  answered_worked (joined o left right) = (refl, answered_worked left, answered_worked right)

-- a number that is an answer
pub data IsNumber (j : Bool) : Value → Type 0 where
  int_number : IsNumber j (Int (pos (number j)))
  unsigned_number : IsNumber j (Unsigned (number j))

is_beside : (j : Bool) (w : Value) → IsNumber j w → IsBeside j w
is_beside j w int_number = as_int
is_beside j w unsigned_number = as_unsigned

is_number : (j : Bool) (n : Number) → answer_in n ≡ Some j → IsNumber j (of_number n)
is_number j (numeral.Int (pos n)) e = subst (λ m. IsNumber j (Int (pos m))) (sym (answers n j e)) int_number
is_number j (numeral.Int (negsuc n)) e = none_is_some e
is_number j (numeral.Unsigned n) e = subst (λ m. IsNumber j (Unsigned m)) (sym (answers n j e)) unsigned_number

call_is_no_local : {n : ℕ} {A : Type 0} → the_local n ≡ the_call → A
call_is_no_local e = absurd cc

call_in : (x : Term) (s : Subject) → subject_in x ≡ Some s → s ≡ the_call → x ≡ answer
call_in answer s e is = refl
call_in (variable n) s e is = call_is_no_local (same_some e ∙ is)
call_in x s e is = none_is_some e

-- operators on numbers that are answers give a value
pub equal_given : (a j : Bool) (w : Value) → IsNumber j w → (z : Value) × (operate_on op.Equal (Int (pos (number a))) w ≡ yields z)
equal_given a j w int_number = (_, refl)
equal_given a j w unsigned_number = (_, refl)

pub given_equal : (a j : Bool) (w : Value) → IsNumber j w → (z : Value) × (operate_on op.Equal w (Int (pos (number a))) ≡ yields z)
given_equal a j w int_number = (_, refl)
given_equal a j w unsigned_number = (_, refl)

pub unequal_given : (a j : Bool) (w : Value) → IsNumber j w → (z : Value) × (operate_on op.Unequal (Int (pos (number a))) w ≡ yields z)
unequal_given a j w int_number = (_, refl)
unequal_given a j w unsigned_number = (_, refl)

pub given_unequal : (a j : Bool) (w : Value) → IsNumber j w → (z : Value) × (operate_on op.Unequal w (Int (pos (number a))) ≡ yields z)
given_unequal a j w int_number = (_, refl)
given_unequal a j w unsigned_number = (_, refl)

module _ (k : Setting) (stable : ℕ → Bool) (l : Layout) (locals : Locals) (v : Value) (held : Bool) (holds : answer_held v ≡ Some held)
    (int : k.answer ≡ Some type.Int) (fits : IsOfKind k.layout k.answer v) where
  -- the test is worked out, and its outcome tells the answer
  pub record Told (x : Term) (t : Condition) : Type 0 where
    pub value : Value
    pub is : rvalue l locals (with_answer v x) ≡ yields value
    pub tells : Tells value t held

  value_is : v ≡ Int (pos (number held))
  value_is = held_number v held holds

  answer_is : (x : Term) → x ≡ answer → rvalue l locals (with_answer v x) ≡ yields (Int (pos (number held)))
  answer_is x is = ap (λ x. rvalue l locals (with_answer v x)) is ∙ ap yields value_is

  -- what stands beside the call is a number, or null
  number_given : (x : Term) (j : Bool) (c : Bool) → is_constant x ≡ c → (r : Result Number Trap) → constant_result x ≡ r
      → option_and_then answer_in (if c then without_trap r else None) ≡ Some j → (w : Value) × (rvalue l locals (with_answer v x) ≡ yields w) × IsNumber j w
  number_given x j false is_c r is e = none_is_some e
  number_given x j true is_c (Err trap) is e = none_is_some e
  number_given x j true is_c (Ok n) is e =
      let found = matched (rvalue l locals x) refl (subst (Matches (rvalue l locals x)) is (constants_match l locals x is_c)) in (
        found.0,
        ap (rvalue l locals) (sym (constant_as_written k stable locals x (with_answer v x) is_c (answered_worked k stable locals v fits x))) ∙ found.1,
        subst (IsNumber j) (sym found.2) (is_number j n e),
      )
    where
      matched : (out : Out Value) → rvalue l locals x ≡ out → Matches out (Ok n) → (w : Value) × (rvalue l locals x ≡ yields w) × (w ≡ of_number n)
      matched (yields w) e m = (w, e, m)
      matched (traps kind) e m = absurd m
      matched (reads place) e m = absurd m

  beside_given : (x : Term) (j : Bool) → answer_beside x ≡ Some j
      → (value_kind k x ≡ Some type.Null) ⊎ ((w : Value) × (rvalue l locals (with_answer v x) ≡ yields w) × IsNumber j w)
  beside_given (constant (Pointer None)) j e = inl refl
  beside_given x j e = inr (number_given x j (is_constant x) refl (constant_result x) refl e)

  -- a comparison
  module _ (o : BinaryOp) (means : Bool → Bool) (plain : (w : Value) (right : Out Value) → joined_with o w right ≡ bind right (λ z. operate_on o w z))
      (no_null : (kind : Kind) → binary_kind o type.Int type.Null ≡ Some kind → ⊥) (null_not : (kind : Kind) → binary_kind o type.Null type.Int ≡ Some kind → ⊥)
      (left_given : (j : Bool) (w : Value) → IsNumber j w → (z : Value) × (operate_on o (Int (pos (number held))) w ≡ yields z))
      (right_given : (j : Bool) (w : Value) → IsNumber j w → (z : Value) × (operate_on o w (Int (pos (number held))) ≡ yields z))
      (left_tells : (s : Subject) (j : Bool) (w z : Value) → IsBeside j w → operate_on o (Int (pos (number held))) w ≡ yields z → Tells z (condition (means j) s) held)
      (right_tells : (s : Subject) (j : Bool) (w z : Value) → IsBeside j w → operate_on o w (Int (pos (number held))) ≡ yields z → Tells z (condition (means j) s) held)
      (a b : Term) (kind : Kind) (typed : of_both (binary_kind o) (value_kind k a) (value_kind k b) ≡ Some kind) (t : Condition) (call : t.subject ≡ the_call) where
    joined_is : (y z w : Value) → rvalue l locals (with_answer v a) ≡ yields y → rvalue l locals (with_answer v b) ≡ yields z → operate_on o y z ≡ yields w
        → rvalue l locals (with_answer v (joined o a b)) ≡ yields w
    joined_is y z w left right both =
        ap (λ out. bind out (λ y. joined_with o y (rvalue l locals (with_answer v b)))) left ∙ (plain y (rvalue l locals (with_answer v b))
        ∙ (ap (λ out. bind out (λ z. operate_on o y z)) right ∙ both))

    kind_of_call : (x : Term) → x ≡ answer → value_kind k x ≡ Some type.Int
    kind_of_call x is = ap (value_kind k) is ∙ int

    on_left : (s : Subject) (j : Bool) → subject_in a ≡ Some s → answer_beside b ≡ Some j → Some (condition (means j) s) ≡ Some t → Told (joined o a b) t
    on_left s j subject other e = by (beside_given b j other)
      where
        is : condition (means j) s ≡ t
        is = same_some e

        a_is : a ≡ answer
        a_is = call_in a s subject (ap (λ t. t.subject) is ∙ call)

        by : (value_kind k b ≡ Some type.Null) ⊎ ((w : Value) × (rvalue l locals (with_answer v b) ≡ yields w) × IsNumber j w) → Told (joined o a b) t
        by (inl null) = absurd (no_null kind (sym (ap (λ x. of_both (binary_kind o) x (value_kind k b)) (kind_of_call a a_is)
            ∙ ap (of_both (binary_kind o) (Some type.Int)) null) ∙ typed))
        by (inr w) = let z = left_given j w.0 w.2 in record {
          value = z.0;
          is = joined_is (Int (pos (number held))) w.0 z.0 (answer_is a a_is) w.1 z.1;
          tells = subst (λ t. Tells z.0 t held) is (left_tells s j w.0 z.0 (is_beside j w.0 w.2) z.1);
        }

    on_right : (s : Subject) (j : Bool) → subject_in b ≡ Some s → answer_beside a ≡ Some j → Some (condition (means j) s) ≡ Some t → Told (joined o a b) t
    on_right s j subject other e = by (beside_given a j other)
      where
        is : condition (means j) s ≡ t
        is = same_some e

        b_is : b ≡ answer
        b_is = call_in b s subject (ap (λ t. t.subject) is ∙ call)

        by : (value_kind k a ≡ Some type.Null) ⊎ ((w : Value) × (rvalue l locals (with_answer v a) ≡ yields w) × IsNumber j w) → Told (joined o a b) t
        by (inl null) = absurd (null_not kind (sym (ap (λ x. of_both (binary_kind o) x (value_kind k b)) null
            ∙ ap (of_both (binary_kind o) (Some type.Null)) (kind_of_call b b_is)) ∙ typed))
        by (inr w) = let z = right_given j w.0 w.2 in record {
          value = z.0;
          is = joined_is w.0 (Int (pos (number held))) z.0 w.1 (answer_is b b_is) z.1;
          tells = subst (λ t. Tells z.0 t held) is (right_tells s j w.0 z.0 (is_beside j w.0 w.2) z.1);
        }

    compared : (s : Option Subject) → subject_in a ≡ s → (i : Option Bool) → answer_beside b ≡ i → (r : Option Subject) → subject_in b ≡ r
        → (j : Option Bool) → answer_beside a ≡ j → either (beside means s i) (beside means r j) ≡ Some t → Told (joined o a b) t
    compared (Some s) es (Some i) ei r er j ej e = on_left s i es ei e
    compared None es i ei (Some r) er (Some j) ej e = on_right r j er ej e
    compared (Some s) es None ei (Some r) er (Some j) ej e = on_right r j er ej e
    compared None es i ei None er j ej e = none_is_some e
    compared None es i ei (Some r) er None ej e = none_is_some e
    compared (Some s) es None ei None er j ej e = none_is_some e
    compared (Some s) es None ei (Some r) er None ej e = none_is_some e

    comparison_told : comparison means a b ≡ Some t → Told (joined o a b) t
    comparison_told e = compared (subject_in a) refl (answer_beside b) refl (subject_in b) refl (answer_beside a) refl e

  module _ (t : Condition) (call : t.subject ≡ the_call) (kind : Kind) where
    by_itself : Some (condition true the_call) ≡ Some t → Told answer t
    by_itself e = record {
      value = v;
      is = refl;
      tells = subst (λ t. Tells v t held) (same_some e) (equal_tells the_call held true v (ap is_true value_is ∙ number_is held));
    }
      where
        number_is : (b : Bool) → is_true (Int (pos (number b))) ≡ same_answer true b
        number_is true = refl
        number_is false = refl

    denied : (x : Term) (s : Option Subject) → subject_in x ≡ s → option_map (condition false) s ≡ Some t → Told (prefixed prefix.Not x) t
    denied x None es e = none_is_some e
    denied x (Some s) es e =
        let is : condition false s ≡ t = same_some e in
        record {
          value = of_truth (not (is_true (Int (pos (number held)))));
          is = ap (λ out. bind out (λ w. prefix_on prefix.Not w)) (answer_is x (call_in x s es (ap (λ t. t.subject) is ∙ call)));
          tells = subst (λ t. Tells (of_truth (not (is_true (Int (pos (number held)))))) t held) is
              (equal_tells s held false (of_truth (not (is_true (Int (pos (number held)))))) (denied_number held));
        }
      where
        denied_number : (b : Bool) → is_true (of_truth (not (is_true (Int (pos (number b)))))) ≡ same_answer false b
        denied_number true = refl
        denied_number false = refl

    -- a condition of any form on what is called
    pub call_told : (x : Term) → condition_in x ≡ Some t → value_kind k x ≡ Some kind → Told x t
    call_told answer e typed = by_itself e
    call_told (variable n) e typed = call_is_no_local (ap (λ t. t.subject) (same_some e) ∙ call)
    call_told (prefixed prefix.Not x) e typed = denied x (subject_in x) refl e
    call_told (joined op.Equal a b) e typed =
        comparison_told op.Equal itself (λ w right. refl) (λ kind e. none_is_some e) (λ kind e. none_is_some e) (equal_given held) (given_equal held)
        (λ s j w z beside is. equal_tells s held j z (equal_left held j w z beside is)) (λ s j w z beside is. equal_tells s held j z (equal_right held j w z beside is))
        a b kind typed t call e
    call_told (joined op.Unequal a b) e typed =
        comparison_told op.Unequal not (λ w right. refl) (λ kind e. none_is_some e) (λ kind e. none_is_some e) (unequal_given held) (given_unequal held)
        (λ s j w z beside is. unequal_tells s held j z (unequal_left held j w z beside is)) (λ s j w z beside is. unequal_tells s held j z
        (unequal_right held j w z beside is))
        a b kind typed t call e
    call_told x e typed = none_is_some e
