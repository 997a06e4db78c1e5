-- Conditions tell the answer that the local they test holds.
use Rattle.std.proofs.Common.{◌≡◌, ◌∙◌, ℕ, pos, Bool, true, false, not, Option, Some, None, option_map, refl, ap, sym, subst}
use Rattle.tsa_base.specs.declared.value.Value.{Value}
use Rattle.tsa_base.specs.declared.value.Value.TheVariants.{Int}
use Rattle.tsa_tree.specs.declared.expr.BinaryOp.{BinaryOp}
use Rattle.tsa_tree.specs.declared.expr.BinaryOp.TheVariants as op
use Rattle.tsa_tree.specs.declared.expr.UnaryOp.TheVariants as prefix
use Rattle.tsa_place_model.specs.Calls.{Layout}
use Rattle.tsa_core.specs.Kinds.{Setting}
use Rattle.tsa_core.specs.Terms.{Term, variable, answer, prefixed, joined}
use Rattle.tsa_rules.specs.Conditions.{Condition, Subject, the_call, the_local, answer_beside, answer_by, beside, comparison, condition}
use Rattle.tsa_rules.specs.Conditions.{condition_in, either, itself, subject_in}
use Rattle.tsa_rules.specs.Effects.{same_answer}
use Rattle.tsa_path.specs.Values.{is_true, of_truth}
use Rattle.tsa_mean.specs.Frames.{outcome_of}
use Rattle.tsa_mean.specs.Operators.{joined_with, operate_on, prefix_on}
use Rattle.tsa_mean.specs.Outs.{yields, bind}
use Rattle.tsa_mean.specs.Working.{Locals, local_at, rvalue}
use Rattle.tsa_sound.specs.PartlyWorked.{IsWorked}
use Rattle.tsa_sound.specs.SettledStatuses.{answer_held}
use Rattle.tsa_sound.proofs.Tests.{IsBeside, as_int, as_null, as_unsigned, beside_is, held_number, never_yields, none_is_some, number}
use Rattle.tsa_sound.proofs.Tests.{same_some, same_yields}
use Rattle.tsa_sound.proofs.Says.{bound}

-- the outcome of a test, by the truth of its value
abbrev pub Tells : Value → Condition → Bool → Type 0
Tells v k given = answer_by (outcome_of (is_true v)) k ≡ Some given

pub equal_tells : (s : Subject) (a k : Bool) (v : Value) → is_true v ≡ same_answer k a → Tells v (condition k s) a
equal_tells s true true v e = ap (λ b. answer_by (outcome_of b) (condition true s)) e
equal_tells s true false v e = ap (λ b. answer_by (outcome_of b) (condition false s)) e
equal_tells s false true v e = ap (λ b. answer_by (outcome_of b) (condition true s)) e
equal_tells s false false v e = ap (λ b. answer_by (outcome_of b) (condition false s)) e

pub unequal_tells : (s : Subject) (a k : Bool) (v : Value) → is_true v ≡ not (same_answer k a) → Tells v (condition (not k) s) a
unequal_tells s true true v e = ap (λ b. answer_by (outcome_of b) (condition false s)) e
unequal_tells s true false v e = ap (λ b. answer_by (outcome_of b) (condition true s)) e
unequal_tells s false true v e = ap (λ b. answer_by (outcome_of b) (condition false s)) e
unequal_tells s false false v e = ap (λ b. answer_by (outcome_of b) (condition true s)) e

-- what an operator gives of numbers that are known
is_of : (w v : Value) (b : Bool) → yields w ≡ yields v → is_true w ≡ b → is_true v ≡ b
is_of w v b e is = ap is_true (sym (same_yields e)) ∙ is

pub equal_left : (a k : Bool) (w v : Value) → IsBeside k w → operate_on op.Equal (Int (pos (number a))) w ≡ yields v → is_true v ≡ same_answer k a
equal_left true true w v as_int e = is_of (Int (pos 1)) v true e refl
equal_left true false w v as_int e = is_of (Int (pos 0)) v false e refl
equal_left false true w v as_int e = is_of (Int (pos 0)) v false e refl
equal_left false false w v as_int e = is_of (Int (pos 1)) v true e refl
equal_left true true w v as_unsigned e = is_of (Int (pos 1)) v true e refl
equal_left true false w v as_unsigned e = is_of (Int (pos 0)) v false e refl
equal_left false true w v as_unsigned e = is_of (Int (pos 0)) v false e refl
equal_left false false w v as_unsigned e = is_of (Int (pos 1)) v true e refl
equal_left a k w v as_null e = never_yields e

pub equal_right : (a k : Bool) (w v : Value) → IsBeside k w → operate_on op.Equal w (Int (pos (number a))) ≡ yields v → is_true v ≡ same_answer k a
equal_right true true w v as_int e = is_of (Int (pos 1)) v true e refl
equal_right true false w v as_int e = is_of (Int (pos 0)) v false e refl
equal_right false true w v as_int e = is_of (Int (pos 0)) v false e refl
equal_right false false w v as_int e = is_of (Int (pos 1)) v true e refl
equal_right true true w v as_unsigned e = is_of (Int (pos 1)) v true e refl
equal_right true false w v as_unsigned e = is_of (Int (pos 0)) v false e refl
equal_right false true w v as_unsigned e = is_of (Int (pos 0)) v false e refl
equal_right false false w v as_unsigned e = is_of (Int (pos 1)) v true e refl
equal_right a k w v as_null e = never_yields e

pub unequal_left : (a k : Bool) (w v : Value) → IsBeside k w → operate_on op.Unequal (Int (pos (number a))) w ≡ yields v → is_true v ≡ not (same_answer k a)
unequal_left true true w v as_int e = is_of (Int (pos 0)) v false e refl
unequal_left true false w v as_int e = is_of (Int (pos 1)) v true e refl
unequal_left false true w v as_int e = is_of (Int (pos 1)) v true e refl
unequal_left false false w v as_int e = is_of (Int (pos 0)) v false e refl
unequal_left true true w v as_unsigned e = is_of (Int (pos 0)) v false e refl
unequal_left true false w v as_unsigned e = is_of (Int (pos 1)) v true e refl
unequal_left false true w v as_unsigned e = is_of (Int (pos 1)) v true e refl
unequal_left false false w v as_unsigned e = is_of (Int (pos 0)) v false e refl
unequal_left a k w v as_null e = never_yields e

pub unequal_right : (a k : Bool) (w v : Value) → IsBeside k w → operate_on op.Unequal w (Int (pos (number a))) ≡ yields v → is_true v ≡ not (same_answer k a)
unequal_right true true w v as_int e = is_of (Int (pos 0)) v false e refl
unequal_right true false w v as_int e = is_of (Int (pos 1)) v true e refl
unequal_right false true w v as_int e = is_of (Int (pos 1)) v true e refl
unequal_right false false w v as_int e = is_of (Int (pos 0)) v false e refl
unequal_right true true w v as_unsigned e = is_of (Int (pos 0)) v false e refl
unequal_right true false w v as_unsigned e = is_of (Int (pos 1)) v true e refl
unequal_right false true w v as_unsigned e = is_of (Int (pos 1)) v true e refl
unequal_right false false w v as_unsigned e = is_of (Int (pos 0)) v false e refl
unequal_right a k w v as_null e = never_yields e

call_is_no_local : {n : ℕ} {A : Type 0} → the_call ≡ the_local n → A
call_is_no_local e = absurd cc

same_local : {m n : ℕ} → the_local m ≡ the_local n → m ≡ n
same_local e = cc

-- only a local itself is one
local_in : (x : Term) (s : Subject) (n : ℕ) → subject_in x ≡ Some s → s ≡ the_local n → x ≡ variable n
local_in (variable m) s n e is = ap variable (same_local (same_some e ∙ is))
local_in answer s n e is = call_is_no_local (same_some e ∙ is)
local_in x s n e is = none_is_some e

module _ (k : Setting) (stable : ℕ → Bool) (l : Layout) (locals : Locals) (n : ℕ) (held : Bool) (holds : answer_held (local_at locals n) ≡ Some held) where
  variable_as_written : (y : Term) → IsWorked k stable locals (variable n) y → y ≡ variable n
  variable_as_written (variable m) is = ap variable (sym is)
  variable_as_written y is = absurd is

  -- what the local is worked out to
  local_is : (x y : Term) (v : Value) → x ≡ variable n → IsWorked k stable locals x y → rvalue l locals y ≡ yields v → v ≡ Int (pos (number held))
  local_is x y v is worked value =
      let written : y ≡ variable n = variable_as_written y (subst (λ z. IsWorked k stable locals z y) is worked) in
      same_yields (sym value ∙ ap (rvalue l locals) written) ∙ held_number (local_at locals n) held holds

  -- a comparison, by what its operator makes of a local and a constant
  module _ (o : BinaryOp) (means : Bool → Bool)
      (left_tells : (s : Subject) (j : Bool) (w v : Value) → IsBeside j w → operate_on o (Int (pos (number held))) w ≡ yields v → Tells v (condition (means j) s) held)
      (right_tells : (s : Subject) (j : Bool) (w v : Value) → IsBeside j w → operate_on o w (Int (pos (number held))) ≡ yields v → Tells v (condition (means j) s) held)
      (a b c d : Term) (worked_left : IsWorked k stable locals a c) (worked_right : IsWorked k stable locals b d) (v : Value)
      (value : bind (rvalue l locals c) (λ x. bind (rvalue l locals d) (λ y. operate_on o x y)) ≡ yields v) (t : Condition) (local : t.subject ≡ the_local n) where
    abbrev left_value : (x : Value) × (rvalue l locals c ≡ yields x) × (bind (rvalue l locals d) (λ y. operate_on o x y) ≡ yields v)
    left_value = bound (rvalue l locals c) (λ x. bind (rvalue l locals d) (λ y. operate_on o x y)) v value

    abbrev right_value : (y : Value) × (rvalue l locals d ≡ yields y) × (operate_on o left_value.0 y ≡ yields v)
    right_value = bound (rvalue l locals d) (λ y. operate_on o left_value.0 y) v left_value.2

    on_left : (s : Subject) (j : Bool) → subject_in a ≡ Some s → answer_beside b ≡ Some j → Some (condition (means j) s) ≡ Some t → Tells v t held
    on_left s j subject other e =
        let is : condition (means j) s ≡ t = same_some e in
        let x_is = local_is a c left_value.0 (local_in a s n subject (ap (λ t. t.subject) is ∙ local)) worked_left left_value.1 in
        subst (λ t. Tells v t held) is (left_tells s j right_value.0 v (beside_is k stable l locals b d right_value.0 j other worked_right right_value.1)
        (ap (λ x. operate_on o x right_value.0) (sym x_is) ∙ right_value.2))

    on_right : (s : Subject) (j : Bool) → subject_in b ≡ Some s → answer_beside a ≡ Some j → Some (condition (means j) s) ≡ Some t → Tells v t held
    on_right s j subject other e =
        let is : condition (means j) s ≡ t = same_some e in
        let y_is = local_is b d right_value.0 (local_in b s n subject (ap (λ t. t.subject) is ∙ local)) worked_right right_value.1 in
        subst (λ t. Tells v t held) is (right_tells s j left_value.0 v (beside_is k stable l locals a c left_value.0 j other worked_left left_value.1)
        (ap (operate_on o left_value.0) (sym y_is) ∙ right_value.2))

    compared : (s : Option Subject) → subject_in a ≡ s → (i : Option Bool) → answer_beside b ≡ i → (r : Option Subject) → subject_in b ≡ r
        → (j : Option Bool) → answer_beside a ≡ j → either (beside means s i) (beside means r j) ≡ Some t → Tells v t held
    compared (Some s) es (Some i) ei r er j ej e = on_left s i es ei e
    compared None es i ei (Some r) er (Some j) ej e = on_right r j er ej e
    compared (Some s) es None ei (Some r) er (Some j) ej e = on_right r j er ej e
    compared None es i ei None er j ej e = none_is_some e
    compared None es i ei (Some r) er None ej e = none_is_some e
    compared (Some s) es None ei None er j ej e = none_is_some e
    compared (Some s) es None ei (Some r) er None ej e = none_is_some e

    pub comparison_tells : comparison means a b ≡ Some t → Tells v t held
    comparison_tells e = compared (subject_in a) refl (answer_beside b) refl (subject_in b) refl (answer_beside a) refl e

  -- a condition of any form
  module _ (v : Value) (t : Condition) (local : t.subject ≡ the_local n) where
    by_itself : (m : ℕ) (y : Term) → Some (condition true (the_local m)) ≡ Some t → IsWorked k stable locals (variable m) y → rvalue l locals y ≡ yields v → Tells v t held
    by_itself m y e worked value =
        let is : condition true (the_local m) ≡ t = same_some e in
        let v_is = local_is (variable m) y v (ap variable (same_local (ap (λ t. t.subject) is ∙ local))) worked value in
        subst (λ t. Tells v t held) is (equal_tells (the_local m) held true v (ap is_true v_is ∙ number_is held))
      where
        number_is : (b : Bool) → is_true (Int (pos (number b))) ≡ same_answer true b
        number_is true = refl
        number_is false = refl

    denied : (x y : Term) (s : Option Subject) → subject_in x ≡ s → option_map (condition false) s ≡ Some t → IsWorked k stable locals x y
        → bind (rvalue l locals y) (λ w. prefix_on prefix.Not w) ≡ yields v → Tells v t held
    denied x y None es e worked value = none_is_some e
    denied x y (Some s) es e worked value =
        let is : condition false s ≡ t = same_some e in
        let part = bound (rvalue l locals y) (λ w. prefix_on prefix.Not w) v value in
        let w_is = local_is x y part.0 (local_in x s n es (ap (λ t. t.subject) is ∙ local)) worked part.1 in
        subst (λ t. Tells v t held) is (equal_tells s held false v
        (ap is_true (sym (same_yields (ap (prefix_on prefix.Not) (sym w_is) ∙ part.2))) ∙ denied_number held))
      where
        denied_number : (b : Bool) → is_true (of_truth (not (is_true (Int (pos (number b)))))) ≡ same_answer false b
        denied_number true = refl
        denied_number false = refl

    -- the outcome of a test of the local tells the answer that it holds
    pub condition_tells : (x y : Term) → condition_in x ≡ Some t → IsWorked k stable locals x y → rvalue l locals y ≡ yields v → Tells v t held
    condition_tells (variable m) y e worked value = by_itself m y e worked value
    condition_tells answer y e worked value = call_is_no_local (ap (λ t. t.subject) (same_some e) ∙ local)
    condition_tells (prefixed prefix.Not x) (prefixed p y) e worked value =
        denied x y (subject_in x) refl e worked.1 (subst (λ o. bind (rvalue l locals y) (λ w. prefix_on o w) ≡ yields v) (sym worked.0) value)
    condition_tells (prefixed prefix.Not x) y e worked value = absurd worked
    condition_tells (joined op.Equal a b) (joined p c d) e worked value =
        comparison_tells op.Equal itself (λ s j w v beside is. equal_tells s held j v (equal_left held j w v beside is))
        (λ s j w v beside is. equal_tells s held j v (equal_right held j w v beside is)) a b c d worked.1 worked.2 v
        (subst (λ o. bind (rvalue l locals c) (λ x. joined_with o x (rvalue l locals d)) ≡ yields v) (sym worked.0) value) t local e
    condition_tells (joined op.Equal a b) y e worked value = absurd worked
    condition_tells (joined op.Unequal a b) (joined p c d) e worked value =
        comparison_tells op.Unequal not (λ s j w v beside is. unequal_tells s held j v (unequal_left held j w v beside is))
        (λ s j w v beside is. unequal_tells s held j v (unequal_right held j w v beside is)) a b c d worked.1 worked.2 v
        (subst (λ o. bind (rvalue l locals c) (λ x. joined_with o x (rvalue l locals d)) ≡ yields v) (sym worked.0) value) t local e
    condition_tells (joined op.Unequal a b) y e worked value = absurd worked
    condition_tells x y e worked value = none_is_some e
