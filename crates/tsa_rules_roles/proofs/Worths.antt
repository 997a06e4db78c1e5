-- The value of a term by the values of its parts, and what values tell is what their terms do.
use Rattle.std.proofs.Common.{◌≡◌, ◌∙◌, Bool, true, false, ◌&&◌, Some, None, option_and_then, Result, if◌then◌else◌, refl, sym, ap}
use Rattle.tsa_base.specs.declared.value.Value.TheVariants.{Int, Unsigned, Pointer}
use Rattle.tsa_tree.specs.declared.expr.BinaryOp.{BinaryOp}
use Rattle.tsa_tree.specs.declared.expr.UnaryOp.{UnaryOp}
use Rattle.tsa_tree.specs.declared.kind.ExpressionType.{ExpressionType}
use Rattle.tsa_tree.specs.declared.kind.Kind.{Kind}
use Rattle.tsa_tree.specs.declared.number.Number.{Number}
use Rattle.tsa_tree.specs.declared.number.Trap.{Trap}
use Rattle.tsa_tree.specs.types.Arithmetic.{operate_prefix}
use Rattle.tsa_tree.specs.types.Constants.{go_on, worked_binary, without_trap}
use Rattle.tsa_tree.specs.types.Operands.{integer_kind, pointer_kind}
use Rattle.tsa_core.specs.Meanings.{beside, is_cell, loaded, null_pointer}
use Rattle.tsa_core.specs.Terms.{Term, constant, variable, answer, global, member, element, target, load, address, converted, prefixed}
use Rattle.tsa_core.specs.Terms.{joined, Sense}
use Rattle.tsa_rules.specs.Conditions.{answer_in, answer_of, constant_in, is_constant, constant_result, subject_in}
use Rattle.tsa_rules.specs.Conditions as rule
use Rattle.tsa_rules_roles.specs.declared.worth.Worth.{Worth}
use Rattle.tsa_rules_roles.specs.declared.worth.Worth.TheVariants as worth
use Rattle.tsa_rules_roles.specs.ValueAnswers as told
use Rattle.tsa_rules_roles.specs.ValueAnswers.{subject, number}
use Rattle.tsa_rules_roles.specs.Worths.{otherwise, worth_of, gist_of, number_behind, joined_worth, worth_beside}

-- What is no constant is no number.
abbrev pub is_numeric : Worth → Bool
is_numeric (worth.Number r) = true
is_numeric _ = false

pub plain : (x : Term) → is_numeric (otherwise x) ≡ false
plain (constant (Int z)) = refl
plain (constant (Unsigned n)) = refl
plain (constant (Pointer None)) = refl
plain (constant (Pointer (Some p))) = refl
plain (variable n) = refl
plain answer = refl
plain (global n) = refl
plain (member base n) = refl
plain (element base i) = refl
plain (target p) = refl
plain (load stable place) = refl
plain (address place) = refl
plain (converted kind inner) = refl
plain (prefixed o inner) = refl
plain (joined o left right) = refl

-- what is worked out from numbers
no_number : (w : Worth) → is_numeric w ≡ false → number w ≡ None
no_number worth.Call e = refl
no_number (worth.Local n) e = refl
no_number (worth.Number r) e = cc
no_number worth.Null e = refl
no_number worth.Other e = refl

none_behind : (o : UnaryOp) (w : Worth) → is_numeric w ≡ false → number_behind o w ≡ worth.Other
none_behind o worth.Call e = refl
none_behind o (worth.Local n) e = refl
none_behind o (worth.Number r) e = cc
none_behind o worth.Null e = refl
none_behind o worth.Other e = refl

none_left : (o : BinaryOp) (w v : Worth) → is_numeric w ≡ false → joined_worth o w v ≡ worth.Other
none_left o worth.Call v e = refl
none_left o (worth.Local n) v e = refl
none_left o (worth.Number r) v e = cc
none_left o worth.Null v e = refl
none_left o worth.Other v e = refl

none_right : (o : BinaryOp) (r : Result Number Trap) (w : Worth) → is_numeric w ≡ false → joined_worth o (worth.Number r) w ≡ worth.Other
none_right o r worth.Call e = refl
none_right o r (worth.Local n) e = refl
none_right o r (worth.Number s) e = cc
none_right o r worth.Null e = refl
none_right o r worth.Other e = refl

constant_by : (b : Bool) (r : Result Number Trap) (w : Worth) → is_numeric w ≡ false → (if b then without_trap r else None) ≡ number (if b then worth.Number r else w)
constant_by true r w e = refl
constant_by false r w e = sym (no_number w e)

pub constant_is : (x : Term) → constant_in x ≡ number (worth_of x)
constant_is x = constant_by (is_constant x) (constant_result x) (otherwise x) (plain x)

pub answer_is : (x : Term) → answer_of x ≡ told.answer (worth_of x)
answer_is x = ap (option_and_then answer_in) (constant_is x)

behind_by : (o : UnaryOp) (b : Bool) (r : Result Number Trap) (w : Worth) → is_numeric w ≡ false
    → (if b then worth.Number (go_on r (operate_prefix o)) else worth.Other) ≡ number_behind o (if b then worth.Number r else w)
behind_by o true r w e = refl
behind_by o false r w e = sym (none_behind o w e)

pub prefixed_is : (o : UnaryOp) (x : Term) → worth_of (prefixed o x) ≡ number_behind o (worth_of x)
prefixed_is o x = behind_by o (is_constant x) (constant_result x) (otherwise x) (plain x)

joined_by : (o : BinaryOp) (a b : Bool) (r s : Result Number Trap) (w v : Worth) → is_numeric w ≡ false → is_numeric v ≡ false
    → (if a && b then worth.Number (worked_binary o r s) else worth.Other) ≡ joined_worth o (if a then worth.Number r else w) (if b then worth.Number s else v)
joined_by o true true r s w v e f = refl
joined_by o true false r s w v e f = sym (none_right o r v f)
joined_by o false b r s w v e f = sym (none_left o w (if b then worth.Number s else v) e)

pub joined_is : (o : BinaryOp) (x y : Term) → worth_of (joined o x y) ≡ joined_worth o (worth_of x) (worth_of y)
joined_is o x y = joined_by o (is_constant x) (is_constant y) (constant_result x) (constant_result y) (otherwise x) (otherwise y) (plain x) (plain y)

-- a place is no constant, and neither is what stands there
load_by : (b stable : Bool) (x : Term) → worth_of x ≡ worth.Other → worth_of (if b then load stable x else x) ≡ worth_of x
load_by true stable x e = sym e
load_by false stable x e = refl

loaded_term : (x : Term) (t : ExpressionType) (stable : Bool) → worth_of (loaded (record { term = x; type = t; is_stable = stable })) ≡ worth_of x
loaded_term (constant v) t stable = refl
loaded_term (variable n) t stable = refl
loaded_term answer t stable = refl
loaded_term (global n) t stable = load_by (is_cell t.thing) stable (global n) refl
loaded_term (member base n) t stable = load_by (is_cell t.thing) stable (member base n) refl
loaded_term (element base i) t stable = load_by (is_cell t.thing) stable (element base i) refl
loaded_term (target p) t stable = load_by (is_cell t.thing) stable (target p) refl
loaded_term (load s place) t stable = refl
loaded_term (address place) t stable = refl
loaded_term (converted kind inner) t stable = refl
loaded_term (prefixed o inner) t stable = refl
loaded_term (joined o left right) t stable = refl

pub loaded_is : (s : Sense) → worth_of (loaded s) ≡ worth_of s.term
loaded_is s = loaded_term s.term s.type s.is_stable

beside_by : (b : Bool) (x : Term) → worth_of (if b then null_pointer else x) ≡ (if b then worth.Null else worth_of x)
beside_by true x = refl
beside_by false x = refl

pub beside_is : (other : Kind) (s : Sense) → worth_of (beside other s) ≡ worth_beside other (gist_of s)
beside_is other s =
    let b = pointer_kind other && integer_kind s.type.thing.kind in
    beside_by b (loaded s) ∙ ap (λ w. if b then worth.Null else w) (loaded_is s)

-- What a test looks at, and the answer beside which that stands.
no_subject : (b : Bool) (r : Result Number Trap) → None ≡ subject (if b then worth.Number r else worth.Other)
no_subject true r = refl
no_subject false r = refl

pub subject_is : (x : Term) → subject_in x ≡ subject (worth_of x)
subject_is (constant (Int z)) = refl
subject_is (constant (Unsigned n)) = refl
subject_is (constant (Pointer None)) = refl
subject_is (constant (Pointer (Some p))) = refl
subject_is (variable n) = refl
subject_is answer = refl
subject_is (global n) = refl
subject_is (member base n) = refl
subject_is (element base i) = refl
subject_is (target p) = refl
subject_is (load stable place) = refl
subject_is (address place) = refl
subject_is (converted kind inner) = no_subject (is_constant inner) _
subject_is (prefixed o inner) = no_subject (is_constant inner) _
subject_is (joined o left right) = no_subject (is_constant left && is_constant right) _

answer_by : (b : Bool) (r : Result Number Trap) → option_and_then answer_in (if b then without_trap r else None) ≡ told.answer_beside (if b then worth.Number r else worth.Other)
answer_by true r = refl
answer_by false r = refl

pub answer_beside_is : (x : Term) → rule.answer_beside x ≡ told.answer_beside (worth_of x)
answer_beside_is (constant (Int z)) = refl
answer_beside_is (constant (Unsigned n)) = refl
answer_beside_is (constant (Pointer None)) = refl
answer_beside_is (constant (Pointer (Some p))) = refl
answer_beside_is (variable n) = refl
answer_beside_is answer = refl
answer_beside_is (global n) = refl
answer_beside_is (member base n) = refl
answer_beside_is (element base i) = refl
answer_beside_is (target p) = refl
answer_beside_is (load stable place) = refl
answer_beside_is (address place) = refl
answer_beside_is (converted kind inner) = answer_by (is_constant inner) _
answer_beside_is (prefixed o inner) = answer_by (is_constant inner) _
answer_beside_is (joined o left right) = answer_by (is_constant left && is_constant right) _
