-- What the answer of a call becomes where a value of a kind is wanted, and beside what it is compared with.
use Rattle.std.proofs.Common.{◌≡◌, ℕ, pos, negsuc, nat_eq, Bool, true, false, ◌&&◌, ◌||◌, Option, Some, None, IsSome, option_and_then}
use Rattle.std.proofs.Common.{is_none, is_some, if◌then◌else◌, refl, sym, ap, subst}
use Rattle.tsa_base.specs.declared.value.Value.TheVariants.{Int, Unsigned, Pointer}
use Rattle.tsa_base.proofs.Truths.{never, or_right}
use Rattle.tsa_tree.specs.declared.expr.BinaryOp.{BinaryOp}
use Rattle.tsa_tree.specs.declared.kind.ExpressionType.{ExpressionType}
use Rattle.tsa_tree.specs.declared.kind.Kind.{Kind}
use Rattle.tsa_tree.specs.declared.kind.Kind.TheVariants as type
use Rattle.tsa_tree.specs.declared.kind.ThingType.{ThingType}
use Rattle.tsa_tree.specs.declared.number.Number.{Number}
use Rattle.tsa_tree.specs.declared.number.Number.TheVariants as numeral
use Rattle.tsa_tree.specs.types.Operands.{integer_kind, pointer_kind, unsigned_kind, is_integer, is_pointer, is_single, same_target}
use Rattle.tsa_tree.specs.types.Operands.{keeps_const, target_of, comparable, goes_to, null_beside}
use Rattle.tsa_core.specs.Bodies.{declare, set_to}
use Rattle.tsa_core.specs.Kinds.{scalar_kind}
use Rattle.tsa_core.specs.Meanings.{as_kind, beside, is_int, loaded, null_pointer, of_type}
use Rattle.tsa_core.specs.Terms.{Term, constant, variable, answer, global, member, element, target, load, address, converted, prefixed}
use Rattle.tsa_core.specs.Terms.{joined, Sense}
use Rattle.tsa_core.proofs.KindTests.{both_true, one_of, or_left, integer_is, pointer_plain}
use Rattle.tsa_profile_accesses.specs.Expressions.{is_truth}
use Rattle.tsa_rules.specs.Conditions as cond
use Rattle.tsa_rules.specs.Conditions.{Condition, Subject, the_call, condition, condition_at, answer_in, answer_of, answer_beside}
use Rattle.tsa_rules.specs.Conditions.{subject_in, yes_or_no}
use Rattle.tsa_sound.specs.CallFacts.{CanCall, IsAnswer}

-- a contradiction of a test
pub clash : {A : Type 0} (b : Bool) → b ≡ true → b ≡ false → A
clash true h g = never g
clash false h g = never (sym h)

pub untrue : (b : Bool) → (b ≡ true → ⊥) → b ≡ false
untrue true h = absurd (h refl)
untrue false h = refl

-- WHERE A VALUE OF A KIND IS WANTED

target_pointer : (a b : Kind) → same_target a b ≡ true → pointer_kind a ≡ true
target_pointer type.Null b e = refl
target_pointer (type.Pointer n c) b e = refl
target_pointer type.Int b e = never (sym e)
target_pointer type.Unsigned b e = never (sym e)
target_pointer type.Void b e = never (sym e)
target_pointer (type.Structure n) b e = never (sym e)
target_pointer type.Function b e = never (sym e)

no_target : (a b : Kind) → same_target a b ≡ true → integer_kind b ≡ true → ⊥
no_target type.Null type.Int e f = never (sym e)
no_target type.Null type.Unsigned e f = never (sym e)
no_target type.Null type.Void e f = never (sym f)
no_target type.Null (type.Structure n) e f = never (sym f)
no_target type.Null (type.Pointer n c) e f = never (sym f)
no_target type.Null type.Null e f = never (sym f)
no_target type.Null type.Function e f = never (sym f)
no_target (type.Pointer m d) type.Int e f = never (sym e)
no_target (type.Pointer m d) type.Unsigned e f = never (sym e)
no_target (type.Pointer m d) type.Void e f = never (sym f)
no_target (type.Pointer m d) (type.Structure n) e f = never (sym f)
no_target (type.Pointer m d) (type.Pointer n c) e f = never (sym f)
no_target (type.Pointer m d) type.Null e f = never (sym f)
no_target (type.Pointer m d) type.Function e f = never (sym f)
no_target type.Int b e f = never (sym e)
no_target type.Unsigned b e f = never (sym e)
no_target type.Void b e f = never (sym e)
no_target (type.Structure n) b e f = never (sym e)
no_target type.Function b e f = never (sym e)

no_both : {A : Type 0} (kind : Kind) → pointer_kind kind ≡ true → integer_kind kind ≡ true → A
no_both kind p i = clash (integer_kind kind) i (pointer_plain kind p).2

-- what goes to a thing, and is no zero, is an integer for an integer, or a pointer for a pointer
goes_either : {A : Type 0} (t : ExpressionType) (w : ThingType) → goes_to t w ≡ true → t.is_zero ≡ false
    → (integer_kind t.thing.kind ≡ true → integer_kind w.kind ≡ true → A)
    → (pointer_kind t.thing.kind ≡ true → A) → A
goes_either t w e plain f g =
    one_of (is_integer t && integer_kind w.kind) _ (both_true (is_none w.length) _ e).1
    (λ i. let x = both_true (is_integer t) (integer_kind w.kind) i in f (integer_is t x.0).1 x.1)
    (λ d. one_of (t.is_zero && is_some (target_of w.kind)) _ d (λ z. clash t.is_zero (both_true t.is_zero (is_some (target_of w.kind)) z).0 plain)
    (λ p. let x = both_true (is_single t) _ p in
    let y = both_true (is_some (target_of w.kind)) _ x.1 in
    g (target_pointer t.thing.kind w.kind (both_true (same_target t.thing.kind w.kind) (keeps_const t.thing.kind w.kind) y.1).0)))

pub goes_scalar : (t : ExpressionType) (w : ThingType) → goes_to t w ≡ true → t.is_zero ≡ false → scalar_kind t.thing.kind ≡ true
goes_scalar t w e plain =
    goes_either t w e plain (λ i j. or_left (integer_kind t.thing.kind) (pointer_kind t.thing.kind) i)
    (λ p. or_right (integer_kind t.thing.kind) (pointer_kind t.thing.kind) p)

pub goes_plain : (t : ExpressionType) (w : ThingType) → goes_to t w ≡ true → t.is_zero ≡ false → (pointer_kind w.kind && integer_kind t.thing.kind) ≡ false
goes_plain t w e plain =
    untrue (pointer_kind w.kind && integer_kind t.thing.kind)
    (λ h. let x = both_true (pointer_kind w.kind) (integer_kind t.thing.kind) h in
    goes_either t w e plain (λ i j. no_both w.kind x.0 j) (λ p. no_both t.thing.kind p x.1))

-- the answer of a call stays, or is converted
or_converted : (b : Bool) (kind : Kind) → IsAnswer (if b then converted kind answer else answer)
or_converted true kind = tt
or_converted false kind = tt

or_null : (b : Bool) → b ≡ false → IsAnswer (if b then null_pointer else answer)
or_null true e = never e
or_null false e = tt

pub answer_kept : (kind : Kind) (t : ExpressionType) → (pointer_kind kind && integer_kind t.thing.kind) ≡ false → IsAnswer (as_kind kind (of_type answer t))
answer_kept type.Int t e = or_converted (unsigned_kind t.thing.kind) type.Int
answer_kept type.Unsigned t e = or_converted (is_int t.thing.kind) type.Unsigned
answer_kept type.Void t e = tt
answer_kept (type.Structure n) t e = tt
answer_kept (type.Pointer n c) t e = or_null (integer_kind t.thing.kind) e
answer_kept type.Null t e = or_null (integer_kind t.thing.kind) e
answer_kept type.Function t e = tt

pub int_answer : (t : ExpressionType) → t.thing.kind ≡ type.Int → as_kind type.Int (of_type answer t) ≡ answer
int_answer t e = ap (λ kind. if unsigned_kind kind then converted type.Int answer else answer) e

-- COMPARISONS

pub compared_left : (a b : ExpressionType) → comparable a b ≡ true → a.is_zero ≡ false → (pointer_kind b.thing.kind && integer_kind a.thing.kind) ≡ false
compared_left a b e plain =
    untrue (pointer_kind b.thing.kind && integer_kind a.thing.kind)
    (λ h. let x = both_true (pointer_kind b.thing.kind) (integer_kind a.thing.kind) h in
    one_of (is_integer a && is_integer b) _ e (λ i. no_both b.thing.kind x.0 (integer_is b (both_true (is_integer a) (is_integer b) i).1).1)
    (λ d. one_of (is_single a && (is_single b && same_target a.thing.kind b.thing.kind)) _ d
    (λ s. let y = both_true (is_single b) (same_target a.thing.kind b.thing.kind) (both_true (is_single a) _ s).1 in
    no_both a.thing.kind (target_pointer a.thing.kind b.thing.kind y.1) x.1)
    (λ z. one_of (null_beside a b) (null_beside b a) z (λ y. clash a.is_zero (both_true a.is_zero (is_pointer b) y).0 plain)
    (λ y. no_both a.thing.kind (both_true (is_single a) (pointer_kind a.thing.kind) (both_true b.is_zero (is_pointer a) y).1).1 x.1))))

pub compared_right : (a b : ExpressionType) → comparable a b ≡ true → b.is_zero ≡ false → (pointer_kind a.thing.kind && integer_kind b.thing.kind) ≡ false
compared_right a b e plain =
    untrue (pointer_kind a.thing.kind && integer_kind b.thing.kind)
    (λ h. let x = both_true (pointer_kind a.thing.kind) (integer_kind b.thing.kind) h in
    one_of (is_integer a && is_integer b) _ e (λ i. no_both a.thing.kind x.0 (integer_is a (both_true (is_integer a) (is_integer b) i).0).1)
    (λ d. one_of (is_single a && (is_single b && same_target a.thing.kind b.thing.kind)) _ d
    (λ s. let y = both_true (is_single b) (same_target a.thing.kind b.thing.kind) (both_true (is_single a) _ s).1 in
    absurd (no_target a.thing.kind b.thing.kind y.1 x.1))
    (λ z. one_of (null_beside a b) (null_beside b a) z
    (λ y. no_both b.thing.kind (both_true (is_single b) (pointer_kind b.thing.kind) (both_true a.is_zero (is_pointer b) y).1).1 x.1)
    (λ y. clash b.is_zero (both_true b.is_zero (is_pointer a) y).0 plain))))

pub beside_answer : (other : Kind) (t : ExpressionType) → (pointer_kind other && integer_kind t.thing.kind) ≡ false → beside other (of_type answer t) ≡ answer
beside_answer other t e = ap (λ b. if b then null_pointer else answer) e

pub beside_number : (s : Sense) → beside type.Int s ≡ loaded s
beside_number s = refl

-- a comparison with the answer of a call looks at that
left_looks : (y : Bool → Bool) (o : Option Bool) (s : Option Subject) (k : Condition)
    → cond.either (cond.beside y (Some the_call) o) (cond.beside y s None) ≡ Some k → k.subject ≡ the_call
left_looks y None None k e = absurd cc
left_looks y None (Some s) k e = absurd cc
left_looks y (Some b) s k e = let same : condition (y b) the_call ≡ k = cc in ap (λ x. x.subject) (sym same)

right_looks : (y : Bool → Bool) (o : Option Bool) (s : Option Subject) (k : Condition)
    → cond.either (cond.beside y s None) (cond.beside y (Some the_call) o) ≡ Some k → k.subject ≡ the_call
right_looks y None None k e = absurd cc
right_looks y None (Some s) k e = absurd cc
right_looks y (Some b) None k e = let same : condition (y b) the_call ≡ k = cc in ap (λ x. x.subject) (sym same)
right_looks y (Some b) (Some s) k e = let same : condition (y b) the_call ≡ k = cc in ap (λ x. x.subject) (sym same)

pub left_asks : (y : Bool → Bool) (x : Term) (k : Condition) → cond.comparison y answer x ≡ Some k → k.subject ≡ the_call
left_asks y x k e = left_looks y (answer_beside x) (subject_in x) k e

pub right_asks : (y : Bool → Bool) (x : Term) (k : Condition) → cond.comparison y x answer ≡ Some k → k.subject ≡ the_call
right_asks y x k e = right_looks y (answer_beside x) (subject_in x) k e

left_some : (y : Bool → Bool) (o : Option Bool) (s : Option Subject) → IsSome o → IsSome (cond.either (cond.beside y (Some the_call) o) (cond.beside y s None))
left_some y None s h = never (sym h)
left_some y (Some b) s h = refl

right_some : (y : Bool → Bool) (o : Option Bool) (s : Option Subject) → IsSome o → IsSome (cond.either (cond.beside y s None) (cond.beside y (Some the_call) o))
right_some y None s h = never (sym h)
right_some y (Some b) None h = refl
right_some y (Some b) (Some s) h = refl

pub left_takes : (y : Bool → Bool) (x : Term) → IsSome (answer_beside x) → IsSome (cond.comparison y answer x)
left_takes y x h = left_some y (answer_beside x) (subject_in x) h

pub right_takes : (y : Bool → Bool) (x : Term) → IsSome (answer_beside x) → IsSome (cond.comparison y x answer)
right_takes y x h = right_some y (answer_beside x) (subject_in x) h

-- 0 and 1 are answers
small_some : (n : ℕ) → (nat_eq n 0 || nat_eq n 1) ≡ true → IsSome (yes_or_no n)
small_some n h = by (nat_eq n 1) (nat_eq n 0) h
  where
    by : (one zero : Bool) → (zero || one) ≡ true → IsSome (if one then Some true else if zero then Some false else None)
    by true zero h = refl
    by false true h = refl
    by false false h = never (sym h)

truth_some : (n : Number) → is_truth n ≡ true → IsSome (answer_in n)
truth_some (numeral.Int (pos n)) h = small_some n h
truth_some (numeral.Int (negsuc n)) h = never (sym h)
truth_some (numeral.Unsigned n) h = small_some n h

beside_some : (x : Term) → IsSome (answer_of x) → IsSome (answer_beside x)
beside_some (constant (Int z)) h = h
beside_some (constant (Unsigned n)) h = h
beside_some (constant (Pointer None)) h = refl
beside_some (constant (Pointer (Some p))) h = h
beside_some (variable n) h = h
beside_some answer h = h
beside_some (global n) h = h
beside_some (member base n) h = h
beside_some (element base i) h = h
beside_some (target p) h = h
beside_some (load s p) h = h
beside_some (address p) h = h
beside_some (converted to x) h = h
beside_some (prefixed o x) h = h
beside_some (joined o x y) h = h

pub constant_some : (x : Term) (n : Number) → cond.constant_in x ≡ Some n → is_truth n ≡ true → IsSome (answer_beside x)
constant_some x n e h = beside_some x (subst (λ o. IsSome (option_and_then answer_in o)) (sym e) (truth_some n h))

-- ASSIGNMENTS

pub set_calls : (x : Term) (o : Option BinaryOp) (kind : Kind) (r : Term) → CanCall (set_to x o kind r)
set_calls (variable n) o kind r = tt
set_calls (constant v) o kind r = tt
set_calls answer o kind r = tt
set_calls (global n) o kind r = tt
set_calls (member base n) o kind r = tt
set_calls (element base i) o kind r = tt
set_calls (target p) o kind r = tt
set_calls (load s p) o kind r = tt
set_calls (address p) o kind r = tt
set_calls (converted to y) o kind r = tt
set_calls (prefixed u y) o kind r = tt
set_calls (joined b y z) o kind r = tt

pub set_asks : (x : Term) (o : Option BinaryOp) (kind : Kind) (r : Term) → condition_at (set_to x o kind r) ≡ None
set_asks (variable n) o kind r = refl
set_asks (constant v) o kind r = refl
set_asks answer o kind r = refl
set_asks (global n) o kind r = refl
set_asks (member base n) o kind r = refl
set_asks (element base i) o kind r = refl
set_asks (target p) o kind r = refl
set_asks (load s p) o kind r = refl
set_asks (address p) o kind r = refl
set_asks (converted to y) o kind r = refl
set_asks (prefixed u y) o kind r = refl
set_asks (joined b y z) o kind r = refl

pub set_declares : (x : Term) (o : Option BinaryOp) (kind : Kind) (r : Term) (n : ℕ) (other : Kind) (y : Term) → set_to x o kind r ≡ declare n other y → ⊥
set_declares (variable m) o kind r n other y e = cc
set_declares (constant v) o kind r n other y e = cc
set_declares answer o kind r n other y e = cc
set_declares (global m) o kind r n other y e = cc
set_declares (member base m) o kind r n other y e = cc
set_declares (element base i) o kind r n other y e = cc
set_declares (target p) o kind r n other y e = cc
set_declares (load s p) o kind r n other y e = cc
set_declares (address p) o kind r n other y e = cc
set_declares (converted to z) o kind r n other y e = cc
set_declares (prefixed u z) o kind r n other y e = cc
set_declares (joined b z w) o kind r n other y e = cc
