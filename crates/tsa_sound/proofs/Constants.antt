-- Constant terms are worked out to what the rules take them for.
use Rattle.std.proofs.Common.{◌≡◌, ℕ, Bool, true, false, not, ◌&&◌, Result, Ok, Err, if◌then◌else◌, refl, ap, sym, subst}
use Rattle.tsa_base.specs.declared.value.Value.{Value}
use Rattle.tsa_base.specs.declared.value.Value.TheVariants.{Int, Unsigned, Pointer}
use Rattle.tsa_tree.specs.declared.expr.BinaryOp.{BinaryOp}
use Rattle.tsa_tree.specs.declared.expr.BinaryOp.TheVariants as op
use Rattle.tsa_tree.specs.declared.expr.UnaryOp.{UnaryOp}
use Rattle.tsa_tree.specs.declared.expr.UnaryOp.TheVariants as prefix
use Rattle.tsa_tree.specs.declared.kind.Kind.{Kind}
use Rattle.tsa_tree.specs.declared.kind.Kind.TheVariants as type
use Rattle.tsa_tree.specs.declared.number.Number.{Number}
use Rattle.tsa_tree.specs.declared.number.Number.TheVariants as numeral
use Rattle.tsa_tree.specs.declared.number.Trap.{Trap}
use Rattle.tsa_tree.specs.declared.number.Trap.TheVariants.{Overflow, Division}
use Rattle.tsa_tree.specs.types.Arithmetic.{is_nonzero, operate, operate_prefix, truth}
use Rattle.tsa_tree.specs.types.Constants.{as_truth, go_on, worked_binary}
use Rattle.tsa_place_model.specs.Calls.{Layout}
use Rattle.tsa_place_model.specs.Items as cell
use Rattle.tsa_core.specs.Kinds.{Setting}
use Rattle.tsa_core.specs.Meanings.{of_number}
use Rattle.tsa_core.specs.Terms.{Term, constant, variable, answer, global, member, element, target, load, address, converted, prefixed}
use Rattle.tsa_core.specs.Terms.{joined}
use Rattle.tsa_rules.specs.Conditions.{as_kind, constant_result, is_constant, is_number, number_in}
use Rattle.tsa_path.specs.Values.{is_true, of_truth}
use Rattle.tsa_mean.specs.Operators.{converted_to, joined_with, of_result, operate_on, prefix_on, truth_of}
use Rattle.tsa_mean.specs.Outs.{Out, traps, reads, yields, bind}
use Rattle.tsa_mean.specs.Working.{Locals, rvalue}
use Rattle.tsa_sound.specs.PartlyWorked.{IsWorked}

pub differ : {A : Type 0} → false ≡ true → A
differ e = absurd cc

pub both : (a b : Bool) → (a && b) ≡ true → (a ≡ true) × (b ≡ true)
both true b e = (refl, e)
both false b e = differ e

-- what a turn comes to, beside what the rules find: the same number, or a trap
abbrev pub Matches : Out Value → Result Number Trap → Type 0
Matches (yields v) (Ok n) = v ≡ of_number n
Matches (traps kind) (Err trap) = Unit {0}
Matches out r = ⊥

matches_both : (out : Out Value) (r : Result Number Trap) (f : Value → Out Value) (g : Number → Result Number Trap) → Matches out r
    → ((n : Number) → Matches (f (of_number n)) (g n)) → Matches (bind out f) (go_on r g)
matches_both (yields v) (Ok n) f g is each = subst (λ w. Matches (f w) (g n)) (sym is) (each n)
matches_both (traps kind) (Err trap) f g is each = tt
matches_both (yields v) (Err trap) f g is each = absurd is
matches_both (traps kind) (Ok n) f g is each = absurd is
matches_both (reads place) r f g is each = absurd is

number_of : (v : Value) → is_number v ≡ true → v ≡ of_number (number_in v)
number_of (Int z) e = refl
number_of (Unsigned n) e = refl
number_of (Pointer p) e = differ e

conversions : (kind : Kind) (n : Number) → cell.converted kind n ≡ of_number (as_kind kind n)
conversions type.Unsigned n = refl
conversions kind n = refl

conversion_matches : (kind : Kind) (n : Number) → Matches (converted_to kind (of_number n)) (Ok (as_kind kind n))
conversion_matches kind (numeral.Int z) = conversions kind (numeral.Int z)
conversion_matches kind (numeral.Unsigned n) = conversions kind (numeral.Unsigned n)

result_matches : (r : Result Number Trap) → Matches (of_result r) r
result_matches (Ok n) = refl
result_matches (Err Overflow) = tt
result_matches (Err Division) = tt

truth_is : (n : Number) → is_true (of_number n) ≡ is_nonzero n
truth_is (numeral.Int z) = refl
truth_is (numeral.Unsigned n) = refl

prefix_matches : (o : UnaryOp) (n : Number) → Matches (prefix_on o (of_number n)) (operate_prefix o n)
prefix_matches prefix.Not n = ap (λ b. of_number (truth (not b))) (truth_is n)
prefix_matches o (numeral.Int z) = result_matches (operate_prefix o (numeral.Int z))
prefix_matches o (numeral.Unsigned n) = result_matches (operate_prefix o (numeral.Unsigned n))

truth_matches : (right : Out Value) (r : Result Number Trap) → Matches right r → Matches (truth_of right) (as_truth r)
truth_matches right r is =
    matches_both right r (λ w. yields (of_truth (is_true w))) (λ n. Ok (truth (is_nonzero n))) is (λ n. ap (λ b. of_number (truth b)) (truth_is n))

or_matches : (b : Bool) (right : Out Value) (r : Result Number Trap) → Matches right r
    → Matches (if b then yields (of_truth true) else truth_of right) (if b then Ok (truth true) else as_truth r)
or_matches true right r is = refl
or_matches false right r is = truth_matches right r is

and_matches : (b : Bool) (right : Out Value) (r : Result Number Trap) → Matches right r
    → Matches (if b then truth_of right else yields (of_truth false)) (if b then as_truth r else Ok (truth false))
and_matches true right r is = truth_matches right r is
and_matches false right r is = refl

operator_matches : (o : BinaryOp) (a b : Number) → Matches (operate_on o (of_number a) (of_number b)) (operate o a b)
operator_matches o (numeral.Int y) (numeral.Int z) = result_matches (operate o (numeral.Int y) (numeral.Int z))
operator_matches o (numeral.Int y) (numeral.Unsigned n) = result_matches (operate o (numeral.Int y) (numeral.Unsigned n))
operator_matches o (numeral.Unsigned m) (numeral.Int z) = result_matches (operate o (numeral.Unsigned m) (numeral.Int z))
operator_matches o (numeral.Unsigned m) (numeral.Unsigned n) = result_matches (operate o (numeral.Unsigned m) (numeral.Unsigned n))

second_matches : (o : BinaryOp) (a : Number) (right : Out Value) (r : Result Number Trap) → Matches right r
    → Matches (bind right (λ w. operate_on o (of_number a) w)) (go_on r (λ b. operate o a b))
second_matches o a right r is = matches_both right r (λ w. operate_on o (of_number a) w) (λ b. operate o a b) is (λ b. operator_matches o a b)

joined_matches : (o : BinaryOp) (left right : Out Value) (l r : Result Number Trap) → Matches left l → Matches right r
    → Matches (bind left (λ v. joined_with o v right)) (worked_binary o l r)
joined_matches op.And left right l r one other = matches_both left l (λ v. joined_with op.And v right) (λ a. if is_nonzero a then as_truth r else Ok (truth false)) one
    (λ a. subst (λ b. Matches (if b then truth_of right else yields (of_truth false)) (if is_nonzero a then as_truth r else Ok (truth false))) (sym (truth_is a))
    (and_matches (is_nonzero a) right r other))
joined_matches op.Or left right l r one other = matches_both left l (λ v. joined_with op.Or v right) (λ a. if is_nonzero a then Ok (truth true) else as_truth r) one
    (λ a. subst (λ b. Matches (if b then yields (of_truth true) else truth_of right) (if is_nonzero a then Ok (truth true) else as_truth r)) (sym (truth_is a))
    (or_matches (is_nonzero a) right r other))
joined_matches o left right l r one other =
    matches_both left l (λ v. joined_with o v right) (λ a. go_on r (λ b. operate o a b)) one (λ a. second_matches o a right r other)

pub constants_match : (l : Layout) (locals : Locals) (x : Term) → is_constant x ≡ true → Matches (rvalue l locals x) (constant_result x)
constants_match l locals (constant v) e = number_of v e
constants_match l locals (converted kind inner) e =
    matches_both (rvalue l locals inner) (constant_result inner) (λ v. converted_to kind v) (λ n. Ok (as_kind kind n)) (constants_match l locals inner e) (conversion_matches kind)
constants_match l locals (prefixed o inner) e =
    matches_both (rvalue l locals inner) (constant_result inner) (λ v. prefix_on o v) (operate_prefix o) (constants_match l locals inner e) (prefix_matches o)
constants_match l locals (joined o left right) e =
    let parts = both (is_constant left) (is_constant right) e in
    joined_matches o (rvalue l locals left) (rvalue l locals right) (constant_result left) (constant_result right)
    (constants_match l locals left parts.0) (constants_match l locals right parts.1)
constants_match l locals (variable n) e = differ e
constants_match l locals answer e = differ e
constants_match l locals (global n) e = differ e
constants_match l locals (member base k) e = differ e
constants_match l locals (element base index) e = differ e
constants_match l locals (target pointer) e = differ e
constants_match l locals (load is_stable place) e = differ e
constants_match l locals (address place) e = differ e

-- nothing is worked out in a constant term
pub constant_as_written : (k : Setting) (stable : ℕ → Bool) (locals : Locals) (x y : Term) → is_constant x ≡ true → IsWorked k stable locals x y → x ≡ y
constant_as_written k stable locals (constant v) (constant w) e is = ap constant is
constant_as_written k stable locals (constant v) y e is = absurd is
constant_as_written k stable locals (converted m s) (converted n t) e is =
    let inner = constant_as_written k stable locals s t e is.1 in λ i. converted (is.0 i) (inner i)
constant_as_written k stable locals (converted m s) y e is = absurd is
constant_as_written k stable locals (prefixed o s) (prefixed p t) e is =
    let inner = constant_as_written k stable locals s t e is.1 in λ i. prefixed (is.0 i) (inner i)
constant_as_written k stable locals (prefixed o s) y e is = absurd is
constant_as_written k stable locals (joined o a b) (joined p c d) e is =
    let parts = both (is_constant a) (is_constant b) e in
    let left = constant_as_written k stable locals a c parts.0 is.1 in
    let right = constant_as_written k stable locals b d parts.1 is.2 in
    λ i. joined (is.0 i) (left i) (right i)
constant_as_written k stable locals (joined o a b) y e is = absurd is
constant_as_written k stable locals (variable n) y e is = differ e
constant_as_written k stable locals answer y e is = differ e
constant_as_written k stable locals (global n) y e is = differ e
constant_as_written k stable locals (member base n) y e is = differ e
constant_as_written k stable locals (element base index) y e is = differ e
constant_as_written k stable locals (target pointer) y e is = differ e
constant_as_written k stable locals (load is_stable place) y e is = differ e
constant_as_written k stable locals (address place) y e is = differ e
