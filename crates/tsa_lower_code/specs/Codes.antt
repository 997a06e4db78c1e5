-- What is still to come of code, and the code of a term.
use Rattle.std.specs.Prelude.{ℕ, zero, suc, ◌+◌, max, pos, Bool, true, false, List, [], ◌∷◌, ◌++◌, length, take, drop, get_or, set, Option}
use Rattle.std.specs.Prelude.{Some, None}
use Rattle.tsa_base.specs.declared.value.Value.{Value}
use Rattle.tsa_base.specs.declared.value.Value.TheVariants as the
use Rattle.tsa_tree.specs.declared.expr.BinaryOp.{BinaryOp}
use Rattle.tsa_tree.specs.declared.expr.BinaryOp.TheVariants as op
use Rattle.tsa_place_model.specs.Calls.{Layout, global_place}
use Rattle.tsa_core.specs.Terms as term
use Rattle.tsa_core.specs.Terms.{Term}
use Rattle.tsa_path.specs.Values.{is_true, of_truth}
use Rattle.tsa_sched.specs.declared.event.TrapKind.TheVariants as trap
use Rattle.tsa_mean.specs.Acts.{Act, to_write, to_step, to_set, to_branch, to_choose, to_ask, to_enter, to_leave, on_lock}
use Rattle.tsa_mean.specs.Operators.{converted_to, operate_on, prefix_on}
use Rattle.tsa_mean.specs.Working.{Locals, local_at}
use Rattle.tsa_lower_going.specs.Going.{place_in, Going, stops, gives, and_then, going_of, read_at, member_at, element_at, target_of}
use Rattle.tsa_lower_code.specs.declared.instr.Instr.{Instr}
use Rattle.tsa_lower_code.specs.declared.instr.Instr.TheVariants.{Constant, Local, Answer, Member, Element, Follow, Load, Convert, Prefix}
use Rattle.tsa_lower_code.specs.declared.instr.Instr.TheVariants.{Join, Skip, Truth, Stop, End}
use Rattle.tsa_lower_code.specs.declared.instr.Ending.{Ending}
use Rattle.tsa_lower_code.specs.declared.instr.Ending.TheVariants as ending

-- the value in a slot; one that isn't there is 0
abbrev pub slot : List Value → ℕ → Value
slot s k = get_or s k (the.Int (pos 0))

-- what a thread does at the end of a point
abbrev pub act_in : Ending → List Value → Act
act_in ending.Step s = to_step
act_in (ending.Set n k) s = to_set n (slot s k)
act_in (ending.Write k) s = to_write (place_in (slot s (k + 1))) (slot s k)
act_in (ending.Branch k) s = to_branch (is_true (slot s k))
act_in (ending.Choose k) s = to_choose (slot s k)
act_in (ending.Leave k) s = to_leave (slot s k)
act_in (ending.Enter f k n) s = to_enter f (take n (drop k s))
act_in (ending.Lock kind success k f result) s = on_lock kind success (place_in (slot s k)) (to_ask f result)
act_in (ending.Ask f kind) s = to_ask f kind

-- a truth beside another, and one of two by a truth
abbrev pub is_same : Bool → Bool → Bool
is_same true b = b
is_same false true = false
is_same false false = true

abbrev pub one_of : {A : Type 0} → Bool → A → A → A
one_of true x y = x
one_of false x y = y

-- What is still to come of code over slots, of which some instructions are passed first.
module _ (l : Layout) (locals : Locals) where
  abbrev pub going : ℕ → List Instr → List Value → Going Act
  going m [] s = gives to_step
  going (suc m) (i ∷ is) s = going m is s
  going zero (Constant k v ∷ is) s = going 0 is (set s k v)
  going zero (Local k n ∷ is) s = going 0 is (set s k (local_at locals n))
  going zero (Answer k ∷ is) s = going 0 is (set s k (slot s 0))
  going zero (Member k n ∷ is) s = and_then (member_at l n (slot s k)) (λ v. going 0 is (set s k v))
  going zero (Element k ∷ is) s = and_then (element_at l (slot s k) (slot s (k + 1))) (λ v. going 0 is (set s k v))
  going zero (Follow k ∷ is) s = and_then (target_of (slot s k)) (λ v. going 0 is (set s k v))
  going zero (Load from to ∷ is) s = and_then (read_at (slot s from)) (λ v. going 0 is (set s to v))
  going zero (Convert k kind ∷ is) s = and_then (going_of (converted_to kind (slot s k))) (λ v. going 0 is (set s k v))
  going zero (Prefix k o ∷ is) s = and_then (going_of (prefix_on o (slot s k))) (λ v. going 0 is (set s k v))
  going zero (Join left right to o ∷ is) s = and_then (going_of (operate_on o (slot s left) (slot s right))) (λ v. going 0 is (set s to v))
  going zero (Skip k on by ∷ is) s = one_of (is_same on (is_true (slot s k))) (going by is (set s k (of_truth on))) (going 0 is s)
  going zero (Truth k ∷ is) s = going 0 is (set s k (of_truth (is_true (slot s k))))
  going zero (Stop kind ∷ is) s = stops kind
  going zero (End e ∷ is) s = gives (act_in e s)

-- the code of a place that is known, or isn't
abbrev pub known_place_code : Option ℕ → ℕ → List Instr
known_place_code None k = Stop trap.NullPointer ∷ []
known_place_code (Some place) k = Constant k (the.Pointer (Some place)) ∷ []

abbrev pub no_place : List Instr
no_place = Stop trap.NullPointer ∷ []

abbrev pub answer_code : Bool → ℕ → List Instr
answer_code true k = Answer k ∷ []
answer_code false k = no_place

-- `&&` and `||` pass their right side, and all others take both
abbrev pub early_code : Bool → ℕ → (left right : List Instr) → List Instr
early_code on k left right = left ++ (Skip k on (length right + 1) ∷ (right ++ Truth k ∷ []))

abbrev pub late_code : BinaryOp → ℕ → (left right : List Instr) → List Instr
late_code o k left right = left ++ (right ++ Join k (k + 1) k o ∷ [])

abbrev pub is_early : BinaryOp → Option Bool
is_early op.And = Some false
is_early op.Or = Some true
is_early o = None

abbrev pub joined_code : Option Bool → BinaryOp → ℕ → (left here behind : List Instr) → List Instr
joined_code (Some on) o k left here behind = early_code on k left here
joined_code None o k left here behind = late_code o k left behind

-- The code of a term, which leaves its place or its value in a slot and those below as they are.
module _ (l : Layout) (is_answered : Bool) where
  abbrev mutual
    pub place_code : Term → ℕ → List Instr
    place_code (term.global n) k = known_place_code (global_place l n) k
    place_code (term.member base n) k = place_code base k ++ Member k n ∷ []
    place_code (term.element base index) k = place_code base k ++ (value_code index (k + 1) ++ Element k ∷ [])
    place_code (term.target pointer) k = value_code pointer k ++ Follow k ∷ []
    place_code (term.constant v) k = no_place
    place_code (term.variable n) k = no_place
    place_code term.answer k = no_place
    place_code (term.load s p) k = no_place
    place_code (term.address p) k = no_place
    place_code (term.converted kind x) k = no_place
    place_code (term.prefixed o x) k = no_place
    place_code (term.joined o a b) k = no_place

    pub value_code : Term → ℕ → List Instr
    value_code (term.constant v) k = Constant k v ∷ []
    value_code (term.variable n) k = Local k n ∷ []
    value_code term.answer k = answer_code is_answered k
    value_code (term.load s p) k = place_code p k ++ Load k k ∷ []
    value_code (term.address p) k = place_code p k
    value_code (term.converted kind x) k = value_code x k ++ Convert k kind ∷ []
    value_code (term.prefixed o x) k = value_code x k ++ Prefix k o ∷ []
    value_code (term.joined o a b) k = joined_code (is_early o) o k (value_code a k) (value_code b k) (value_code b (k + 1))
    value_code (term.global n) k = no_place
    value_code (term.member base n) k = no_place
    value_code (term.element base index) k = no_place
    value_code (term.target pointer) k = no_place

-- how many slots it uses
abbrev pub height : Term → ℕ
height (term.constant v) = 1
height (term.variable n) = 1
height term.answer = 1
height (term.global n) = 1
height (term.member base n) = height base
height (term.element base index) = max (height base) (height index + 1)
height (term.target pointer) = height pointer
height (term.load s p) = height p
height (term.address p) = height p
height (term.converted kind x) = height x
height (term.prefixed o x) = height x
height (term.joined o a b) = max (height a) (height b + 1)
