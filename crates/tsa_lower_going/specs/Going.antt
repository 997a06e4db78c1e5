-- What is still to come of a term: reads of cells, and then its value, or a trap.
use Rattle.std.specs.Prelude.{ℕ, Bool, true, false, Option, Some, None, option_and_then}
use Rattle.tsa_base.specs.declared.value.Value.{Value}
use Rattle.tsa_base.specs.declared.value.Value.TheVariants.{Pointer}
use Rattle.tsa_tree.specs.declared.expr.BinaryOp.{BinaryOp}
use Rattle.tsa_tree.specs.declared.expr.BinaryOp.TheVariants as op
use Rattle.tsa_place_model.specs.Calls.{Layout, global_place, member_place, index_in}
use Rattle.tsa_core.specs.Terms.{Term, constant, variable, answer, global, member, element, target, load, address, converted, prefixed}
use Rattle.tsa_core.specs.Terms.{joined}
use Rattle.tsa_path.specs.Values.{at_index, is_true, of_truth, pointed_place}
use Rattle.tsa_sched.specs.declared.event.TrapKind.TheVariants as trap
use Rattle.tsa_mean.specs.Outs.{Out, traps, reads, yields, TrapKind}
use Rattle.tsa_mean.specs.Operators.{converted_to, operate_on, prefix_on}
use Rattle.tsa_mean.specs.Working.{Locals, local_at}

pub data Going (A : Type 0) : Type 0 where
  stops : (kind : TrapKind) → Going A
  asks : (place : ℕ) (left : Value → Going A) → Going A
  gives : (found : A) → Going A

-- one after the other
abbrev pub and_then : {A B : Type 0} → Going A → (A → Going B) → Going B
and_then (stops kind) f = stops kind
and_then (asks place left) f = asks place (λ v. and_then (left v) f)
and_then (gives a) f = f a

-- what an operator comes to
abbrev pub going_of : Out Value → Going Value
going_of (traps kind) = stops kind
going_of (reads place) = asks place gives
going_of (yields v) = gives v

-- a place is given as a pointer to it, and where there is none the thread stops
abbrev pub pointer_or_stop : TrapKind → Option ℕ → Going Value
pointer_or_stop kind None = stops kind
pointer_or_stop kind (Some place) = gives (Pointer (Some place))

-- the cell at a place is read
abbrev pub read_at : Value → Going Value
read_at (Pointer (Some place)) = asks place gives
read_at _ = stops trap.NullPointer

abbrev pub member_at : Layout → ℕ → Value → Going Value
member_at l k v = pointer_or_stop trap.NullPointer (option_and_then (λ place. member_place l place k) (pointed_place v))

abbrev pub element_at : Layout → Value → Value → Going Value
element_at l base index = pointer_or_stop trap.OutOfRange (at_index l (pointed_place base) (index_in index))

abbrev pub target_of : Value → Going Value
target_of v = pointer_or_stop trap.NullPointer (pointed_place v)

-- `&&` and `||` stop early
abbrev pub truth_going : Going Value → Going Value
truth_going right = and_then right (λ w. gives (of_truth (is_true w)))

abbrev pub and_going : Bool → Going Value → Going Value
and_going true right = truth_going right
and_going false right = gives (of_truth false)

abbrev pub or_going : Bool → Going Value → Going Value
or_going true right = gives (of_truth true)
or_going false right = truth_going right

abbrev pub join_going : BinaryOp → Value → Going Value → Going Value
join_going op.And v right = and_going (is_true v) right
join_going op.Or v right = or_going (is_true v) right
join_going o v right = and_then right (λ w. going_of (operate_on o v w))

abbrev pub answer_going : Option Value → Going Value
answer_going None = stops trap.NullPointer
answer_going (Some v) = gives v

-- Of a term, in a frame's locals, and where the call of its point is answered with what that gave.
module _ (l : Layout) (locals : Locals) (given : Option Value) where
  abbrev mutual
    pub place_going : Term → Going Value
    place_going (global n) = pointer_or_stop trap.NullPointer (global_place l n)
    place_going (member base k) = and_then (place_going base) (member_at l k)
    place_going (element base index) = and_then (place_going base) (λ b. and_then (value_going index) (element_at l b))
    place_going (target pointer) = and_then (value_going pointer) target_of
    place_going (constant v) = stops trap.NullPointer
    place_going (variable n) = stops trap.NullPointer
    place_going answer = stops trap.NullPointer
    place_going (load is_stable place) = stops trap.NullPointer
    place_going (address place) = stops trap.NullPointer
    place_going (converted kind inner) = stops trap.NullPointer
    place_going (prefixed o inner) = stops trap.NullPointer
    place_going (joined o left right) = stops trap.NullPointer

    pub value_going : Term → Going Value
    value_going (constant v) = gives v
    value_going (variable n) = gives (local_at locals n)
    value_going answer = answer_going given
    value_going (load is_stable place) = and_then (place_going place) read_at
    value_going (address place) = place_going place
    value_going (converted kind inner) = and_then (value_going inner) (λ v. going_of (converted_to kind v))
    value_going (prefixed o inner) = and_then (value_going inner) (λ v. going_of (prefix_on o v))
    value_going (joined o left right) = and_then (value_going left) (λ v. join_going o v (value_going right))
    value_going (global n) = stops trap.NullPointer
    value_going (member base k) = stops trap.NullPointer
    value_going (element base index) = stops trap.NullPointer
    value_going (target pointer) = stops trap.NullPointer

-- the place that a pointer leads to, where one does
abbrev pub or_first_place : Option ℕ → ℕ
or_first_place None = 0
or_first_place (Some n) = n

abbrev pub place_in : Value → ℕ
place_in v = or_first_place (pointed_place v)

-- what comes first
abbrev pub first_of : {A : Type 0} → Going A → Out A
first_of (stops kind) = traps kind
first_of (asks place left) = reads place
first_of (gives a) = yields a
