-- Terms worked out read by read, beside what they are worth.
use Rattle.std.proofs.Common.{◌≡◌, ◌∙◌, ℕ, Bool, true, false, List, [], ◌∷◌, Option, Some, None, Result, Ok, Err, option_map}
use Rattle.std.proofs.Common.{option_and_then, if◌then◌else◌, refl, ap, sym, subst}
use Rattle.tsa_base.specs.declared.value.Value.{Value}
use Rattle.tsa_base.specs.declared.value.Value.TheVariants.{Int, Unsigned, Pointer}
use Rattle.tsa_tree.specs.declared.expr.BinaryOp.{BinaryOp}
use Rattle.tsa_tree.specs.declared.expr.BinaryOp.TheVariants as op
use Rattle.tsa_tree.specs.declared.expr.UnaryOp.{UnaryOp}
use Rattle.tsa_tree.specs.declared.expr.UnaryOp.TheVariants as prefix
use Rattle.tsa_tree.specs.declared.number.Number.{Number}
use Rattle.tsa_tree.specs.declared.number.Trap.{Trap}
use Rattle.tsa_tree.specs.declared.number.Trap.TheVariants.{Overflow, Division}
use Rattle.tsa_tree.specs.types.Arithmetic.{operate, operate_prefix}
use Rattle.tsa_place_model.specs.Calls.{global_place, index_in, Layout, member_place}
use Rattle.tsa_place_model.specs.Stores.{Store}
use Rattle.tsa_core.specs.Terms.{Term, constant, variable, answer, global, member, element, target, load, address, converted, prefixed}
use Rattle.tsa_core.specs.Terms.{joined}
use Rattle.tsa_path.specs.Values.{at_index, both, in_kind, is_true, join, made, number_in, of_truth, on_pointers, on_values, place_of}
use Rattle.tsa_path.specs.Values.{pointed_place, prefix_value, values_of, with_first, worth}
use Rattle.tsa_sched.specs.declared.event.TrapKind.TheVariants as trap
use Rattle.tsa_mean.specs.Operators.{as_number, converted_to, joined_with, of_result, operate_on, prefix_on, truth_of}
use Rattle.tsa_mean.specs.Outs.{bind, or_trap, Out, reads, TrapKind, traps, yields}
use Rattle.tsa_mean.specs.WorthLaws.{Agrees, values, WhatIsWorkedOutIsWorthIt}
use Rattle.tsa_mean.specs.Working.{Locals, lvalue, rvalue, rvalues}

-- one after the other: what comes of the second where the first is there, and nothing where it isn't
pub agree_both : {A B : Type 0} (out : Out A) (known : Option A) (f : A → Out B) (g : Option A → Option B) → Agrees out known → g None ≡ None
    → ((a : A) → Agrees (f a) (g (Some a))) → Agrees (bind out f) (g known)
agree_both (traps kind) known f g agrees none each = ap g agrees ∙ none
agree_both (reads place) known f g agrees none each = tt
agree_both (yields a) known f g agrees none each = subst (λ k. Agrees (f a) (g k)) (sym agrees) (each a)

agree_or_trap : {A : Type 0} (kind : TrapKind) (known : Option A) → Agrees (or_trap kind known) known
agree_or_trap kind None = refl
agree_or_trap kind (Some a) = refl

agree_result : (r : Result Number Trap) → Agrees (of_result r) (made r)
agree_result (Ok n) = refl
agree_result (Err Overflow) = refl
agree_result (Err Division) = refl

-- operators
agree_prefix : (o : UnaryOp) (v : Value) → Agrees (prefix_on o v) (prefix_value o v)
agree_prefix prefix.Not v = refl
agree_prefix o v = agree_both (as_number v) (number_in v) (λ n. of_result (operate_prefix o n)) (option_and_then (λ n. made (operate_prefix o n)))
    (agree_or_trap trap.NullPointer (number_in v)) refl (λ n. agree_result (operate_prefix o n))

agree_numbers : (o : BinaryOp) (v w : Option Number)
    → Agrees (bind (or_trap trap.NullPointer v) (λ m. bind (or_trap trap.NullPointer w) (λ n. of_result (operate o m n)))) (both (λ a b. made (operate o a b)) v w)
agree_numbers o None w = refl
agree_numbers o (Some m) None = refl
agree_numbers o (Some m) (Some n) = agree_result (operate o m n)

agree_operate : (o : BinaryOp) (v w : Value) → Agrees (operate_on o v w) (on_values o v w)
agree_operate o (Pointer p) (Pointer q) = agree_or_trap trap.NullPointer (on_pointers o p q)
agree_operate o (Int z) w = agree_numbers o (number_in (Int z)) (number_in w)
agree_operate o (Unsigned n) w = agree_numbers o (number_in (Unsigned n)) (number_in w)
agree_operate o (Pointer p) (Int z) = agree_numbers o (number_in (Pointer p)) (number_in (Int z))
agree_operate o (Pointer p) (Unsigned n) = agree_numbers o (number_in (Pointer p)) (number_in (Unsigned n))

agree_truth : (right : Out Value) (known : Option Value) → Agrees right known → Agrees (truth_of right) (option_map (λ v. of_truth (is_true v)) known)
agree_truth right known agrees = agree_both right known (λ w. yields (of_truth (is_true w))) (option_map (λ v. of_truth (is_true v))) agrees refl (λ w. refl)

agree_and : (b : Bool) (right : Out Value) (known : Option Value) → Agrees right known
    → Agrees (if b then truth_of right else yields (of_truth false)) (if b then option_map (λ v. of_truth (is_true v)) known else Some (of_truth false))
agree_and true right known agrees = agree_truth right known agrees
agree_and false right known agrees = refl

agree_or : (b : Bool) (right : Out Value) (known : Option Value) → Agrees right known
    → Agrees (if b then yields (of_truth true) else truth_of right) (if b then Some (of_truth true) else option_map (λ v. of_truth (is_true v)) known)
agree_or true right known agrees = refl
agree_or false right known agrees = agree_truth right known agrees

agree_second : (o : BinaryOp) (v : Value) (right : Out Value) (known : Option Value) → Agrees right known
    → Agrees (bind right (λ w. operate_on o v w)) (both (on_values o) (Some v) known)
agree_second o v right known agrees = agree_both right known (λ w. operate_on o v w) (both (on_values o) (Some v)) agrees refl (λ w. agree_operate o v w)

agree_join : (o : BinaryOp) (v : Value) (right : Out Value) (known : Option Value) → Agrees right known → Agrees (joined_with o v right) (join o (Some v) known)
agree_join op.And v right known agrees = agree_and (is_true v) right known agrees
agree_join op.Or v right known agrees = agree_or (is_true v) right known agrees
agree_join o v right known agrees = agree_second o v right known agrees

join_none : (o : BinaryOp) (known : Option Value) → join o None known ≡ None
join_none op.And known = refl
join_none op.Or known = refl
join_none o known = refl

module _ (l : Layout) (store : Store) (locals : Locals) where
  at_none : (i : Option ℕ) → at_index l None i ≡ None
  at_none None = refl
  at_none (Some n) = refl

  at_place : (place : ℕ) (index : Out Value) (known : Option Value) → Agrees index known
      → Agrees (bind index (λ v. or_trap trap.OutOfRange (at_index l (Some place) (index_in v)))) (at_index l (Some place) (option_and_then index_in known))
  at_place place index known agrees =
      agree_both index known (λ v. or_trap trap.OutOfRange (at_index l (Some place) (index_in v))) (λ k. at_index l (Some place) (option_and_then index_in k)) agrees refl
      (λ v. agree_or_trap trap.OutOfRange (at_index l (Some place) (index_in v)))

  mutual
    pub agree_place : (x : Term) → Agrees (lvalue l locals x) (place_of l store (values locals) x)
    agree_place (global n) = agree_or_trap trap.NullPointer (global_place l n)
    agree_place (member base k) = agree_both (lvalue l locals base) (place_of l store (values locals) base) (λ place. or_trap trap.NullPointer (member_place l place k))
        (option_and_then (λ place. member_place l place k)) (agree_place base) refl (λ place. agree_or_trap trap.NullPointer (member_place l place k))
    agree_place (element base index) = agree_both (lvalue l locals base) (place_of l store (values locals) base)
        (λ place. bind (rvalue l locals index) (λ v. or_trap trap.OutOfRange (at_index l (Some place) (index_in v))))
        (λ k. at_index l k (option_and_then index_in (worth l store (values locals) index)))
        (agree_place base) (at_none (option_and_then index_in (worth l store (values locals) index)))
        (λ place. at_place place (rvalue l locals index) (worth l store (values locals) index) (agree_value index))
    agree_place (target pointer) = agree_both (rvalue l locals pointer) (worth l store (values locals) pointer) (λ v. or_trap trap.NullPointer (pointed_place v))
        (option_and_then pointed_place) (agree_value pointer) refl (λ v. agree_or_trap trap.NullPointer (pointed_place v))
    agree_place (constant v) = refl
    agree_place (variable n) = refl
    agree_place answer = refl
    agree_place (load is_stable place) = refl
    agree_place (address place) = refl
    agree_place (converted kind inner) = refl
    agree_place (prefixed o inner) = refl
    agree_place (joined o left right) = refl

    pub agree_value : (x : Term) → Agrees (rvalue l locals x) (worth l store (values locals) x)
    agree_value (constant v) = refl
    agree_value (variable n) = refl
    agree_value (load is_stable place) =
        agree_both (lvalue l locals place) (place_of l store (values locals) place) (λ p. reads p) (option_map store) (agree_place place) refl (λ p. tt)
    agree_value (address place) = agree_both (lvalue l locals place) (place_of l store (values locals) place) (λ p. yields (Pointer (Some p)))
        (option_map (λ p. Pointer (Some p))) (agree_place place) refl (λ p. refl)
    agree_value (converted kind inner) = agree_both (rvalue l locals inner) (worth l store (values locals) inner) (λ v. converted_to kind v)
        (option_and_then (in_kind kind)) (agree_value inner) refl (λ v. agree_or_trap trap.NullPointer (in_kind kind v))
    agree_value (prefixed o inner) = agree_both (rvalue l locals inner) (worth l store (values locals) inner) (λ v. prefix_on o v)
        (option_and_then (prefix_value o)) (agree_value inner) refl (λ v. agree_prefix o v)
    agree_value (joined o left right) = agree_both (rvalue l locals left) (worth l store (values locals) left) (λ v. joined_with o v (rvalue l locals right))
        (λ k. join o k (worth l store (values locals) right)) (agree_value left) (join_none o (worth l store (values locals) right))
        (λ v. agree_join o v (rvalue l locals right) (worth l store (values locals) right) (agree_value right))
    agree_value (global n) = refl
    agree_value (member base k) = refl
    agree_value (element base index) = refl
    agree_value (target pointer) = refl
    agree_value answer = refl

  first_none : (rest : Option (List Value)) → with_first None rest ≡ None
  first_none None = refl
  first_none (Some vs) = refl

  pub agree_values : (xs : List Term) → Agrees (rvalues l locals xs) (values_of l store (values locals) xs)
  agree_values [] = refl
  agree_values (x ∷ rest) = agree_both (rvalue l locals x) (worth l store (values locals) x) (λ v. bind (rvalues l locals rest) (λ vs. yields (v ∷ vs)))
      (λ k. with_first k (values_of l store (values locals) rest)) (agree_value x) (first_none (values_of l store (values locals) rest))
      (λ v. agree_both (rvalues l locals rest) (values_of l store (values locals) rest) (λ vs. yields (v ∷ vs)) (with_first (Some v)) (agree_values rest) refl (λ vs. refl))

pub what_is_worked_out_is_worth_it : WhatIsWorkedOutIsWorthIt
what_is_worked_out_is_worth_it = record { value = agree_value; place = agree_place; all = agree_values }
