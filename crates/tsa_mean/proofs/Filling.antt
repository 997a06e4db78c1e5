-- A read that is replaced by what the store holds keeps the worth.
use Rattle.std.proofs.Common.{◌≡◌, ◌∙◌, ℕ, Bool, true, false, List, [], ◌∷◌, Option, Some, None, Result, Ok, Err, option_map}
use Rattle.std.proofs.Common.{option_and_then, if◌then◌else◌, ◌⊎◌, inl, inr, refl, ap, sym, subst}
use Rattle.tsa_base.specs.declared.value.Value.{Value}
use Rattle.tsa_base.specs.declared.value.Value.TheVariants.{Int, Unsigned, Pointer}
use Rattle.tsa_tree.specs.declared.expr.BinaryOp.{BinaryOp}
use Rattle.tsa_tree.specs.declared.expr.BinaryOp.TheVariants as op
use Rattle.tsa_tree.specs.declared.expr.UnaryOp.{UnaryOp}
use Rattle.tsa_tree.specs.declared.expr.UnaryOp.TheVariants as prefix
use Rattle.tsa_tree.specs.declared.number.Number.{Number}
use Rattle.tsa_tree.specs.declared.number.Trap.{Trap}
use Rattle.tsa_tree.specs.declared.number.Trap.TheVariants.{Overflow, Division}
use Rattle.tsa_tree.specs.types.Arithmetic.{operate, operate_prefix}
use Rattle.tsa_place_model.specs.Calls.{index_in, Layout, member_place}
use Rattle.tsa_place_model.specs.Stores.{Store}
use Rattle.tsa_core.specs.Terms.{Term, constant, variable, answer, global, member, element, target, load, address, converted, prefixed}
use Rattle.tsa_core.specs.Terms.{joined}
use Rattle.tsa_path.specs.Values.{at_index, in_kind, is_true, join, number_in, of_truth, on_pointers, place_of, pointed_place, prefix_value}
use Rattle.tsa_path.specs.Values.{values_of, with_first, worth}
use Rattle.tsa_sched.specs.declared.event.TrapKind.TheVariants as trap
use Rattle.tsa_mean.specs.Operators.{converted_to, joined_with, of_result, operate_on, prefix_on, truth_of}
use Rattle.tsa_mean.specs.Outs.{bind, or_trap, Out, reads, TrapKind, traps, yields}
use Rattle.tsa_mean.specs.WorthLaws.{Agrees, ReadsKeepTheWorth, values}
use Rattle.tsa_mean.specs.Working.{at_first, filled, filled_all, Locals, lvalue, rvalue, rvalues}
use Rattle.tsa_mean.proofs.Worths.{agree_place}

-- what reads no cell, whatever that is
abbrev pub NoRead : {A : Type 0} → Out A → Type 0
NoRead out = (p : ℕ) → out ≡ reads p → ⊥

pub no_trap : {A : Type 0} {kind : TrapKind} {p : ℕ} {B : Type 0} → ◌≡◌ {A = Out A} (traps kind) (reads p) → B
no_trap e = cc

pub no_yield : {A : Type 0} {a : A} {p : ℕ} {B : Type 0} → ◌≡◌ {A = Out A} (yields a) (reads p) → B
no_yield e = cc

pub same_read : {A : Type 0} {q p : ℕ} → ◌≡◌ {A = Out A} (reads q) (reads p) → q ≡ p
same_read e = cc

-- a read of two parts is one of the first, or of the second where the first is there
abbrev pub ReadOf : {A B : Type 0} → Out A → (A → Out B) → ℕ → Type 0
ReadOf {A} {B} out f p = (out ≡ reads p) ⊎ ((a : A) × ((out ≡ yields a) × (f a ≡ reads p)))

pub read_of : {A B : Type 0} (out : Out A) (f : A → Out B) (p : ℕ) → bind out f ≡ reads p → ReadOf out f p
read_of (traps kind) f p e = no_trap e
read_of (reads q) f p e = inl (ap reads (same_read e))
read_of (yields a) f p e = inr (a, (refl, e))

pub read_of_first : {A B : Type 0} (out : Out A) (f : A → Out B) (p : ℕ) → ((a : A) → NoRead (f a)) → bind out f ≡ reads p → out ≡ reads p
read_of_first (traps kind) f p none e = no_trap e
read_of_first (reads q) f p none e = ap reads (same_read e)
read_of_first (yields a) f p none e = absurd (none a p e)

-- operators
pub or_trap_reads_none : {A : Type 0} (kind : TrapKind) (known : Option A) → NoRead (or_trap kind known)
or_trap_reads_none kind None p e = no_trap e
or_trap_reads_none kind (Some a) p e = no_yield e

result_reads_none : (r : Result Number Trap) → NoRead (of_result r)
result_reads_none (Ok n) p e = no_yield e
result_reads_none (Err Overflow) p e = no_trap e
result_reads_none (Err Division) p e = no_trap e

number_reads_none : (v : Option Number) (f : Number → Out Value) → ((n : Number) → NoRead (f n)) → NoRead (bind (or_trap trap.NullPointer v) f)
number_reads_none None f none p e = no_trap e
number_reads_none (Some n) f none p e = none n p e

pub prefix_reads_none : (o : UnaryOp) (v : Value) → NoRead (prefix_on o v)
prefix_reads_none prefix.Not v = λ p e. no_yield e
prefix_reads_none o v = number_reads_none (number_in v) (λ n. of_result (operate_prefix o n)) (λ n. result_reads_none (operate_prefix o n))

numbers_read_none : (o : BinaryOp) (v w : Option Number) → NoRead (bind (or_trap trap.NullPointer v) (λ m. bind (or_trap trap.NullPointer w) (λ n. of_result (operate o m n))))
numbers_read_none o v w = number_reads_none v (λ m. bind (or_trap trap.NullPointer w) (λ n. of_result (operate o m n)))
    (λ m. number_reads_none w (λ n. of_result (operate o m n)) (λ n. result_reads_none (operate o m n)))

pub operate_reads_none : (o : BinaryOp) (v w : Value) → NoRead (operate_on o v w)
operate_reads_none o (Pointer p) (Pointer q) = or_trap_reads_none trap.NullPointer (on_pointers o p q)
operate_reads_none o (Int z) w = numbers_read_none o (number_in (Int z)) (number_in w)
operate_reads_none o (Unsigned n) w = numbers_read_none o (number_in (Unsigned n)) (number_in w)
operate_reads_none o (Pointer p) (Int z) = numbers_read_none o (number_in (Pointer p)) (number_in (Int z))
operate_reads_none o (Pointer p) (Unsigned n) = numbers_read_none o (number_in (Pointer p)) (number_in (Unsigned n))

truth_read : (right : Out Value) (p : ℕ) → truth_of right ≡ reads p → right ≡ reads p
truth_read right p e = read_of_first right (λ w. yields (of_truth (is_true w))) p (λ w q e. no_yield e) e

and_read : (b : Bool) (right : Out Value) (v : Value) (p : ℕ) → (if b then truth_of right else yields v) ≡ reads p → right ≡ reads p
and_read true right v p e = truth_read right p e
and_read false right v p e = no_yield e

or_read : (b : Bool) (right : Out Value) (v : Value) (p : ℕ) → (if b then yields v else truth_of right) ≡ reads p → right ≡ reads p
or_read true right v p e = no_yield e
or_read false right v p e = truth_read right p e

second_read : (o : BinaryOp) (v : Value) (right : Out Value) (p : ℕ) → bind right (λ w. operate_on o v w) ≡ reads p → right ≡ reads p
second_read o v right p e = read_of_first right (λ w. operate_on o v w) p (λ w. operate_reads_none o v w) e

pub join_read : (o : BinaryOp) (v : Value) (right : Out Value) (p : ℕ) → joined_with o v right ≡ reads p → right ≡ reads p
join_read op.And v right p e = and_read (is_true v) right (of_truth false) p e
join_read op.Or v right p e = or_read (is_true v) right (of_truth true) p e
join_read o v right p e = second_read o v right p e

module _ (l : Layout) (store : Store) (locals : Locals) where
  abbrev worth_in : Term → Option Value
  worth_in x = worth l store (values locals) x

  abbrev place_in : Term → Option ℕ
  place_in x = place_of l store (values locals) x

  abbrev fill : ℕ → Term → Term
  fill p x = filled l locals (store p) x

  abbrev ValueKept : Term → Type 0
  ValueKept x = (p : ℕ) → rvalue l locals x ≡ reads p → worth_in (fill p x) ≡ worth_in x

  abbrev PlaceKept : Term → Type 0
  PlaceKept x = (p : ℕ) → lvalue l locals x ≡ reads p → place_in (fill p x) ≡ place_in x

  -- of two parts the one that is read is filled
  element_kept : (base index : Term) (p : ℕ) → PlaceKept base → ValueKept index
      → ReadOf (lvalue l locals base) (λ place. bind (rvalue l locals index) (λ v. or_trap trap.OutOfRange (at_index l (Some place) (index_in v)))) p
      → place_in (fill p (element base index)) ≡ place_in (element base index)
  element_kept base index p first second (inl e) =
      ap (λ out. place_in (at_first out (element (fill p base) index) (element base (fill p index)))) e
      ∙ ap (λ k. at_index l k (option_and_then index_in (worth_in index))) (first p e)
  element_kept base index p first second (inr x) =
      ap (λ out. place_in (at_first out (element (fill p base) index) (element base (fill p index)))) x.1.0
      ∙ ap (λ k. at_index l (place_in base) (option_and_then index_in k))
      (second p (read_of_first (rvalue l locals index) (λ v. or_trap trap.OutOfRange (at_index l (Some x.0) (index_in v))) p
      (λ v. or_trap_reads_none trap.OutOfRange (at_index l (Some x.0) (index_in v))) x.1.1))

  load_kept : (is_stable : Bool) (place : Term) (p : ℕ) → PlaceKept place → ReadOf {B = Value} (lvalue l locals place) (λ q. reads q) p
      → worth_in (fill p (load is_stable place)) ≡ worth_in (load is_stable place)
  load_kept is_stable place p kept (inl e) =
      ap (λ out. worth_in (at_first out (load is_stable (fill p place)) (constant (store p)))) e ∙ ap (option_map store) (kept p e)
  load_kept is_stable place p kept (inr x) =
      let there : place_in place ≡ Some x.0 = subst (λ out. Agrees out (place_in place)) x.1.0 (agree_place l store locals place) in
      ap (λ out. worth_in (at_first out (load is_stable (fill p place)) (constant (store p)))) x.1.0
      ∙ sym (ap (option_map store) (there ∙ ap Some (same_read x.1.1)))

  joined_kept : (o : BinaryOp) (left right : Term) (p : ℕ) → ValueKept left → ValueKept right
      → ReadOf (rvalue l locals left) (λ v. joined_with o v (rvalue l locals right)) p → worth_in (fill p (joined o left right)) ≡ worth_in (joined o left right)
  joined_kept o left right p first second (inl e) =
      ap (λ out. worth_in (at_first out (joined o (fill p left) right) (joined o left (fill p right)))) e ∙ ap (λ k. join o k (worth_in right)) (first p e)
  joined_kept o left right p first second (inr x) =
      ap (λ out. worth_in (at_first out (joined o (fill p left) right) (joined o left (fill p right)))) x.1.0
      ∙ ap (join o (worth_in left)) (second p (join_read o x.0 (rvalue l locals right) p x.1.1))

  mutual
    pub place_kept : (x : Term) → PlaceKept x
    place_kept (global n) p e = refl
    place_kept (member base k) p e = ap (option_and_then (λ place. member_place l place k)) (place_kept base p
        (read_of_first (lvalue l locals base) (λ place. or_trap trap.NullPointer (member_place l place k)) p (λ place. or_trap_reads_none trap.NullPointer (member_place l place k)) e))
    place_kept (element base index) p e = element_kept base index p (place_kept base) (value_kept index)
        (read_of (lvalue l locals base) (λ place. bind (rvalue l locals index) (λ v. or_trap trap.OutOfRange (at_index l (Some place) (index_in v)))) p e)
    place_kept (target pointer) p e = ap (option_and_then pointed_place) (value_kept pointer p
        (read_of_first (rvalue l locals pointer) (λ v. or_trap trap.NullPointer (pointed_place v)) p (λ v. or_trap_reads_none trap.NullPointer (pointed_place v)) e))
    place_kept (constant v) p e = refl
    place_kept (variable n) p e = refl
    place_kept answer p e = refl
    place_kept (load is_stable place) p e = no_trap e
    place_kept (address place) p e = refl
    place_kept (converted kind inner) p e = refl
    place_kept (prefixed o inner) p e = refl
    place_kept (joined o left right) p e = no_trap e

    pub value_kept : (x : Term) → ValueKept x
    value_kept (constant v) p e = refl
    value_kept (variable n) p e = refl
    value_kept (load is_stable place) p e = load_kept is_stable place p (place_kept place) (read_of (lvalue l locals place) (λ q. reads q) p e)
    value_kept (address place) p e = ap (option_map (λ q. Pointer (Some q))) (place_kept place p
        (read_of_first (lvalue l locals place) (λ q. yields (Pointer (Some q))) p (λ q r f. no_yield f) e))
    value_kept (converted kind inner) p e = ap (option_and_then (in_kind kind)) (value_kept inner p
        (read_of_first (rvalue l locals inner) (λ v. converted_to kind v) p (λ v. or_trap_reads_none trap.NullPointer (in_kind kind v)) e))
    value_kept (prefixed o inner) p e = ap (option_and_then (prefix_value o)) (value_kept inner p
        (read_of_first (rvalue l locals inner) (λ v. prefix_on o v) p (λ v. prefix_reads_none o v) e))
    value_kept (joined o left right) p e = joined_kept o left right p (value_kept left) (value_kept right)
        (read_of (rvalue l locals left) (λ v. joined_with o v (rvalue l locals right)) p e)
    value_kept (global n) p e = refl
    value_kept (member base k) p e = refl
    value_kept (element base index) p e = no_trap e
    value_kept (target pointer) p e = refl
    value_kept answer p e = refl

  rest_kept : (x : Term) (rest : List Term) (p : ℕ) → (rvalues l locals rest ≡ reads p → values_of l store (values locals) (filled_all l locals (store p) rest) ≡ values_of l store (values locals) rest)
      → ReadOf (rvalue l locals x) (λ v. bind (rvalues l locals rest) (λ vs. yields (v ∷ vs))) p
      → values_of l store (values locals) (filled_all l locals (store p) (x ∷ rest)) ≡ values_of l store (values locals) (x ∷ rest)
  rest_kept x rest p kept (inl e) =
      ap (λ out. values_of l store (values locals) (at_first out (fill p x ∷ rest) (x ∷ filled_all l locals (store p) rest))) e
      ∙ ap (λ k. with_first k (values_of l store (values locals) rest)) (value_kept x p e)
  rest_kept x rest p kept (inr y) =
      ap (λ out. values_of l store (values locals) (at_first out (fill p x ∷ rest) (x ∷ filled_all l locals (store p) rest))) y.1.0
      ∙ ap (with_first (worth_in x)) (kept (read_of_first (rvalues l locals rest) (λ vs. yields (y.0 ∷ vs)) p (λ vs q f. no_yield f) y.1.1))

  pub all_kept : (xs : List Term) (p : ℕ) → rvalues l locals xs ≡ reads p → values_of l store (values locals) (filled_all l locals (store p) xs) ≡ values_of l store (values locals) xs
  all_kept [] p e = refl
  all_kept (x ∷ rest) p e = rest_kept x rest p (all_kept rest p) (read_of (rvalue l locals x) (λ v. bind (rvalues l locals rest) (λ vs. yields (v ∷ vs))) p e)

pub reads_keep_the_worth : ReadsKeepTheWorth
reads_keep_the_worth = record { value = value_kept; place = place_kept; all = all_kept }
