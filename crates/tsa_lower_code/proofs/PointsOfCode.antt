-- The code of a point goes as the point.
use Rattle.std.proofs.Common.{◌≡◌, ◌≢◌, ◌∙◌, ℕ, zero, suc, ◌+◌, ◌<◌, ◌≤◌, max, pos, Bool, true, false, List, [], ◌∷◌, ◌++◌, length, take, drop, set, slice_get, find, is_some, option_and_then, if◌then◌else◌, Option, Some, None, refl, sym, ap, arith, append_assoc, length-set, get_or-set_same, get_or-set_other}
use Rattle.std.proofs.Math.Seq.{drop-cons}
use Rattle.tsa_base.specs.declared.value.Value.{Value}
use Rattle.tsa_base.specs.declared.value.Value.TheVariants as the
use Rattle.tsa_tree.specs.declared.attr.AttrKind.{AttrKind}
use Rattle.tsa_tree.specs.declared.attr.AttrKind.TheVariants as attr
use Rattle.tsa_tree.specs.declared.expr.BinaryOp.{BinaryOp}
use Rattle.tsa_tree.specs.declared.kind.Kind.{Kind}
use Rattle.tsa_place_model.specs.Calls.{Layout}
use Rattle.tsa_core.specs.Bodies.{Action, evaluate, set_local, set_cell, declare, test, branch, go_on, give, Point}
use Rattle.tsa_core.specs.Meanings.{Call}
use Rattle.tsa_core.specs.Programs.{Attr, Program}
use Rattle.tsa_core.specs.Terms.{Term, constant, variable, answer, global, member, element, target, load, address, converted, prefixed, joined}
use Rattle.tsa_path.specs.Values.{is_true, pointed_place}
use Rattle.tsa_rules.specs.Points.{function_at}
use Rattle.tsa_sched.specs.declared.event.TrapKind.TheVariants as trap
use Rattle.tsa_mean.specs.Acts.{Act, to_write, to_step, to_set, to_branch, to_choose, to_ask, to_enter, to_leave, act_outside, call_if, changes_lock, on_lock, on_pointed, stored_value}
use Rattle.tsa_mean.specs.Frames.{first_work, left_of, right_of, value_or_place}
use Rattle.tsa_mean.specs.Operators.{converted_to, operate_on, prefix_on}
use Rattle.tsa_mean.specs.Outs.{bind, Out, reads, traps, yields}
use Rattle.tsa_mean.specs.Working.{Locals, local_at, with_answer}
use Rattle.tsa_lower_going.specs.Going.{place_in, Going, gives, and_then, going_of, read_at, member_at, element_at, target_of, pointer_or_stop, join_going, place_going, value_going}
use Rattle.tsa_lower_code.specs.Codes.{act_in, going, height, place_code, slot, value_code}
use Rattle.tsa_lower_going.specs.Doing.{act_going, doing, finish_going, set_going, values_going, write_going}
use Rattle.tsa_lower_code.specs.TermLaws.{HasAnswer}
use Rattle.tsa_lower_code.specs.PointCodes.{action_code, action_height, args_code, args_height, begin_code, call_code, enter_code, lock_code, outside_code, point_height, PointsGoAsTheirCode, set_code, store_code, write_code}
use Rattle.tsa_lower_code.specs.declared.instr.Instr.{Instr}
use Rattle.tsa_lower_code.specs.declared.instr.Instr.TheVariants.{Local, Load, End}
use Rattle.tsa_lower_code.specs.declared.instr.Ending.{Ending}
use Rattle.tsa_lower_code.specs.declared.instr.Ending.TheVariants as ending
use Rattle.tsa_mean.proofs.Filling.{NoRead, operate_reads_none}
use Rattle.tsa_lower_code.proofs.TermCodes.{height-positive, and_then-assoc, place_lowered, and_then-same, value_lowered}

going_of-bind : (out : Out Value) (f : Value → Out Value) → NoRead out → going_of (bind out f) ≡ and_then (going_of out) (λ v. going_of (f v))
going_of-bind (traps kind) f q = refl
going_of-bind (reads p) f q = absurd (q p refl)
going_of-bind (yields v) f q = refl

-- what the call gave stands where it stood
mutual
  answered_place : (l : Layout) (locals : Locals) (v : Value) (x : Term) → place_going l locals (Some v) x ≡ place_going l locals None (with_answer v x)
  answered_place l locals v (global n) = refl
  answered_place l locals v (member base k) = ap (λ g. and_then g (member_at l k)) (answered_place l locals v base)
  answered_place l locals v (element base index) = ap (λ g. and_then g (λ b. and_then (value_going l locals (Some v) index) (element_at l b))) (answered_place l locals v base)
      ∙ ap (λ h. and_then (place_going l locals None (with_answer v base)) (λ b. and_then h (element_at l b))) (answered_value l locals v index)
  answered_place l locals v (target pointer) = ap (λ g. and_then g target_of) (answered_value l locals v pointer)
  answered_place l locals v (constant w) = refl
  answered_place l locals v (variable n) = refl
  answered_place l locals v answer = refl
  answered_place l locals v (load s p) = refl
  answered_place l locals v (address p) = refl
  answered_place l locals v (converted kind x) = refl
  answered_place l locals v (prefixed o x) = refl
  answered_place l locals v (joined o a b) = refl

  pub answered_value : (l : Layout) (locals : Locals) (v : Value) (x : Term) → value_going l locals (Some v) x ≡ value_going l locals None (with_answer v x)
  answered_value l locals v (constant w) = refl
  answered_value l locals v (variable n) = refl
  answered_value l locals v answer = refl
  answered_value l locals v (load s p) = ap (λ g. and_then g read_at) (answered_place l locals v p)
  answered_value l locals v (address p) = answered_place l locals v p
  answered_value l locals v (converted kind x) = ap (λ g. and_then g (λ w. going_of (converted_to kind w))) (answered_value l locals v x)
  answered_value l locals v (prefixed o x) = ap (λ g. and_then g (λ w. going_of (prefix_on o w))) (answered_value l locals v x)
  answered_value l locals v (joined o a b) = ap (λ g. and_then g (λ w. join_going o w (value_going l locals (Some v) b))) (answered_value l locals v a)
      ∙ ap (λ h. and_then (value_going l locals None (with_answer v a)) (λ w. join_going o w h)) (answered_value l locals v b)
  answered_value l locals v (global n) = refl
  answered_value l locals v (member base k) = refl
  answered_value l locals v (element base index) = refl
  answered_value l locals v (target pointer) = refl

abbrev write_end : Option BinaryOp → Kind → List Instr → List Instr
write_end None kind rest = End (ending.Write 1) ∷ rest
write_end (Some o) kind rest = Load 2 3 ∷ store_code o kind 3 (End (ending.Write 1) ∷ rest)

-- Slots but for the first one behind the answer are as they were.
record SameBut (s t : List Value) : Type 0 where
  long : length t ≡ length s
  others : (j : ℕ) → j ≢ 1 → slot t j ≡ slot s j

set_one : (s t : List Value) (v : Value) → SameBut s t → SameBut s (set t 1 v)
set_one s t v same = record { long = length-set t 1 v ∙ same.long; others = λ j d. get_or-set_other t 1 j v (the.Int (pos 0)) d ∙ same.others j d }

module _ (l : Layout) (locals : Locals) where
  -- the old value is joined with the right side
  store_on : (o : BinaryOp) (kind : Kind) (old : ℕ) (rest : List Instr) (t : List Value) (next : Value → Going Act) → 1 < length t
      → ((y : Value) (t' : List Value) → SameBut t t' → slot t' 1 ≡ y → going l locals 0 rest t' ≡ next y)
      → going l locals 0 (store_code o kind old rest) t ≡ and_then (going_of (stored_value kind o (slot t old) (slot t 1))) next
  store_on o kind old rest t next long on =
      and_then-same (going_of (operate_on o (slot t old) (slot t 1))) (λ w. and_then (going_of (converted_to kind (slot (set t 1 w) 1))) (λ y. going l locals 0 rest (set (set t 1 w) 1 y))) (λ w. and_then (going_of (converted_to kind w)) next)
      (λ w. ap (λ x. and_then (going_of (converted_to kind x)) (λ y. going l locals 0 rest (set (set t 1 w) 1 y))) (get_or-set_same t 1 w (the.Int (pos 0)) long)
      ∙ and_then-same (going_of (converted_to kind w)) (λ y. going l locals 0 rest (set (set t 1 w) 1 y)) next
      (λ y. on y (set (set t 1 w) 1 y) (set_one t (set t 1 w) y (set_one t t w (record { long = refl; others = λ j d. refl }))) (get_or-set_same (set t 1 w) 1 y (the.Int (pos 0)) (omega (arith, long, length-set t 1 w)))))
      ∙ (sym (and_then-assoc (going_of (operate_on o (slot t old) (slot t 1))) (λ w. going_of (converted_to kind w)) next)
      ∙ ap (λ g. and_then g next) (sym (going_of-bind (operate_on o (slot t old) (slot t 1)) (λ w. converted_to kind w) (operate_reads_none o (slot t old) (slot t 1)))))

  module _ (given : Option Value) (is_answered : Bool) where
    -- one more instruction behind a value
    end_lowered : (x : Term) (e : Ending) (f : Value → Act) (rest : List Instr) (s : List Value) → 1 + height x ≤ length s → HasAnswer given is_answered s
        → ((v : Value) (t : List Value) → slot t 1 ≡ v → act_in e t ≡ f v)
        → going l locals 0 ((value_code l is_answered x 1 ++ End e ∷ []) ++ rest) s ≡ and_then (value_going l locals given x) (λ v. gives (f v))
    end_lowered x e f rest s h has on = ap (λ is. going l locals 0 is s) (append_assoc (value_code l is_answered x 1) (End e ∷ []) rest)
        ∙ value_lowered l locals given is_answered x 1 (End e ∷ rest) s (λ v. gives (f v)) (omega arith) h has (record { on = λ v t long below at. ap gives (on v t at) })

    set_lowered : (n : ℕ) (o : Option BinaryOp) (kind : Kind) (x : Term) (rest : List Instr) (s : List Value) → action_height (set_local n o kind x) ≤ length s → HasAnswer given is_answered s
        → going l locals 0 (set_code l is_answered n o kind x ++ rest) s ≡ and_then (value_going l locals given x) (set_going locals n o kind)
    set_lowered n None kind x rest s h has = end_lowered x (ending.Set n 1) (λ v. to_set n v) rest s (omega (arith, h)) has (λ v t at. ap (to_set n) at)
    set_lowered n (Some o) kind x rest s h has = ap (λ is. going l locals 0 is s) (append_assoc (value_code l is_answered x 1) (Local 2 n ∷ store_code o kind 2 (End (ending.Set n 1) ∷ [])) rest)
        ∙ value_lowered l locals given is_answered x 1 (Local 2 n ∷ store_code o kind 2 (End (ending.Set n 1) ∷ rest)) s (set_going locals n (Some o) kind) (omega arith) (omega (arith, h)) has
        (record {
          on = λ v t long below at. store_on o kind 2 (End (ending.Set n 1) ∷ rest) (set t 2 (local_at locals n)) (λ w. gives (to_set n w)) (omega (arith, h, long, length-set t 2 (local_at locals n)))
              (λ y t' same e. ap (λ w. gives (to_set n w)) e)
              ∙ (ap (λ w. and_then (going_of (stored_value kind o w (slot (set t 2 (local_at locals n)) 1))) (λ y. gives (to_set n y))) (get_or-set_same t 2 (local_at locals n) (the.Int (pos 0)) (omega (arith, h, long)))
              ∙ ap (λ w. and_then (going_of (stored_value kind o (local_at locals n) w)) (λ y. gives (to_set n y))) (get_or-set_other t 2 1 (local_at locals n) (the.Int (pos 0)) (λ e. absurd (omega (arith, e))) ∙ at));
        })

    -- the cell at a place is written
    store_lowered : (o : Option BinaryOp) (kind : Kind) (place : Term) (rest : List Instr) (t : List Value) (v : Value) → max (2 + height place) 4 ≤ length t → slot t 1 ≡ v
        → going l locals 0 (place_code l false place 2 ++ write_end o kind rest) t ≡ and_then (place_going l locals None place) (write_going o kind None v)
    store_lowered None kind place rest t v h one = place_lowered l locals None false place 2 (End (ending.Write 1) ∷ rest) t (write_going None kind None v) (omega arith) (omega (arith, h)) tt
        (record { on = λ w t' long below at. ap (λ p. gives (to_write (place_in p) (slot t' 1))) at ∙ ap (λ y. gives (to_write (place_in w) y)) (below 1 (omega arith) ∙ one) })
    store_lowered (Some o) kind place rest t v h one = place_lowered l locals None false place 2 (Load 2 3 ∷ store_code o kind 3 (End (ending.Write 1) ∷ rest)) t (write_going (Some o) kind None v) (omega arith) (omega (arith, h)) tt
        (record {
          on = λ w t' long below at. ap (λ p. and_then (read_at p) (λ y. going l locals 0 (store_code o kind 3 (End (ending.Write 1) ∷ rest)) (set t' 3 y))) at
              ∙ and_then-same (read_at w) (λ y. going l locals 0 (store_code o kind 3 (End (ending.Write 1) ∷ rest)) (set t' 3 y)) (λ y. and_then (going_of (stored_value kind o y v)) (λ x. gives (to_write (place_in w) x)))
              (λ y. store_on o kind 3 (End (ending.Write 1) ∷ rest) (set t' 3 y) (λ x. gives (to_write (place_in w) x)) (omega (arith, h, long, length-set t' 3 y))
              (λ x t'' same e. ap (λ p. gives (to_write (place_in p) (slot t'' 1))) (same.others 2 (λ e. absurd (omega (arith, e))) ∙ (get_or-set_other t' 3 2 y (the.Int (pos 0)) (λ e. absurd (omega (arith, e))) ∙ at))
              ∙ ap (λ q. gives (to_write (place_in w) q)) e)
              ∙ (ap (λ q. and_then (going_of (stored_value kind o q (slot (set t' 3 y) 1))) (λ x. gives (to_write (place_in w) x))) (get_or-set_same t' 3 y (the.Int (pos 0)) (omega (arith, h, long)))
              ∙ ap (λ q. and_then (going_of (stored_value kind o y q)) (λ x. gives (to_write (place_in w) x))) (get_or-set_other t' 3 1 y (the.Int (pos 0)) (λ e. absurd (omega (arith, e))) ∙ (below 1 (omega arith) ∙ one))));
        })

    write_code_is : (place : Term) (o : Option BinaryOp) (kind : Kind) (x : Term) (rest : List Instr) → write_code l is_answered place o kind x ++ rest ≡ value_code l is_answered x 1 ++ (place_code l false place 2 ++ write_end o kind rest)
    write_code_is place None kind x rest = append_assoc (value_code l is_answered x 1) (place_code l false place 2 ++ End (ending.Write 1) ∷ []) rest
        ∙ ap (λ is. value_code l is_answered x 1 ++ is) (append_assoc (place_code l false place 2) (End (ending.Write 1) ∷ []) rest)
    write_code_is place (Some o) kind x rest = append_assoc (value_code l is_answered x 1) (place_code l false place 2 ++ Load 2 3 ∷ store_code o kind 3 (End (ending.Write 1) ∷ [])) rest
        ∙ ap (λ is. value_code l is_answered x 1 ++ is) (append_assoc (place_code l false place 2) (Load 2 3 ∷ store_code o kind 3 (End (ending.Write 1) ∷ [])) rest)

    write_lowered : (place : Term) (o : Option BinaryOp) (kind : Kind) (x : Term) (rest : List Instr) (s : List Value) → action_height (set_cell place o kind x) ≤ length s → HasAnswer given is_answered s
        → going l locals 0 (write_code l is_answered place o kind x ++ rest) s ≡ and_then (value_going l locals given x) (λ v. and_then (place_going l locals None place) (write_going o kind None v))
    write_lowered place o kind x rest s h has = ap (λ is. going l locals 0 is s) (write_code_is place o kind x rest)
        ∙ value_lowered l locals given is_answered x 1 (place_code l false place 2 ++ write_end o kind rest) s (λ v. and_then (place_going l locals None place) (write_going o kind None v)) (omega arith) (omega (arith, h)) has
        (record { on = λ v t long below at. store_lowered o kind place rest t v (omega (arith, h, long)) at })

    -- an action
    pub action_lowered : (a : Action) (rest : List Instr) (s : List Value) → action_height a ≤ length s → HasAnswer given is_answered s
        → going l locals 0 (action_code l is_answered a ++ rest) s ≡ and_then (value_going l locals given (right_of a)) (finish_going l locals a (left_of a) None)
    action_lowered (evaluate x) rest s h has = end_lowered (value_or_place x) ending.Step (λ v. to_step) rest s h has (λ v t at. refl)
    action_lowered (declare n kind x) rest s h has = end_lowered x (ending.Set n 1) (λ v. to_set n v) rest s h has (λ v t at. ap (to_set n) at)
    action_lowered (set_local n o kind x) rest s h has = set_lowered n o kind x rest s h has
    action_lowered (set_cell place o kind x) rest s h has = write_lowered place o kind x rest s h has
    action_lowered (test x) rest s h has = end_lowered x (ending.Branch 1) (λ v. to_branch (is_true v)) rest s h has (λ v t at. ap (λ w. to_branch (is_true w)) at)
    action_lowered (branch x) rest s h has = end_lowered x (ending.Choose 1) (λ v. to_choose v) rest s h has (λ v t at. ap to_choose at)
    action_lowered go_on rest s h has = refl
    action_lowered (give kind x) rest s h has = end_lowered x (ending.Leave 1) (λ v. to_leave v) rest s h has (λ v t at. ap to_leave at)

-- Arguments, which stand one after the other.
record ArgsGoOn (n k : ℕ) (s : List Value) (rest : List Value → Going Act) (next : List Value → Going Act) : Type 0 where
  on : (vs t : List Value) → length t ≡ length s → ((j : ℕ) → j < k → slot t j ≡ slot s j) → take n (drop k t) ≡ vs → rest t ≡ next vs

next_taken : (n k : ℕ) (t vs : List Value) (v : Value) → k < length t → slot t k ≡ v → take n (drop (k + 1) t) ≡ vs → take (suc n) (drop k t) ≡ v ∷ vs
next_taken n k t vs v h at is = let e : k + 1 ≡ suc k = omega arith in
    ap (λ xs. take (suc n) xs) (drop-cons t k (the.Int (pos 0)) h) ∙ (ap (λ w. w ∷ take n (drop (suc k) t)) at ∙ ap (λ xs. v ∷ xs) (ap (λ m. take n (drop m t)) (sym e) ∙ is))

args_lowered : (l : Layout) (locals : Locals) (xs : List Term) (k : ℕ) (rest : List Instr) (s : List Value) (next : List Value → Going Act) → 0 < k → args_height xs k ≤ length s
    → ArgsGoOn (length xs) k s (going l locals 0 rest) next → going l locals 0 (args_code l xs k ++ rest) s ≡ and_then (values_going l locals xs) next
args_lowered l locals [] k rest s next z h c = c.on [] s refl (λ j b. refl) refl
args_lowered l locals (x ∷ xs) k rest s next z h c = ap (λ is. going l locals 0 is s) (append_assoc (value_code l false x k) (args_code l xs (k + 1)) rest)
    ∙ (value_lowered l locals None false x k (args_code l xs (k + 1) ++ rest) s (λ v. and_then (values_going l locals xs) (λ vs. next (v ∷ vs))) z (omega (arith, h)) tt
    (record {
      on = λ v t long below at. args_lowered l locals xs (k + 1) rest t (λ vs. next (v ∷ vs)) (omega arith) (omega (arith, h, long))
          (record {
            on = λ vs t' long' below' is. c.on (v ∷ vs) t' (long' ∙ long) (λ j b. below' j (omega arith) ∙ below j b)
                (next_taken (length xs) k t' vs v (omega (arith, h, long, long', height-positive x)) (below' k (omega arith) ∙ at) is);
          });
    })
    ∙ (and_then-same (value_going l locals None x) (λ v. and_then (values_going l locals xs) (λ vs. next (v ∷ vs))) (λ v. and_then (and_then (values_going l locals xs) (λ vs. gives (v ∷ vs))) next)
    (λ v. sym (and_then-assoc (values_going l locals xs) (λ vs. gives (v ∷ vs)) next))
    ∙ sym (and_then-assoc (value_going l locals None x) (λ v. and_then (values_going l locals xs) (λ vs. gives (v ∷ vs))) next)))

lock_acts : (kind : AttrKind) (success : Bool) (lock f : ℕ) (result : Kind) → act_going (on_lock kind success lock (to_ask f result)) ≡ gives (on_lock kind success lock (to_ask f result))
lock_acts attr.Acquire success lock f result = refl
lock_acts attr.AcquireShared success lock f result = refl
lock_acts attr.TryAcquire success lock f result = refl
lock_acts attr.TryAcquireShared success lock f result = refl
lock_acts attr.Release success lock f result = refl
lock_acts attr.ReleaseShared success lock f result = refl
lock_acts attr.ReleaseGeneric success lock f result = refl
lock_acts kind success lock f result = refl

taken_first : (n : ℕ) (t vs : List Value) → 1 < length t → take (suc n) (drop 1 t) ≡ vs → slice_get vs 0 ≡ Some (slot t 1)
taken_first n t vs h is = ap (λ xs. slice_get xs 0) (sym is ∙ ap (λ xs. take (suc n) xs) (drop-cons t 1 (the.Int (pos 0)) h))

module _ (l : Layout) (locals : Locals) where
  -- the lock that the first argument points to
  pointed_lowered : (f : ℕ) (result : Kind) (a : Attr) (rest : List Instr) (t : List Value) → 1 < length t → (p : Option ℕ) → pointed_place (slot t 1) ≡ p
      → and_then (pointer_or_stop trap.NullPointer p) (λ v. gives (act_in (ending.Lock a.kind a.success 1 f result) (set t 1 v))) ≡ act_going (on_pointed a p (to_ask f result))
  pointed_lowered f result a rest t h None is = refl
  pointed_lowered f result a rest t h (Some n) is = ap (λ v. gives (on_lock a.kind a.success (place_in v) (to_ask f result))) (get_or-set_same t 1 (the.Pointer (Some n)) (the.Int (pos 0)) h)
      ∙ sym (lock_acts a.kind a.success n f result)

  lock_lowered : (n f : ℕ) (result : Kind) (a : Attr) (rest : List Instr) (t vs : List Value) → 1 + n ≤ length t → take n (drop 1 t) ≡ vs
      → going l locals 0 (lock_code n f result a ++ rest) t ≡ act_going (on_pointed a (option_and_then pointed_place (slice_get vs 0)) (to_ask f result))
  lock_lowered zero f result a rest t vs h is = ap (λ v. act_going (on_pointed a (option_and_then pointed_place (slice_get v 0)) (to_ask f result))) is
  lock_lowered (suc n) f result a rest t vs h is = pointed_lowered f result a rest t (omega (arith, h)) (pointed_place (slot t 1)) refl
      ∙ ap (λ o. act_going (on_pointed a (option_and_then pointed_place o) (to_ask f result))) (sym (taken_first n t vs (omega (arith, h)) is))

  outside_lowered : (n f : ℕ) (result : Kind) (a : Option Attr) (rest : List Instr) (t vs : List Value) → 1 + n ≤ length t → take n (drop 1 t) ≡ vs
      → going l locals 0 (outside_code n f result a ++ rest) t ≡ act_going (act_outside f result vs a)
  outside_lowered n f result None rest t vs h is = refl
  outside_lowered n f result (Some a) rest t vs h is = lock_lowered n f result a rest t vs h is

  enter_lowered : (b : Bool) (n f : ℕ) (outside rest : List Instr) (act : Act) (t vs : List Value) → take n (drop 1 t) ≡ vs → going l locals 0 (outside ++ rest) t ≡ act_going act
      → going l locals 0 (enter_code b n f outside ++ rest) t ≡ act_going (if b then to_enter f vs else act)
  enter_lowered true n f outside rest act t vs is on = ap (λ xs. gives (to_enter f xs)) is
  enter_lowered false n f outside rest act t vs is on = on

args_long : (xs : List Term) (k : ℕ) → k + length xs ≤ args_height xs k
args_long [] k = omega arith
args_long (x ∷ xs) k = omega (arith, args_long xs (k + 1))

call_lowered : (u : Program) (locals : Locals) (c : Call) (rest : List Instr) (s : List Value) → args_height c.args 1 ≤ length s
    → going u.layout locals 0 (call_code u c ++ rest) s ≡ and_then (values_going u.layout locals c.args) (λ vs. act_going (call_if u locals (Some c) vs))
call_lowered u locals c rest s h = ap (λ is. going u.layout locals 0 is s) (append_assoc (args_code u.layout c.args 1) (enter_code (is_some (function_at u c.function).body) (length c.args) c.function (outside_code (length c.args) c.function (function_at u c.function).result (find (λ a. changes_lock a.kind) (function_at u c.function).attrs))) rest)
    ∙ args_lowered u.layout locals c.args 1 (enter_code (is_some (function_at u c.function).body) (length c.args) c.function (outside_code (length c.args) c.function (function_at u c.function).result (find (λ a. changes_lock a.kind) (function_at u c.function).attrs)) ++ rest) s
    (λ vs. act_going (call_if u locals (Some c) vs)) (omega arith) h
    (record {
      on = λ vs t long below is. enter_lowered u.layout locals (is_some (function_at u c.function).body) (length c.args) c.function (outside_code (length c.args) c.function (function_at u c.function).result (find (λ a. changes_lock a.kind) (function_at u c.function).attrs)) rest
          (act_outside c.function (function_at u c.function).result vs (find (λ a. changes_lock a.kind) (function_at u c.function).attrs)) t vs is
          (outside_lowered u.layout locals (length c.args) c.function (function_at u c.function).result (find (λ a. changes_lock a.kind) (function_at u c.function).attrs) rest t vs (omega (arith, h, long, args_long c.args 1)) is);
    })

begin_lowered : (u : Program) (locals : Locals) (p : Point) (call : Option Call) (rest : List Instr) (s : List Value) → p.call ≡ call → point_height p call ≤ length s
    → going u.layout locals 0 (begin_code u p call ++ rest) s ≡ doing u locals p (first_work call p.action)
begin_lowered u locals p None rest s is h = action_lowered u.layout locals None false p.action rest s h tt
begin_lowered u locals p (Some c) rest s is h = call_lowered u locals c rest s (omega (arith, h)) ∙ ap (λ k. and_then (values_going u.layout locals c.args) (λ vs. act_going (call_if u locals k vs))) (sym is)

action_below : (p : Point) (call : Option Call) → action_height p.action ≤ point_height p call
action_below p None = omega arith
action_below p (Some c) = omega arith

pub points_go : PointsGoAsTheirCode
points_go = record {
  begins = λ u locals p rest s h. begin_lowered u locals p p.call rest s refl h;
  goes_on = λ u locals p rest s v h has. action_lowered u.layout locals (Some v) true p.action rest s (omega (arith, h, action_below p p.call)) has
      ∙ ap (λ g. and_then g (finish_going u.layout locals p.action (left_of p.action) None)) (answered_value u.layout locals v (right_of p.action));
}
