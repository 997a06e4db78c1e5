-- The act of a point tells what comes first of what is still to come there.
use Rattle.std.proofs.Common.{◌≡◌, ◌∙◌, ℕ, Bool, true, false, List, [], ◌∷◌, Option, Some, None, find, is_some, option_and_then, slice_get, if◌then◌else◌, refl, ap, sym, subst}
use Rattle.tsa_base.specs.declared.value.Value.{Value}
use Rattle.tsa_base.specs.declared.value.Value.TheVariants.{Pointer}
use Rattle.tsa_tree.specs.declared.attr.AttrKind.{AttrKind}
use Rattle.tsa_tree.specs.declared.attr.AttrKind.TheVariants as attr
use Rattle.tsa_tree.specs.declared.expr.BinaryOp.{BinaryOp}
use Rattle.tsa_tree.specs.declared.kind.Kind.{Kind}
use Rattle.tsa_place_model.specs.Calls.{Layout}
use Rattle.tsa_core.specs.Bodies.{Action, evaluate, set_local, set_cell, declare, test, branch, go_on, give, Point}
use Rattle.tsa_core.specs.Meanings.{Call}
use Rattle.tsa_core.specs.Programs.{Attr, Program}
use Rattle.tsa_core.specs.Terms.{Term}
use Rattle.tsa_path.specs.Values.{pointed_place}
use Rattle.tsa_rules.specs.Points.{function_at}
use Rattle.tsa_sched.specs.declared.event.TrapKind.TheVariants as trap
use Rattle.tsa_mean.specs.Acts.{Act, to_read, to_write, to_step, to_set, to_branch, to_choose, to_take, to_try, to_give, to_ask, to_enter, to_leave, to_trap, act_at, act_outside, args_act, call_if, point_of, changes_lock, finish, on_lock, on_pointed, on_value, place_act, set_act, stored_value, unless_trap, write_act}
use Rattle.tsa_mean.specs.Outs.{bind, Out, reads, TrapKind, traps, yields}
use Rattle.tsa_mean.specs.Operators.{converted_to, operate_on}
use Rattle.tsa_mean.specs.States.{Work, calling, working}
use Rattle.tsa_mean.specs.Working.{at_first, filled, filled_all, Locals, local_at, lvalue, rvalues}
use Rattle.tsa_lower_going.specs.Going.{Going, stops, asks, gives, and_then, going_of, place_going, value_going, first_of}
use Rattle.tsa_lower_going.specs.Doing.{FramesTellWhatComes, act_going, doing, finish_going, IsDone, set_going, Tells, values_going, write_going}
use Rattle.tsa_mean.proofs.Filling.{no_trap, NoRead, operate_reads_none}
use Rattle.tsa_lower_going.proofs.TermReads.{convert_reads_none, pointer_out, first_of-and_then, place_first, place_left, value_first, value_left}

-- What an operator stores reads nothing.
bind_reads_none : (out : Out Value) (f : Value → Out Value) → NoRead out → ((v : Value) → NoRead (f v)) → NoRead (bind out f)
bind_reads_none (traps kind) f none each p e = no_trap e
bind_reads_none (reads place) f none each p e = none p e
bind_reads_none (yields v) f none each p e = each v p e

pub store_reads_none : (kind : Kind) (o : BinaryOp) (old new : Value) → NoRead (stored_value kind o old new)
store_reads_none kind o old new = bind_reads_none (operate_on o old new) (λ v. converted_to kind v) (operate_reads_none o old new) (convert_reads_none kind)

unless_tells : (on : Work → Going Act) (out : Out Value) (f : Value → Act) → NoRead out → ((v : Value) → IsDone (f v)) → Tells on (unless_trap out f) (and_then (going_of out) (λ w. gives (f w)))
unless_tells on (traps kind) f q done = refl
unless_tells on (reads place) f q done = absurd (q place refl)
unless_tells on (yields v) f q done = (refl, done v)

set_tells : (u : Program) (locals : Locals) (on : Work → Going Act) (n : ℕ) (o : Option BinaryOp) (kind : Kind) (v : Value) → Tells on (set_act u locals n o kind v) (set_going locals n o kind v)
set_tells u locals on n None kind v = (refl, tt)
set_tells u locals on n (Some o) kind v = unless_tells on (stored_value kind o (local_at locals n) v) (λ w. to_set n w) (store_reads_none kind o (local_at locals n) v) (λ w. tt)

-- A place that is worked out is a pointer to it.
place_yields : (l : Layout) (locals : Locals) (x : Term) (n : ℕ) (w : Value) → place_going l locals None x ≡ gives w → lvalue l locals x ≡ yields n → w ≡ Pointer (Some n)
place_yields l locals x n w e at = ap value_of (sym (ap first_of e) ∙ (place_first l locals x ∙ ap pointer_out at))
  where
    value_of : Out Value → Value
    value_of (traps k) = Pointer None
    value_of (reads p) = Pointer None
    value_of (yields v) = v

module _ (u : Program) (locals : Locals) (p : Point) where
  -- a cell is written at a place that is worked out
  write_tells : (place : Term) (o : Option BinaryOp) (kind : Kind) (x right left : Term) (old : Option Value) (v : Value) (n : ℕ)
      → p.action ≡ set_cell place o kind x → value_going u.layout locals None right ≡ gives v → place_going u.layout locals None left ≡ gives (Pointer (Some n))
      → Tells (doing u locals p) (write_act u locals right left old o kind n v) (write_going o kind old v (Pointer (Some n)))
  write_tells place None kind x right left old v n a e at = (refl, tt)
  write_tells place (Some o) kind x right left None v n a e at = (
    refl,
    λ w. ap (λ g. and_then g (finish_going u.layout locals p.action (Some left) (Some w))) e
        ∙ (ap (λ b. finish_going u.layout locals b (Some left) (Some w) v) a ∙ ap (λ g. and_then g (write_going (Some o) kind (Some w) v)) at),
  )
  write_tells place (Some o) kind x right left (Some w) v n a e at = unless_tells (doing u locals p) (stored_value kind o w v) (λ y. to_write n y) (store_reads_none kind o w v) (λ y. tt)

  place_tells : (place : Term) (o : Option BinaryOp) (kind : Kind) (x right left : Term) (old : Option Value) (v : Value) (g : Going Value)
      → p.action ≡ set_cell place o kind x → value_going u.layout locals None right ≡ gives v → place_going u.layout locals None left ≡ g → (out : Out ℕ) → lvalue u.layout locals left ≡ out
      → Tells (doing u locals p) (place_act u locals right left old o kind v out) (and_then g (write_going o kind old v))
  place_tells place o kind x right left old v (stops k) a e at (traps j) is = ap to_trap (ap kind_of (sym (ap pointer_out is) ∙ (sym (place_first u.layout locals left) ∙ ap first_of at)))
    where
      kind_of : Out Value → TrapKind
      kind_of (traps k) = k
      kind_of (reads p) = trap.NullPointer
      kind_of (yields v) = trap.NullPointer
  place_tells place o kind x right left old v (stops k) a e at (reads q) is = let no : reads q ≡ traps k = sym (ap pointer_out is) ∙ (sym (place_first u.layout locals left) ∙ ap first_of at) in cc
  place_tells place o kind x right left old v (stops k) a e at (yields n) is = let no : yields (Pointer (Some n)) ≡ traps k = sym (ap pointer_out is) ∙ (sym (place_first u.layout locals left) ∙ ap first_of at) in cc
  place_tells place o kind x right left old v (asks q k) a e at (traps j) is = let no : traps j ≡ reads q = sym (ap pointer_out is) ∙ (sym (place_first u.layout locals left) ∙ ap first_of at) in cc
  place_tells place o kind x right left old v (asks q k) a e at (reads r) is = (
    ap cell_of (sym (ap pointer_out is) ∙ (sym (place_first u.layout locals left) ∙ ap first_of at)),
    λ w. ap (λ g. and_then g (finish_going u.layout locals p.action (Some (filled u.layout locals w left)) old)) e
        ∙ (ap (λ b. finish_going u.layout locals b (Some (filled u.layout locals w left)) old v) a
        ∙ ap (λ g. and_then g (write_going o kind old v)) (place_left u.layout locals w left q k at)),
  )
    where
      cell_of : Out Value → ℕ
      cell_of (traps k) = 0
      cell_of (reads p) = p
      cell_of (yields v) = 0
  place_tells place o kind x right left old v (asks q k) a e at (yields n) is = let no : yields (Pointer (Some n)) ≡ reads q = sym (ap pointer_out is) ∙ (sym (place_first u.layout locals left) ∙ ap first_of at) in cc
  place_tells place o kind x right left old v (gives w) a e at (traps j) is = let no : traps j ≡ yields w = sym (ap pointer_out is) ∙ (sym (place_first u.layout locals left) ∙ ap first_of at) in cc
  place_tells place o kind x right left old v (gives w) a e at (reads r) is = let no : reads r ≡ yields w = sym (ap pointer_out is) ∙ (sym (place_first u.layout locals left) ∙ ap first_of at) in cc
  place_tells place o kind x right left old v (gives w) a e at (yields n) is = let same : w ≡ Pointer (Some n) = place_yields u.layout locals left n w at is in
      subst (λ y. Tells (doing u locals p) (write_act u locals right left old o kind n v) (write_going o kind old v y)) (sym same)
      (write_tells place o kind x right left old v n a e (at ∙ ap gives same))

  finish_tells : (a : Action) (right : Term) (left : Option Term) (old : Option Value) (v : Value) → p.action ≡ a → value_going u.layout locals None right ≡ gives v
      → Tells (doing u locals p) (finish u locals a right left old v) (finish_going u.layout locals a left old v)
  finish_tells (evaluate x) right left old v a e = (refl, tt)
  finish_tells (declare n kind x) right left old v a e = (refl, tt)
  finish_tells (set_local n o kind x) right left old v a e = set_tells u locals (doing u locals p) n o kind v
  finish_tells (set_cell place o kind x) right (Some left) old v a e = place_tells place o kind x right left old v (place_going u.layout locals None left) a e refl (lvalue u.layout locals left) refl
  finish_tells (set_cell place o kind x) right None old v a e = (refl, tt)
  finish_tells (test x) right left old v a e = (refl, tt)
  finish_tells (branch x) right left old v a e = (refl, tt)
  finish_tells go_on right left old v a e = (refl, tt)
  finish_tells (give kind x) right left old v a e = (refl, tt)

  -- the right side is worked out
  working_tells : (right : Term) (left : Option Term) (old : Option Value) (g : Going Value) → value_going u.layout locals None right ≡ g
      → Tells (doing u locals p) (on_value (first_of g) (λ v. finish u locals p.action right left old v) (λ v. working (filled u.layout locals v right) left old)) (and_then g (finish_going u.layout locals p.action left old))
  working_tells right left old (stops k) e = refl
  working_tells right left old (asks q k) e = (refl, λ v. ap (λ g. and_then g (finish_going u.layout locals p.action left old)) (value_left u.layout locals v right q k e))
  working_tells right left old (gives v) e = finish_tells p.action right left old v refl e

-- Arguments in order.
values_first : (l : Layout) (locals : Locals) (xs : List Term) → first_of (values_going l locals xs) ≡ rvalues l locals xs
values_first l locals [] = refl
values_first l locals (x ∷ rest) = first_of-and_then (value_going l locals None x) (λ v. and_then (values_going l locals rest) (λ vs. gives (v ∷ vs))) (λ v. bind (rvalues l locals rest) (λ vs. yields (v ∷ vs)))
    (λ v. first_of-and_then (values_going l locals rest) (λ vs. gives (v ∷ vs)) (λ vs. yields (v ∷ vs)) (λ vs. refl) ∙ ap (λ o. bind o (λ vs. yields (v ∷ vs))) (values_first l locals rest))
    ∙ ap (λ o. bind o (λ v. bind (rvalues l locals rest) (λ vs. yields (v ∷ vs)))) (value_first l locals x)

cells : Going (List Value) → ℕ
cells (asks p left) = p
cells (stops kind) = 0
cells (gives a) = 0

lefts : Going (List Value) → Value → Going (List Value)
lefts (asks p left) = left
lefts (stops kind) = λ v. stops kind
lefts (gives a) = λ v. gives a

tail_left : (g h : Going (List Value)) (v w : Value) (p : ℕ) (k : Value → Going (List Value)) → ((j : Value → Going (List Value)) → g ≡ asks p j → h ≡ j v)
    → and_then g (λ vs. gives (w ∷ vs)) ≡ asks p k → and_then h (λ vs. gives (w ∷ vs)) ≡ k v
unfolding cells lefts
tail_left (stops kind) h v w p k after e = cc
tail_left (asks q j) h v w p k after e = ap (λ g. and_then g (λ vs. gives (w ∷ vs))) (after j (ap (λ n. asks n j) (ap cells e))) ∙ ap (λ g. lefts g v) e
tail_left (gives vs) h v w p k after e = cc

values_left : (l : Layout) (locals : Locals) (v : Value) (xs : List Term) (p : ℕ) (k : Value → Going (List Value)) → values_going l locals xs ≡ asks p k → values_going l locals (filled_all l locals v xs) ≡ k v
unfolding cells lefts
values_left l locals v [] p k e = cc
values_left l locals v (x ∷ rest) p k e = by (value_going l locals None x) refl e (λ j. values_left l locals v rest p j)
  where
    by : (g : Going Value) → value_going l locals None x ≡ g → and_then g (λ w. and_then (values_going l locals rest) (λ vs. gives (w ∷ vs))) ≡ asks p k
        → ((j : Value → Going (List Value)) → values_going l locals rest ≡ asks p j → values_going l locals (filled_all l locals v rest) ≡ j v) → values_going l locals (filled_all l locals v (x ∷ rest)) ≡ k v
    by (stops kind) is e after = cc
    by (asks q j) is e after = ap (λ out. values_going l locals (at_first out (filled l locals v x ∷ rest) (x ∷ filled_all l locals v rest))) (sym (value_first l locals x) ∙ ap first_of is)
        ∙ (ap (λ g. and_then g (λ w. and_then (values_going l locals rest) (λ vs. gives (w ∷ vs)))) (value_left l locals v x q j is) ∙ ap (λ g. lefts g v) e)
    by (gives w) is e after = ap (λ out. values_going l locals (at_first out (filled l locals v x ∷ rest) (x ∷ filled_all l locals v rest))) (sym (value_first l locals x) ∙ ap first_of is)
        ∙ (ap (λ g. and_then g (λ y. and_then (values_going l locals (filled_all l locals v rest)) (λ vs. gives (y ∷ vs)))) is
        ∙ tail_left (values_going l locals rest) (values_going l locals (filled_all l locals v rest)) v w p k after e)

-- a call reads nothing
ReadsNothing : Act → Type 0
ReadsNothing (to_read place left) = ⊥
ReadsNothing act = Unit {0}

reads_nothing_on_lock : (kind : AttrKind) (success : Bool) (lock : ℕ) (other : Act) → ReadsNothing other → ReadsNothing (on_lock kind success lock other)
unfolding ReadsNothing
reads_nothing_on_lock attr.Acquire success lock other n = tt
reads_nothing_on_lock attr.AcquireShared success lock other n = tt
reads_nothing_on_lock attr.TryAcquire success lock other n = tt
reads_nothing_on_lock attr.TryAcquireShared success lock other n = tt
reads_nothing_on_lock attr.Release success lock other n = tt
reads_nothing_on_lock attr.ReleaseShared success lock other n = tt
reads_nothing_on_lock attr.ReleaseGeneric success lock other n = tt
reads_nothing_on_lock kind success lock other n = n

reads_nothing_pointed : (a : Attr) (lock : Option ℕ) (other : Act) → ReadsNothing other → ReadsNothing (on_pointed a lock other)
unfolding ReadsNothing
reads_nothing_pointed a None other n = tt
reads_nothing_pointed a (Some lock) other n = reads_nothing_on_lock a.kind a.success lock other n

reads_nothing_outside : (f : ℕ) (result : Kind) (args : List Value) (a : Option Attr) → ReadsNothing (act_outside f result args a)
unfolding ReadsNothing
reads_nothing_outside f result args None = tt
reads_nothing_outside f result args (Some a) = reads_nothing_pointed a (option_and_then pointed_place (slice_get args 0)) (to_ask f result) tt

reads_nothing_of_call : (b : Bool) (f : ℕ) (args : List Value) (other : Act) → ReadsNothing other → ReadsNothing (if b then to_enter f args else other)
unfolding ReadsNothing
reads_nothing_of_call true f args other n = tt
reads_nothing_of_call false f args other n = n

reads_nothing_call : (u : Program) (locals : Locals) (c : Option Call) (vs : List Value) → ReadsNothing (call_if u locals c vs)
unfolding ReadsNothing
reads_nothing_call u locals None vs = tt
reads_nothing_call u locals (Some c) vs = reads_nothing_of_call (is_some (function_at u c.function).body) c.function vs (act_outside c.function (function_at u c.function).result vs (find (λ a. changes_lock a.kind) (function_at u c.function).attrs))
    (reads_nothing_outside c.function (function_at u c.function).result vs (find (λ a. changes_lock a.kind) (function_at u c.function).attrs))

act_going_tells : (on : Work → Going Act) (act : Act) → ReadsNothing act → Tells on act (act_going act)
unfolding ReadsNothing
act_going_tells on (to_read place left) n = absurd n
act_going_tells on (to_trap kind) n = refl
act_going_tells on (to_write place v) n = (refl, tt)
act_going_tells on to_step n = (refl, tt)
act_going_tells on (to_set k v) n = (refl, tt)
act_going_tells on (to_branch b) n = (refl, tt)
act_going_tells on (to_choose v) n = (refl, tt)
act_going_tells on (to_take mode lock) n = (refl, tt)
act_going_tells on (to_try mode success lock) n = (refl, tt)
act_going_tells on (to_give mode lock) n = (refl, tt)
act_going_tells on (to_ask f kind) n = (refl, tt)
act_going_tells on (to_enter f args) n = (refl, tt)
act_going_tells on (to_leave v) n = (refl, tt)

args_tells : (u : Program) (locals : Locals) (p : Point) (args : List Term) (g : Going (List Value)) → values_going u.layout locals args ≡ g
    → Tells (doing u locals p) (args_act u locals p.call args (first_of g)) (and_then g (λ vs. act_going (call_if u locals p.call vs)))
args_tells u locals p args (stops kind) e = refl
args_tells u locals p args (asks q k) e = (refl, λ v. ap (λ g. and_then g (λ vs. act_going (call_if u locals p.call vs))) (values_left u.layout locals v args q k e))
args_tells u locals p args (gives vs) e = act_going_tells (doing u locals p) (call_if u locals p.call vs) (reads_nothing_call u locals p.call vs)

-- The act of a point is what comes first there, and with the value of a read what then is still to come is the same.
pub acts_tell : (u : Program) (locals : Locals) (p : Point) (w : Work) → Tells (doing u locals p) (act_at u locals p w) (doing u locals p w)
acts_tell u locals p (calling args) = subst (λ o. Tells (doing u locals p) (args_act u locals p.call args o) (doing u locals p (calling args))) (values_first u.layout locals args)
    (args_tells u locals p args (values_going u.layout locals args) refl)
acts_tell u locals p (working right left old) = subst (λ o. Tells (doing u locals p) (on_value o (λ v. finish u locals p.action right left old v) (λ v. working (filled u.layout locals v right) left old)) (doing u locals p (working right left old)))
    (value_first u.layout locals right) (working_tells u locals p right left old (value_going u.layout locals None right) refl)

pub frames_tell : FramesTellWhatComes
frames_tell u frame = acts_tell u frame.locals (point_of u frame) frame.work
