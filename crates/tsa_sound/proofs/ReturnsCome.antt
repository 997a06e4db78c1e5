-- From which points returns come.
use Rattle.std.proofs.Common.{◌≡◌, ℕ, Bool, true, false, List, Option, Some, None, find, is_some, option_and_then, slice_get, if◌then◌else◌}
use Rattle.std.proofs.Common.{refl, sym, subst}
use Rattle.tsa_base.specs.declared.value.Value.{Value}
use Rattle.tsa_tree.specs.declared.attr.AttrKind.{AttrKind}
use Rattle.tsa_tree.specs.declared.attr.AttrKind.TheVariants as attr
use Rattle.tsa_tree.specs.declared.expr.BinaryOp.{BinaryOp}
use Rattle.tsa_tree.specs.declared.kind.Kind.{Kind}
use Rattle.tsa_core.specs.Bodies.{Action, evaluate, set_local, set_cell, declare, test, branch, go_on, give, point}
use Rattle.tsa_core.specs.Meanings.{Call}
use Rattle.tsa_core.specs.Programs.{Attr, Function, Program}
use Rattle.tsa_core.specs.Terms.{Term}
use Rattle.tsa_rules.specs.Points.{function_at}
use Rattle.tsa_path.specs.Values.{pointed_place}
use Rattle.tsa_mean.specs.Acts.{Act, act_at, act_of, act_of_call, act_outside, args_act, changes_lock, finish, on_lock, on_pointed}
use Rattle.tsa_mean.specs.Acts.{on_value, place_act, point_of, set_act, unless_trap, write_act, to_ask, to_enter, to_leave, to_set}
use Rattle.tsa_mean.specs.Acts.{to_write}
use Rattle.tsa_mean.specs.Outs.{Out, traps, reads, yields}
use Rattle.tsa_mean.specs.States.{Frame, Work, calling, working}
use Rattle.tsa_mean.specs.Working.{Locals, filled, lvalue, rvalue, rvalues}
use Rattle.tsa_sound.specs.Laws.{IsLeave}

-- a value is given back
pub record Returns (u : Program) (locals : Locals) (action : Action) (work : Work) (act : Act) : Type 0 where
  pub kind : Kind
  pub written : Term
  pub gives : action ≡ give kind written
  pub right : Term
  pub left : Option Term
  pub old : Option Value
  pub is : work ≡ working right left old
  pub value : Value
  pub found : rvalue u.layout locals right ≡ yields value
  pub does : to_leave value ≡ act

-- no call is a return
on_lock_leaves : {A : Type 0} (kind : AttrKind) (success : Bool) (lock : ℕ) (n : ℕ) (result : Kind) → IsLeave (on_lock kind success lock (to_ask n result)) → A
on_lock_leaves attr.Acquire success lock n result is = absurd is
on_lock_leaves attr.AcquireShared success lock n result is = absurd is
on_lock_leaves attr.TryAcquire success lock n result is = absurd is
on_lock_leaves attr.TryAcquireShared success lock n result is = absurd is
on_lock_leaves attr.Release success lock n result is = absurd is
on_lock_leaves attr.ReleaseShared success lock n result is = absurd is
on_lock_leaves attr.ReleaseGeneric success lock n result is = absurd is
on_lock_leaves kind success lock n result is = absurd is

outside_leaves : {A : Type 0} (n : ℕ) (result : Kind) (args : List Value) (a : Option Attr) → IsLeave (act_outside n result args a) → A
outside_leaves n result args None is = absurd is
outside_leaves {A} n result args (Some a) is = by (option_and_then pointed_place (slice_get args 0)) is
  where
    by : (o : Option ℕ) → IsLeave (on_pointed a o (to_ask n result)) → A
    by None is = absurd is
    by (Some lock) is = on_lock_leaves a.kind a.success lock n result is

call_leaves : {A : Type 0} (n : ℕ) (g : Function) (args : List Value) → IsLeave (act_of_call n g args) → A
call_leaves {A} n g args is = by (is_some g.body) is
  where
    by : (b : Bool) → IsLeave (if b then to_enter n args else act_outside n g.result args (find (λ a. changes_lock a.kind) g.attrs)) → A
    by true is = absurd is
    by false is = outside_leaves n g.result args (find (λ a. changes_lock a.kind) g.attrs) is

unless_leaves : {A : Type 0} (out : Out Value) (f : Value → Act) → ((v : Value) → IsLeave (f v) → A) → IsLeave (unless_trap out f) → A
unless_leaves (traps kind) f none is = absurd is
unless_leaves (reads place) f none is = absurd is
unless_leaves (yields v) f none is = none v is

module _ (u : Program) (locals : Locals) where
  args_leave : {A : Type 0} (call : Option Call) (args : List Term) (out : Out (List Value)) → IsLeave (args_act u locals call args out) → A
  args_leave call args (traps kind) is = absurd is
  args_leave call args (reads place) is = absurd is
  args_leave None args (yields vs) is = absurd is
  args_leave (Some c) args (yields vs) is = call_leaves c.function (function_at u c.function) vs is

  set_leaves : {A : Type 0} (n : ℕ) (o : Option BinaryOp) (kind : Kind) (v : Value) → IsLeave (set_act u locals n o kind v) → A
  set_leaves n None kind v is = absurd is
  set_leaves n (Some o) kind v is = unless_leaves _ (λ z. to_set n z) (λ z is. absurd is) is

  write_leaves : {A : Type 0} (right left : Term) (old : Option Value) (o : Option BinaryOp) (kind : Kind) (place : ℕ) (v : Value)
      → IsLeave (write_act u locals right left old o kind place v) → A
  write_leaves right left old None kind place v is = absurd is
  write_leaves right left None (Some o) kind place v is = absurd is
  write_leaves right left (Some w) (Some o) kind place v is = unless_leaves _ (λ z. to_write place z) (λ z is. absurd is) is

  place_leaves : {A : Type 0} (right left : Term) (old : Option Value) (o : Option BinaryOp) (kind : Kind) (v : Value) (out : Out ℕ)
      → IsLeave (place_act u locals right left old o kind v out) → A
  place_leaves right left old o kind v (traps why) is = absurd is
  place_leaves right left old o kind v (reads place) is = absurd is
  place_leaves right left old o kind v (yields place) is = write_leaves right left old o kind place v is

  finish_leaves : (action : Action) (right : Term) (left : Option Term) (old : Option Value) (v : Value) → rvalue u.layout locals right ≡ yields v
      → IsLeave (finish u locals action right left old v) → Returns u locals action (working right left old) (finish u locals action right left old v)
  finish_leaves (give kind x) right left old v e is =
      record { kind = kind; written = x; gives = refl; right = right; left = left; old = old; is = refl; value = v; found = e; does = refl }
  finish_leaves (set_local n o kind x) right left old v e is = set_leaves n o kind v is
  finish_leaves (set_cell place o kind x) right (Some left) old v e is = place_leaves right left old o kind v (lvalue u.layout locals left) is
  finish_leaves (set_cell place o kind x) right None old v e is = absurd is
  finish_leaves (evaluate x) right left old v e is = absurd is
  finish_leaves (declare n kind x) right left old v e is = absurd is
  finish_leaves (test x) right left old v e is = absurd is
  finish_leaves (branch x) right left old v e is = absurd is
  finish_leaves go_on right left old v e is = absurd is

  value_leaves : (action : Action) (right : Term) (left : Option Term) (old : Option Value) (out : Out Value) → rvalue u.layout locals right ≡ out
      → IsLeave (on_value out (λ v. finish u locals action right left old v) (λ v. working (filled u.layout locals v right) left old))
      → Returns u locals action (working right left old)
      (on_value out (λ v. finish u locals action right left old v) (λ v. working (filled u.layout locals v right) left old))
  value_leaves action right left old (traps kind) e is = absurd is
  value_leaves action right left old (reads place) e is = absurd is
  value_leaves action right left old (yields v) e is = finish_leaves action right left old v e is

  left_at : (call : Option Call) (action : Action) (work : Work) → IsLeave (act_at u locals (point call action) work)
      → Returns u locals action work (act_at u locals (point call action) work)
  left_at call action (calling args) is = args_leave call args (rvalues u.layout locals args) is
  left_at call action (working right left old) is = value_leaves action right left old (rvalue u.layout locals right) refl is

-- a return comes from a point that gives a value back
pub returned_by : (u : Program) (frame : Frame) (act : Act) → act_of u frame ≡ act → IsLeave act → Returns u frame.locals (point_of u frame).action frame.work act
returned_by u frame act does is =
    subst (Returns u frame.locals (point_of u frame).action frame.work) does
    (left_at u frame.locals (point_of u frame).call (point_of u frame).action frame.work (subst IsLeave (sym does) is))
