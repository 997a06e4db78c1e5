-- From which points acts come.
use Rattle.std.proofs.Common.{◌≡◌, ℕ, Bool, true, false, List, Option, Some, None, find, is_some, option_and_then, slice_get, if◌then◌else◌}
use Rattle.std.proofs.Common.{refl}
use Rattle.tsa_base.specs.declared.value.Value.{Value}
use Rattle.tsa_tree.specs.declared.attr.AttrKind.{AttrKind}
use Rattle.tsa_tree.specs.declared.attr.AttrKind.TheVariants as attr
use Rattle.tsa_tree.specs.declared.expr.BinaryOp.{BinaryOp}
use Rattle.tsa_tree.specs.declared.kind.Kind.{Kind}
use Rattle.tsa_core.specs.Bodies.{Action, evaluate, set_local, set_cell, declare, test, branch, go_on, give, point}
use Rattle.tsa_core.specs.Meanings.{Call}
use Rattle.tsa_core.specs.Programs.{Attr, Function, Program}
use Rattle.tsa_core.specs.Terms.{Term}
use Rattle.tsa_rules.specs.Conditions.{condition_at}
use Rattle.tsa_rules.specs.Points.{function_at}
use Rattle.tsa_path.specs.Values.{in_kind, is_true, pointed_place}
use Rattle.tsa_sched.specs.declared.event.TrapKind.TheVariants as trap
use Rattle.tsa_mean.specs.Acts.{Act, act_at, act_of_call, act_outside, args_act, changes_lock, finish, on_lock, on_pointed, on_value}
use Rattle.tsa_mean.specs.Acts.{place_act, set_act, stored_value, unless_trap, write_act, to_read, to_set, to_write, to_step, to_set}
use Rattle.tsa_mean.specs.Acts.{to_branch, to_choose, to_ask, to_enter}
use Rattle.tsa_mean.specs.Outs.{Out, traps, reads, yields}
use Rattle.tsa_mean.specs.States.{Work, calling, working}
use Rattle.tsa_mean.specs.Operators.{converted_to, operate_on}
use Rattle.tsa_mean.specs.Working.{Locals, filled, filled_all, local_at, lvalue, rvalue, rvalues}
use Rattle.tsa_mean.proofs.Filling.{NoRead, operate_reads_none, or_trap_reads_none, read_of_first}
use Rattle.tsa_sound.specs.FramesFit.{ArgsFit, SidesFit, WorkFits}

-- nothing is called at the point, and its sides are being worked out
pub record IsBare (call : Option Call) (work : Work) : Type 0 where
  pub none : call ≡ None
  pub right : Term
  pub left : Option Term
  pub old : Option Value
  pub is : work ≡ working right left old

-- a point that only goes on tells nothing of an answer
pub record IsPlain (call : Option Call) (action : Action) (work : Work) : Type 0 where
  pub bare : IsBare call work
  pub untold : condition_at action ≡ None

-- a test goes by the value of its term
pub record IsTest (u : Program) (locals : Locals) (call : Option Call) (action : Action) (work : Work) (taken : Bool) : Type 0 where
  pub bare : IsBare call work
  pub written : Term
  pub tests : action ≡ test written
  pub value : Value
  pub found : rvalue u.layout locals bare.right ≡ yields value
  pub by : taken ≡ is_true value

-- A read is one of an argument, of the right side or on the way to the left side; or it is that of the old value for an operator.
pub data ReadSource (u : Program) (locals : Locals) (action : Action) : Work → ℕ → (Value → Work) → Type 0 where
  of_args : (args : List Term) (place : ℕ) → rvalues u.layout locals args ≡ reads place
      → ReadSource u locals action (calling args) place (λ v. calling (filled_all u.layout locals v args))
  of_right : (right : Term) (left : Option Term) (old : Option Value) (place : ℕ) → rvalue u.layout locals right ≡ reads place
      → ReadSource u locals action (working right left old) place (λ v. working (filled u.layout locals v right) left old)
  of_left : (right left : Term) (old : Option Value) (place : ℕ) → lvalue u.layout locals left ≡ reads place
      → ReadSource u locals action (working right (Some left) old) place (λ v. working right (Some (filled u.layout locals v left)) old)
  of_old : (right left : Term) (place : ℕ) (written : Term) (o : BinaryOp) (kind : Kind) (x : Term) → action ≡ set_cell written (Some o) kind x
      → lvalue u.layout locals left ≡ yields place → ReadSource u locals action (working right (Some left) None) place (λ v. working right (Some left) (Some v))

-- A write is of the right side, or of what an operator makes of that and the old value.
pub data WriteSource (u : Program) (locals : Locals) (action : Action) : Work → ℕ → Value → Type 0 where
  of_right_side : (right left : Term) (old : Option Value) (place : ℕ) (v : Value) (written : Term) (kind : Kind) (x : Term) → action ≡ set_cell written None kind x
      → lvalue u.layout locals left ≡ yields place → rvalue u.layout locals right ≡ yields v → WriteSource u locals action (working right (Some left) old) place v
  of_operator : (right left : Term) (w : Value) (place : ℕ) (v z : Value) (written : Term) (o : BinaryOp) (kind : Kind) (x : Term) → action ≡ set_cell written (Some o) kind x
      → lvalue u.layout locals left ≡ yields place → rvalue u.layout locals right ≡ yields v → stored_value kind o w v ≡ yields z
      → WriteSource u locals action (working right (Some left) (Some w)) place z

-- A local is declared, assigned, or joined with another value by an operator.
pub data SetSource (u : Program) (locals : Locals) (call : Option Call) (action : Action) : Work → ℕ → Value → Type 0 where
  of_declared : (right : Term) (left : Option Term) (old : Option Value) (n : ℕ) (v : Value) (kind : Kind) (x : Term) → call ≡ None → action ≡ declare n kind x
      → rvalue u.layout locals right ≡ yields v → SetSource u locals call action (working right left old) n v
  of_assigned : (right : Term) (left : Option Term) (old : Option Value) (n : ℕ) (v : Value) (kind : Kind) (x : Term) → action ≡ set_local n None kind x
      → rvalue u.layout locals right ≡ yields v → SetSource u locals call action (working right left old) n v
  of_joined : (right : Term) (left : Option Term) (old : Option Value) (n : ℕ) (v z : Value) (o : BinaryOp) (kind : Kind) (x : Term) → action ≡ set_local n (Some o) kind x
      → rvalue u.layout locals right ≡ yields v → stored_value kind o (local_at locals n) v ≡ yields z → SetSource u locals call action (working right left old) n z

-- operators on values read nothing
stored_reads_none : (kind : Kind) (o : BinaryOp) (old new : Value) → NoRead (stored_value kind o old new)
stored_reads_none kind o old new p e = operate_reads_none o old new p
    (read_of_first (operate_on o old new) (λ v. converted_to kind v) p (λ v. or_trap_reads_none trap.NullPointer (in_kind kind v)) e)

module _ (u : Program) (f : Function) (locals : Locals) (call : Option Call) (action : Action) (work : Work) where
  -- what is known of a point where an act comes from
  abbrev pub Comes : Act → Type 0
  Comes (to_read place left) = ReadSource u locals action work place left
  Comes (to_write place v) = WriteSource u locals action work place v
  Comes (to_set n v) = SetSource u locals call action work n v
  Comes to_step = IsPlain call action work
  Comes (to_choose v) = IsPlain call action work
  Comes (to_branch taken) = IsTest u locals call action work taken
  Comes act = Unit {0}

  -- acts of which nothing more is to be known
  abbrev IsOther : Act → Type 0
  IsOther (to_read place left) = ⊥
  IsOther (to_write place v) = ⊥
  IsOther (to_set n v) = ⊥
  IsOther to_step = ⊥
  IsOther (to_choose v) = ⊥
  IsOther (to_branch taken) = ⊥
  IsOther act = Unit {0}

  other : (act : Act) → IsOther act → Comes act
  other (to_read place left) is = absurd is
  other (to_write place v) is = absurd is
  other (to_set n v) is = absurd is
  other to_step is = absurd is
  other (to_choose v) is = absurd is
  other (to_branch taken) is = absurd is
  other act is = tt

  -- calls
  on_lock_other : (kind : AttrKind) (success : Bool) (lock : ℕ) (act : Act) → IsOther act → IsOther (on_lock kind success lock act)
  on_lock_other attr.Acquire success lock act is = tt
  on_lock_other attr.AcquireShared success lock act is = tt
  on_lock_other attr.TryAcquire success lock act is = tt
  on_lock_other attr.TryAcquireShared success lock act is = tt
  on_lock_other attr.Release success lock act is = tt
  on_lock_other attr.ReleaseShared success lock act is = tt
  on_lock_other attr.ReleaseGeneric success lock act is = tt
  on_lock_other kind success lock act is = is

  pointed_other : (a : Attr) (lock : Option ℕ) (act : Act) → IsOther act → IsOther (on_pointed a lock act)
  pointed_other a None act is = tt
  pointed_other a (Some lock) act is = on_lock_other a.kind a.success lock act is

  outside_other : (n : ℕ) (result : Kind) (args : List Value) (a : Option Attr) → IsOther (act_outside n result args a)
  outside_other n result args None = tt
  outside_other n result args (Some a) = pointed_other a (option_and_then pointed_place (slice_get args 0)) (to_ask n result) tt

  call_other : (n : ℕ) (g : Function) (args : List Value) → IsOther (act_of_call n g args)
  call_other n g args = by (is_some g.body)
    where
      by : (b : Bool) → IsOther (if b then to_enter n args else act_outside n g.result args (find (λ a. changes_lock a.kind) g.attrs))
      by true = tt
      by false = outside_other n g.result args (find (λ a. changes_lock a.kind) g.attrs)

module _ (u : Program) (f : Function) (locals : Locals) where
  args_come : (call : Option Call) (action : Action) (args : List Term) (out : Out (List Value)) → rvalues u.layout locals args ≡ out → ArgsFit u f locals call args
      → Comes u f locals call action (calling args) (args_act u locals call args out)
  args_come None action args out is fits = absurd fits
  args_come (Some c) action args (traps kind) is fits = tt
  args_come (Some c) action args (reads place) is fits = of_args args place is
  args_come (Some c) action args (yields vs) is fits =
      other u f locals (Some c) action (calling args) _ (call_other u f locals (Some c) action (calling args) c.function (function_at u c.function) vs)

  abbrev bare : (right : Term) (left : Option Term) (old : Option Value) → IsBare None (working right left old)
  bare right left old = record { none = refl; right = right; left = left; old = old; is = refl }

  local_comes : (call : Option Call) (right : Term) (left : Option Term) (old : Option Value) (n : ℕ) (o : BinaryOp) (kind : Kind) (x : Term) (v : Value)
      → rvalue u.layout locals right ≡ yields v → (out : Out Value) → stored_value kind o (local_at locals n) v ≡ out
      → Comes u f locals call (set_local n (Some o) kind x) (working right left old) (unless_trap out (λ w. to_set n w))
  local_comes call right left old n o kind x v value (traps why) e = tt
  local_comes call right left old n o kind x v value (reads q) e = absurd (stored_reads_none kind o (local_at locals n) v q e)
  local_comes call right left old n o kind x v value (yields z) e = of_joined right left old n v z o kind x refl value e

  set_comes : (call : Option Call) (right : Term) (left : Option Term) (old : Option Value) (n : ℕ) (o : Option BinaryOp) (kind : Kind) (x : Term) (v : Value)
      → rvalue u.layout locals right ≡ yields v → Comes u f locals call (set_local n o kind x) (working right left old) (set_act u locals n o kind v)
  set_comes call right left old n None kind x v value = of_assigned right left old n v kind x refl value
  set_comes call right left old n (Some o) kind x v value = local_comes call right left old n o kind x v value (stored_value kind o (local_at locals n) v) refl

  joined_comes : (call : Option Call) (right left written x : Term) (w : Value) (o : BinaryOp) (kind : Kind) (place : ℕ) (v : Value) → lvalue u.layout locals left ≡ yields place
      → rvalue u.layout locals right ≡ yields v → (out : Out Value) → stored_value kind o w v ≡ out
      → Comes u f locals call (set_cell written (Some o) kind x) (working right (Some left) (Some w)) (unless_trap out (λ z. to_write place z))
  joined_comes call right left written x w o kind place v is value (traps why) e = tt
  joined_comes call right left written x w o kind place v is value (reads q) e = absurd (stored_reads_none kind o w v q e)
  joined_comes call right left written x w o kind place v is value (yields z) e = of_operator right left w place v z written o kind x refl is value e

  write_comes : (call : Option Call) (right left written x : Term) (old : Option Value) (o : Option BinaryOp) (kind : Kind) (place : ℕ) (v : Value) → lvalue u.layout locals left ≡ yields place
      → rvalue u.layout locals right ≡ yields v → Comes u f locals call (set_cell written o kind x) (working right (Some left) old) (write_act u locals right left old o kind place v)
  write_comes call right left written x old None kind place v is value = of_right_side right left old place v written kind x refl is value
  write_comes call right left written x None (Some o) kind place v is value = of_old right left place written o kind x refl is
  write_comes call right left written x (Some w) (Some o) kind place v is value = joined_comes call right left written x w o kind place v is value (stored_value kind o w v) refl

  place_comes : (call : Option Call) (right left written x : Term) (old : Option Value) (o : Option BinaryOp) (kind : Kind) (v : Value) (out : Out ℕ) → lvalue u.layout locals left ≡ out
      → rvalue u.layout locals right ≡ yields v → Comes u f locals call (set_cell written o kind x) (working right (Some left) old) (place_act u locals right left old o kind v out)
  place_comes call right left written x old o kind v (traps why) is value = tt
  place_comes call right left written x old o kind v (reads place) is value = of_left right left old place is
  place_comes call right left written x old o kind v (yields place) is value = write_comes call right left written x old o kind place v is value

  -- a right side that is worked out
  finish_comes : (call : Option Call) (action : Action) (right : Term) (left : Option Term) (old : Option Value) (v : Value)
      → rvalue u.layout locals right ≡ yields v → SidesFit u f (point call action) locals right left old
      → Comes u f locals call action (working right left old) (finish u locals action right left old v)
  finish_comes None (evaluate x) right left old v is fits = record { bare = bare right left old; untold = refl }
  finish_comes (Some c) (evaluate x) right left old v is fits = absurd fits.goes_on
  finish_comes None (declare n kind x) right left old v is fits = of_declared right left old n v kind x refl refl is
  finish_comes (Some c) (declare n kind x) right left old v is fits = absurd fits.goes_on
  finish_comes call (set_local n o kind x) right left old v is fits = set_comes call right left old n o kind x v is
  finish_comes call (set_cell place o kind x) right (Some left) old v is fits = place_comes call right left place x old o kind v (lvalue u.layout locals left) refl is
  finish_comes call (set_cell place o kind x) right None old v is fits = absurd fits.left_side
  finish_comes None (test x) right left old v is fits =
      record { bare = bare right left old; written = x; tests = refl; value = v; found = is; by = refl }
  finish_comes (Some c) (test x) right left old v is fits = absurd fits.goes_on
  finish_comes None (branch x) right left old v is fits = record { bare = bare right left old; untold = refl }
  finish_comes (Some c) (branch x) right left old v is fits = absurd fits.goes_on
  finish_comes None go_on right left old v is fits = record { bare = bare right left old; untold = refl }
  finish_comes (Some c) go_on right left old v is fits = absurd fits.goes_on
  finish_comes call (give kind x) right left old v is fits = tt

  value_comes : (call : Option Call) (action : Action) (right : Term) (left : Option Term) (old : Option Value) (out : Out Value)
      → rvalue u.layout locals right ≡ out → SidesFit u f (point call action) locals right left old
      → Comes u f locals call action (working right left old) (on_value out (λ v. finish u locals action right left old v) (λ v. working (filled u.layout locals v right) left old))
  value_comes call action right left old (traps kind) is fits = tt
  value_comes call action right left old (reads place) is fits = of_right right left old place is
  value_comes call action right left old (yields v) is fits = finish_comes call action right left old v is fits

  pub comes : (call : Option Call) (action : Action) (work : Work) → WorkFits u f (point call action) locals work
      → Comes u f locals call action work (act_at u locals (point call action) work)
  comes call action (calling args) fits = args_come call action args (rvalues u.layout locals args) refl fits
  comes call action (working right left old) fits =
      value_comes call action right left old (rvalue u.layout locals right) refl fits
