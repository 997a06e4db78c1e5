-- From which points calls come, and what is called.
use Rattle.std.proofs.Common.{◌≡◌, ◌∙◌, ℕ, Bool, true, false, List, [], ◌∷◌, map, find, Option, Some, None, ◌⊎◌, is_some, option_and_then}
use Rattle.std.proofs.Common.{slice_get, if◌then◌else◌, refl, ap, sym, subst}
use Rattle.std.specs.Prelude.{All, cond}
use Rattle.tsa_base.specs.declared.value.Value.{Value}
use Rattle.tsa_tree.specs.declared.kind.Kind.{Kind}
use Rattle.tsa_tree.specs.declared.kind.Kind.TheVariants as type
use Rattle.tsa_core.specs.Bodies.{Action, Body, evaluate, set_local, set_cell, declare, test, branch, go_on, give, point}
use Rattle.tsa_core.specs.Meanings.{Call}
use Rattle.tsa_core.specs.Programs.{Attr, Function, Program}
use Rattle.tsa_core.specs.Terms.{Term}
use Rattle.tsa_rules.specs.Points.{function_at}
use Rattle.tsa_path.specs.Values.{pointed_place}
use Rattle.tsa_mean.specs.Acts.{Act, act_at, act_of, act_of_call, act_outside, args_act, changes_lock, finish, on_lock, on_pointed}
use Rattle.tsa_mean.specs.Acts.{on_value, place_act, point_of, set_act, unless_trap, write_act, to_ask, to_enter, to_give, to_set, to_take}
use Rattle.tsa_mean.specs.Acts.{to_try, to_write}
use Rattle.tsa_mean.specs.Outs.{Out, traps, reads, yields}
use Rattle.tsa_mean.specs.States.{Frame, Work, calling, working}
use Rattle.tsa_mean.specs.Working.{Locals, filled, lvalue, rvalue, rvalues}
use Rattle.tsa_sound.specs.CallFacts.{GivesNumber, IsOutside, first_pointed, of_environment, of_lock}
use Rattle.tsa_mean.proofs.Lists.{all_first, all_rest}

-- acts that calls alone do
abbrev pub IsOfCall : Act → Type 0
IsOfCall (to_take mode lock) = Unit {0}
IsOfCall (to_try mode success lock) = Unit {0}
IsOfCall (to_give mode lock) = Unit {0}
IsOfCall (to_ask f kind) = Unit {0}
IsOfCall (to_enter f args) = Unit {0}
IsOfCall act = ⊥

-- the arguments of a call are worked out
pub record CallSource (u : Program) (locals : Locals) (call : Option Call) (work : Work) (act : Act) : Type 0 where
  pub made : Call
  pub there : call ≡ Some made
  pub args : List Term
  pub is : work ≡ calling args
  pub values : List Value
  pub found : rvalues u.layout locals args ≡ yields values
  pub does : act ≡ act_of_call made.function (function_at u made.function) values

unless_calls : {A : Type 0} (out : Out Value) (f : Value → Act) → ((v : Value) → IsOfCall (f v) → A) → IsOfCall (unless_trap out f) → A
unless_calls (traps kind) f none is = absurd is
unless_calls (reads place) f none is = absurd is
unless_calls (yields v) f none is = none v is

module _ (u : Program) (locals : Locals) where
  write_calls : {A : Type 0} (right left : Term) (old : Option Value) (o : _) (kind : Kind) (place : ℕ) (v : Value)
      → IsOfCall (write_act u locals right left old o kind place v) → A
  write_calls right left old None kind place v is = absurd is
  write_calls right left None (Some o) kind place v is = absurd is
  write_calls right left (Some w) (Some o) kind place v is = unless_calls _ (λ z. to_write place z) (λ z is. absurd is) is

  place_calls : {A : Type 0} (right left : Term) (old : Option Value) (o : _) (kind : Kind) (v : Value) (out : Out ℕ)
      → IsOfCall (place_act u locals right left old o kind v out) → A
  place_calls right left old o kind v (traps why) is = absurd is
  place_calls right left old o kind v (reads place) is = absurd is
  place_calls right left old o kind v (yields place) is = write_calls right left old o kind place v is

  set_calls : {A : Type 0} (n : ℕ) (o : _) (kind : Kind) (v : Value) → IsOfCall (set_act u locals n o kind v) → A
  set_calls n None kind v is = absurd is
  set_calls n (Some o) kind v is = unless_calls _ (λ z. to_set n z) (λ z is. absurd is) is

  -- what is worked out calls nothing more
  finish_calls : {A : Type 0} (action : Action) (right : Term) (left : Option Term) (old : Option Value) (v : Value)
      → IsOfCall (finish u locals action right left old v) → A
  finish_calls (evaluate x) right left old v is = absurd is
  finish_calls (declare n kind x) right left old v is = absurd is
  finish_calls (set_local n o kind x) right left old v is = set_calls n o kind v is
  finish_calls (set_cell place o kind x) right (Some left) old v is = place_calls right left old o kind v (lvalue u.layout locals left) is
  finish_calls (set_cell place o kind x) right None old v is = absurd is
  finish_calls (test x) right left old v is = absurd is
  finish_calls (branch x) right left old v is = absurd is
  finish_calls go_on right left old v is = absurd is
  finish_calls (give kind x) right left old v is = absurd is

  value_calls : {A : Type 0} (action : Action) (right : Term) (left : Option Term) (old : Option Value) (out : Out Value)
      → IsOfCall (on_value out (λ v. finish u locals action right left old v) (λ v. working (filled u.layout locals v right) left old)) → A
  value_calls action right left old (traps kind) is = absurd is
  value_calls action right left old (reads place) is = absurd is
  value_calls action right left old (yields v) is = finish_calls action right left old v is

  args_call : (call : Option Call) (args : List Term) (out : Out (List Value)) → rvalues u.layout locals args ≡ out → IsOfCall (args_act u locals call args out)
      → CallSource u locals call (calling args) (args_act u locals call args out)
  args_call call args (traps kind) e is = absurd is
  args_call call args (reads place) e is = absurd is
  args_call None args (yields vs) e is = absurd is
  args_call (Some c) args (yields vs) e is = record { made = c; there = refl; args = args; is = refl; values = vs; found = e; does = refl }

  called_at : (call : Option Call) (action : Action) (work : Work) → IsOfCall (act_at u locals (point call action) work)
      → CallSource u locals call work (act_at u locals (point call action) work)
  called_at call action (calling args) is = args_call call args (rvalues u.layout locals args) refl is
  called_at call action (working right left old) is = value_calls action right left old (rvalue u.layout locals right) is

pub called_by : (u : Program) (frame : Frame) (act : Act) → act_of u frame ≡ act → IsOfCall act → CallSource u frame.locals (point_of u frame).call frame.work act
called_by u frame act does is =
    subst (CallSource u frame.locals (point_of u frame).call frame.work) does
    (called_at u frame.locals (point_of u frame).call (point_of u frame).action frame.work (subst IsOfCall (sym does) is))

-- acts of functions without a body
abbrev pub IsOutsideAct : Act → Type 0
IsOutsideAct (to_take mode lock) = Unit {0}
IsOutsideAct (to_try mode success lock) = Unit {0}
IsOutsideAct (to_give mode lock) = Unit {0}
IsOutsideAct (to_ask f kind) = Unit {0}
IsOutsideAct act = ⊥

-- A call of a lock function: its one attribute, and the lock to which its one argument points.
pub record LockCall (g : Function) (values : List Value) (lock : ℕ) : Type 0 where
  pub attribute : Attr
  pub struct : ℕ
  pub to_const : Bool
  pub attrs : g.attrs ≡ attribute ∷ []
  pub path : attribute.path ≡ Some first_pointed
  pub changes : changes_lock attribute.kind ≡ true
  pub params : map (λ t. t.kind) g.params ≡ type.Pointer struct to_const ∷ []
  pub result : (g.result ≡ type.Void) ⊎ (g.result ≡ type.Int)
  pub points : option_and_then pointed_place (slice_get values 0) ≡ Some lock

-- the same of the same lock
abbrev pub of_same : {g : Function} {values : List Value} {lock : ℕ} (at : ℕ) → at ≡ lock → LockCall g values lock → LockCall g values at
of_same at same call = record {
  attribute = call.attribute;
  struct = call.struct;
  to_const = call.to_const;
  attrs = call.attrs;
  path = call.path;
  changes = call.changes;
  params = call.params;
  result = call.result;
  points = call.points ∙ ap Some (sym same);
}

-- a lock function does to the lock what its attribute says, and the environment is asked
pub data OutsideSource (n : ℕ) (g : Function) (values : List Value) (act : Act) : Type 0 where
  on_a_lock : (lock : ℕ) (call : LockCall g values lock) → act ≡ on_lock call.attribute.kind call.attribute.success lock (to_ask n g.result)
      → OutsideSource n g values act
  on_nothing : All (λ a. changes_lock a.kind ≡ false) g.attrs → GivesNumber g.result → act ≡ to_ask n g.result → OutsideSource n g values act

none_changes : (ats : List Attr) → All (λ a. changes_lock a.kind ≡ false) ats → find (λ a. changes_lock a.kind) ats ≡ None
none_changes [] all = refl
none_changes (a ∷ rest) all =
    ap (λ b. cond b (Some a) (find (λ a. changes_lock a.kind) rest)) (all_first (λ a. changes_lock a.kind ≡ false) a rest all)
    ∙ none_changes rest (all_rest (λ a. changes_lock a.kind ≡ false) a rest all)

one_changes : (a : Attr) (ats : List Attr) → ats ≡ a ∷ [] → changes_lock a.kind ≡ true → find (λ a. changes_lock a.kind) ats ≡ Some a
one_changes a ats is changes = ap (find (λ a. changes_lock a.kind)) is ∙ ap (λ b. cond b (Some a) None) changes

module _ (n : ℕ) (g : Function) (values : List Value) (act : Act) (is : IsOutsideAct act) where
  by_outside : IsOutside g → act ≡ act_outside n g.result values (find (λ a. changes_lock a.kind) g.attrs) → OutsideSource n g values act
  by_outside (of_environment all gives) e = on_nothing all gives (e ∙ ap (act_outside n g.result values) (none_changes g.attrs all))
  by_outside (of_lock a struct to_const attrs path changes params result) e =
      pointed (option_and_then pointed_place (slice_get values 0)) refl (e ∙ ap (act_outside n g.result values) (one_changes a g.attrs attrs changes))
    where
      pointed : (o : Option ℕ) → option_and_then pointed_place (slice_get values 0) ≡ o → act ≡ on_pointed a o (to_ask n g.result) → OutsideSource n g values act
      pointed None o_is e = absurd (subst IsOutsideAct e is)
      pointed (Some lock) o_is e = on_a_lock lock (record {
        attribute = a;
        struct = struct;
        to_const = to_const;
        attrs = attrs;
        path = path;
        changes = changes;
        params = params;
        result = result;
        points = o_is;
      }) e

  -- what comes of a call of a function is that of one without a body
  pub outside : (g.body ≡ None → IsOutside g) → act ≡ act_of_call n g values → OutsideSource n g values act
  outside facts e = by g.body refl e
    where
      by : (o : Option Body) → g.body ≡ o → act ≡ (if is_some o then to_enter n values else act_outside n g.result values (find (λ a. changes_lock a.kind) g.attrs))
          → OutsideSource n g values act
      by None o_is e = by_outside (facts o_is) e
      by (Some b) o_is e = absurd (subst IsOutsideAct e is)
