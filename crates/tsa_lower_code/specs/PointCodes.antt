-- The code of a point: of its call, and of what is done there.
use Rattle.std.specs.Prelude.{◌≡◌, ℕ, zero, suc, ◌+◌, ◌≤◌, max, Bool, true, false, List, [], ◌∷◌, ◌++◌, length, find, is_some, Option, Some}
use Rattle.std.specs.Prelude.{None}
use Rattle.tsa_base.specs.declared.value.Value.{Value}
use Rattle.tsa_tree.specs.declared.expr.BinaryOp.{BinaryOp}
use Rattle.tsa_tree.specs.declared.kind.Kind.{Kind}
use Rattle.tsa_place_model.specs.Calls.{Layout}
use Rattle.tsa_core.specs.Bodies.{Action, evaluate, set_local, set_cell, declare, test, branch, go_on, give, Point}
use Rattle.tsa_core.specs.Meanings.{Call}
use Rattle.tsa_core.specs.Programs.{Attr, Function, Program}
use Rattle.tsa_core.specs.Terms.{Term}
use Rattle.tsa_rules.specs.Points.{function_at}
use Rattle.tsa_mean.specs.Acts.{changes_lock}
use Rattle.tsa_mean.specs.Frames.{left_of, right_of, value_or_place, first_work}
use Rattle.tsa_mean.specs.States.{working}
use Rattle.tsa_mean.specs.Working.{Locals, with_answer}
use Rattle.tsa_lower_code.specs.Codes.{going, height, no_place, place_code, slot, value_code}
use Rattle.tsa_lower_going.specs.Doing.{doing}
use Rattle.tsa_lower_code.specs.declared.instr.Instr.{Instr}
use Rattle.tsa_lower_code.specs.declared.instr.Instr.TheVariants.{Local, Follow, Load, Convert, Join, End}
use Rattle.tsa_lower_code.specs.declared.instr.Ending.TheVariants as ending

-- the old value and the right side are joined, and converted to the kind of the left side
abbrev pub store_code : BinaryOp → Kind → (old : ℕ) → List Instr → List Instr
store_code o kind old rest = Join old 1 1 o ∷ Convert 1 kind ∷ rest

module _ (l : Layout) (is_answered : Bool) where
  abbrev pub set_code : ℕ → Option BinaryOp → Kind → Term → List Instr
  set_code n None kind x = value_code l is_answered x 1 ++ End (ending.Set n 1) ∷ []
  set_code n (Some o) kind x = value_code l is_answered x 1 ++ Local 2 n ∷ store_code o kind 2 (End (ending.Set n 1) ∷ [])

  abbrev pub write_code : Term → Option BinaryOp → Kind → Term → List Instr
  write_code place None kind x = value_code l is_answered x 1 ++ (place_code l false place 2 ++ End (ending.Write 1) ∷ [])
  write_code place (Some o) kind x =
      value_code l is_answered x 1 ++ (place_code l false place 2 ++ Load 2 3 ∷ store_code o kind 3 (End (ending.Write 1) ∷ []))

  -- the right side goes to slot 1, the place of the left side to slot 2
  abbrev pub action_code : Action → List Instr
  action_code (evaluate x) = value_code l is_answered (value_or_place x) 1 ++ End ending.Step ∷ []
  action_code (declare n kind x) = value_code l is_answered x 1 ++ End (ending.Set n 1) ∷ []
  action_code (set_local n o kind x) = set_code n o kind x
  action_code (set_cell place o kind x) = write_code place o kind x
  action_code (test x) = value_code l is_answered x 1 ++ End (ending.Branch 1) ∷ []
  action_code (branch x) = value_code l is_answered x 1 ++ End (ending.Choose 1) ∷ []
  action_code go_on = End ending.Step ∷ []
  action_code (give kind x) = value_code l is_answered x 1 ++ End (ending.Leave 1) ∷ []

-- how many slots an action uses
abbrev pub action_height : Action → ℕ
action_height (evaluate x) = 1 + height (value_or_place x)
action_height (declare n kind x) = 1 + height x
action_height (set_local n o kind x) = max (1 + height x) 3
action_height (set_cell place o kind x) = max (1 + height x) (max (2 + height place) 4)
action_height (test x) = 1 + height x
action_height (branch x) = 1 + height x
action_height go_on = 1
action_height (give kind x) = 1 + height x

-- the arguments of a call, one slot after the other
abbrev pub args_code : Layout → List Term → ℕ → List Instr
args_code l [] k = []
args_code l (x ∷ rest) k = value_code l false x k ++ args_code l rest (k + 1)

abbrev pub args_height : List Term → ℕ → ℕ
args_height [] k = k
args_height (x ∷ rest) k = max (k + height x) (args_height rest (k + 1))

-- what is done with them: a function is entered, a lock that the first one points to is taken or given back, or the environment is asked
abbrev pub lock_code : (args : ℕ) → (function : ℕ) → Kind → Attr → List Instr
lock_code zero f result a = no_place
lock_code (suc n) f result a = Follow 1 ∷ End (ending.Lock a.kind a.success 1 f result) ∷ []

abbrev pub outside_code : (args : ℕ) → (function : ℕ) → Kind → Option Attr → List Instr
outside_code n f result None = End (ending.Ask f result) ∷ []
outside_code n f result (Some a) = lock_code n f result a

abbrev pub enter_code : Bool → (args : ℕ) → (function : ℕ) → (outside : List Instr) → List Instr
enter_code true n f outside = End (ending.Enter f 1 n) ∷ []
enter_code false n f outside = outside

abbrev pub outcome_code : (args : ℕ) → (function : ℕ) → Function → List Instr
outcome_code n f g = enter_code (is_some g.body) n f (outside_code n f g.result (find (λ a. changes_lock a.kind) g.attrs))

abbrev pub call_code : Program → Call → List Instr
call_code u c = args_code u.layout c.args 1 ++ outcome_code (length c.args) c.function (function_at u c.function)

-- a point begins with its call, where it has one
abbrev pub begin_code : Program → Point → Option Call → List Instr
begin_code u p None = action_code u.layout false p.action
begin_code u p (Some c) = call_code u c

abbrev pub point_height : Point → Option Call → ℕ
point_height p None = action_height p.action
point_height p (Some c) = max (action_height p.action) (args_height c.args 1)

-- The code of a point goes as the point.
pub record PointsGoAsTheirCode : Type 0 where
  pub begins : (u : Program) (locals : Locals) (p : Point) (rest : List Instr) (s : List Value) → point_height p p.call ≤ length s
      → going u.layout locals 0 (begin_code u p p.call ++ rest) s ≡ doing u locals p (first_work p.call p.action)
  pub goes_on : (u : Program) (locals : Locals) (p : Point) (rest : List Instr) (s : List Value) (v : Value)
      → point_height p p.call ≤ length s → slot s 0 ≡ v
      → going u.layout locals 0 (action_code u.layout true p.action ++ rest) s
      ≡ doing u locals p (working (with_answer v (right_of p.action)) (left_of p.action) None)
