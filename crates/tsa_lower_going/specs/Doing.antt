-- What is still to come at a point of a function.
use Rattle.std.specs.Prelude.{◌≡◌, ℕ, List, [], ◌∷◌, Option, Some, None}
use Rattle.tsa_base.specs.declared.value.Value.{Value}
use Rattle.tsa_tree.specs.declared.expr.BinaryOp.{BinaryOp}
use Rattle.tsa_tree.specs.declared.kind.Kind.{Kind}
use Rattle.tsa_place_model.specs.Calls.{Layout}
use Rattle.tsa_core.specs.Bodies.{Action, evaluate, set_local, set_cell, declare, test, branch, go_on, give, Point}
use Rattle.tsa_core.specs.Programs.{Program}
use Rattle.tsa_core.specs.Terms.{Term}
use Rattle.tsa_path.specs.Values.{is_true}
use Rattle.tsa_mean.specs.Acts.{Act, to_read, to_write, to_step, to_set, to_branch, to_choose, to_leave, to_trap, act_at, act_of, call_if}
use Rattle.tsa_mean.specs.Acts.{point_of, stored_value}
use Rattle.tsa_mean.specs.States.{Frame, Work, calling, working}
use Rattle.tsa_mean.specs.Working.{Locals, local_at}
use Rattle.tsa_lower_going.specs.Going.{place_in, Going, stops, asks, gives, and_then, going_of, read_at, place_going, value_going}

-- the values of terms in order
abbrev pub values_going : Layout → Locals → List Term → Going (List Value)
values_going l locals [] = gives []
values_going l locals (x ∷ rest) =
    and_then (value_going l locals None x) (λ v. and_then (values_going l locals rest) (λ vs. gives (v ∷ vs)))

-- an act, of which a trap stops the thread
abbrev pub act_going : Act → Going Act
act_going (to_trap kind) = stops kind
act_going act = gives act

abbrev pub set_going : Locals → ℕ → Option BinaryOp → Kind → Value → Going Act
set_going locals n None kind v = gives (to_set n v)
set_going locals n (Some o) kind v = and_then (going_of (stored_value kind o (local_at locals n) v)) (λ w. gives (to_set n w))

-- the cell at a place, with its old value where that was read
abbrev pub write_going : Option BinaryOp → Kind → (old : Option Value) → (right place : Value) → Going Act
write_going None kind old v p = gives (to_write (place_in p) v)
write_going (Some o) kind None v p =
    and_then (read_at p) (λ w. and_then (going_of (stored_value kind o w v)) (λ x. gives (to_write (place_in p) x)))
write_going (Some o) kind (Some w) v p = and_then (going_of (stored_value kind o w v)) (λ x. gives (to_write (place_in p) x))

module _ (l : Layout) (locals : Locals) where
  -- a point whose right side is worked out
  abbrev pub finish_going : Action → (left : Option Term) → (old : Option Value) → Value → Going Act
  finish_going (evaluate x) left old v = gives to_step
  finish_going (declare n kind x) left old v = gives (to_set n v)
  finish_going (set_local n o kind x) left old v = set_going locals n o kind v
  finish_going (set_cell place o kind x) (Some left) old v = and_then (place_going l locals None left) (write_going o kind old v)
  finish_going (set_cell place o kind x) None old v = gives to_step
  finish_going (test x) left old v = gives (to_branch (is_true v))
  finish_going (branch x) left old v = gives (to_choose v)
  finish_going go_on left old v = gives to_step
  finish_going (give kind x) left old v = gives (to_leave v)

-- what is left to be worked out at a point
abbrev pub doing : Program → Locals → Point → Work → Going Act
doing u locals p (calling args) = and_then (values_going u.layout locals args) (λ vs. act_going (call_if u locals p.call vs))
doing u locals p (working right left old) =
    and_then (value_going u.layout locals None right) (finish_going u.layout locals p.action left old)

-- An act tells what comes first: a read is of the same cell, and with its value the same is still to come.
abbrev pub IsRead : (Work → Going Act) → Act → ℕ → (Value → Going Act) → Type 0
IsRead on (to_read place left) p k = (place ≡ p) × ((v : Value) → on (left v) ≡ k v)
IsRead on _ p k = ⊥

abbrev pub IsDone : Act → Type 0
IsDone (to_read place left) = ⊥
IsDone (to_trap kind) = ⊥
IsDone _ = Unit {0}

abbrev pub Tells : (Work → Going Act) → Act → Going Act → Type 0
Tells on act (stops kind) = act ≡ to_trap kind
Tells on act (asks p k) = IsRead on act p k
Tells on act (gives done) = (act ≡ done) × IsDone done

abbrev pub ActsTellWhatComes : Type 0
ActsTellWhatComes = (u : Program) (locals : Locals) (p : Point) (w : Work)
    → Tells (doing u locals p) (act_at u locals p w) (doing u locals p w)

-- and so it is with the frame on top of a thread, at its point
abbrev pub FramesTellWhatComes : Type 0
FramesTellWhatComes = (u : Program) (frame : Frame)
    → Tells (doing u frame.locals (point_of u frame)) (act_of u frame) (doing u frame.locals (point_of u frame) frame.work)
