-- What the laws of turns ask of the terms at a point of a function.
use Rattle.std.specs.Prelude.{◌≡◌, ℕ, Bool, true, List, Option, Some, None, IsSome, All, slice_get}
use Rattle.tsa_tree.specs.declared.expr.BinaryOp.{BinaryOp}
use Rattle.tsa_tree.specs.declared.kind.Kind.{Kind}
use Rattle.tsa_place_model.specs.Ways.{Way}
use Rattle.tsa_core.specs.Bodies.{can_have, set_cell, set_local}
use Rattle.tsa_core.specs.Control.{Outcome, next_point}
use Rattle.tsa_core.specs.KindLaws.{signatures}
use Rattle.tsa_core.specs.Meanings.{Call}
use Rattle.tsa_core.specs.PointKinds.{PointHolds}
use Rattle.tsa_core.specs.Programs.{Function, Program}
use Rattle.tsa_core.specs.Terms.{Term}
use Rattle.tsa_rules.specs.Attributes.{local_kinds}
use Rattle.tsa_rules.specs.Points.{edges_of, point_at, uses_at}
use Rattle.tsa_mean.specs.Frames.{left_of, right_of}
use Rattle.tsa_sound.specs.Facts.{IsWhole, ReadsUnder, RightFits, WritesUnder}
use Rattle.tsa_sound.specs.FramesFit.{setting_behind, setting_with, stable_of}
use Rattle.tsa_sound.specs.PartlyWorked.{guard_ways}
use Rattle.tsa_sound.specs.TermFacts.{AllFit, AllLoad, Loads, TermFits}

-- The facts of a point that speak of its terms.
pub record PointTerms (u : Program) (paths : List Way) (f : Function) (p : ℕ) : Type 0 where
  -- the terms have the kinds that are wanted of them, and their parts fit
  pub kinds : PointHolds (signatures u) u.layout (slice_get (local_kinds f)) f.result (point_at f p)
  pub args_fit : (c : Call) → (point_at f p).call ≡ Some c → AllFit (setting_with u f None) (stable_of f.body) c.args
  pub right_fits : RightFits (setting_behind u f (point_at f p)) (stable_of f.body) (point_at f p).action
  pub left_fits : (left : Term) → left_of (point_at f p).action ≡ Some left → TermFits (setting_behind u f (point_at f p)) (stable_of f.body) left
  -- what is read before the call is told as such, and so is what is read on the way to the left side, and the left side itself
  pub args_read : (c : Call) (b : Bool) (q : Term) → (point_at f p).call ≡ Some c → AllLoad c.args b q
      → All (ReadsUnder paths (uses_at f p).right) (guard_ways (setting_with u f None) (stable_of f.body) q)
  pub right_read : (b : Bool) (q : Term) → (point_at f p).call ≡ None → Loads (right_of (point_at f p).action) b q
      → All (ReadsUnder paths (uses_at f p).right) (guard_ways (setting_behind u f (point_at f p)) (stable_of f.body) q)
  pub left_read : (left : Term) (b : Bool) (q : Term) → left_of (point_at f p).action ≡ Some left → Loads left b q
      → All (ReadsUnder paths (uses_at f p).left) (guard_ways (setting_behind u f (point_at f p)) (stable_of f.body) q)
  pub old_read : (place : Term) (o : BinaryOp) (kind : Kind) (x : Term) → (point_at f p).action ≡ set_cell place (Some o) kind x
      → All (ReadsUnder paths (uses_at f p).left) (guard_ways (setting_behind u f (point_at f p)) (stable_of f.body) place)
  -- no assignment joins its old value by `&&` or `||`
  pub whole : (place : Term) (o : BinaryOp) (kind : Kind) (x : Term) → (point_at f p).action ≡ set_cell place (Some o) kind x → IsWhole o
  pub written : (place : Term) (o : Option BinaryOp) (kind : Kind) (x : Term) → (point_at f p).action ≡ set_cell place o kind x
      → All (WritesUnder paths (uses_at f p).left) (guard_ways (setting_behind u f (point_at f p)) (stable_of f.body) place)
  pub whole_local : (n : ℕ) (o : BinaryOp) (kind : Kind) (x : Term) → (point_at f p).action ≡ set_local n (Some o) kind x → IsWhole o
  -- beside an answer stand constants alone
  pub silent : (b : Bool) (q : Term) → IsSome (point_at f p).call → Loads (right_of (point_at f p).action) b q → ⊥
  -- a point that calls goes on for each outcome
  pub goes_on : (o : Outcome) → IsSome (point_at f p).call → can_have (point_at f p).action o ≡ true → IsSome (next_point (edges_of f) p o)
