-- What the laws of turns ask of the rows, the paths and the locals of each function.
use Rattle.std.specs.Prelude.{◌≡◌, ℕ, nat_eq, false, List, length, Contains, All, AllPairs, Option, Some, None, IsSome, slice_get}
use Rattle.tsa_tree.specs.declared.expr.BinaryOp.{BinaryOp}
use Rattle.tsa_tree.specs.declared.kind.Kind.{Kind}
use Rattle.tsa_tree.specs.types.FirstFailing.{first_failing}
use Rattle.tsa_tree.specs.units.Syntax.{UnitItem}
use Rattle.tsa_place_model.specs.Ways.{Way}
use Rattle.tsa_core.specs.Bodies.{set_local}
use Rattle.tsa_place_model.specs.Calls.{Layout}
use Rattle.tsa_place_model.specs.Leading.{HasPlaces}
use Rattle.tsa_core.specs.Programs.{Function, Program, program_of}
use Rattle.tsa_core.specs.Terms.{Term}
use Rattle.tsa_path.specs.Sameness.{same_way}
use Rattle.tsa_rules.specs.KeptRows.{AreKept, ArePossible}
use Rattle.tsa_rules.specs.Points.{attrs_at, function_at, mentions, point_at, points_of, try_variables}
use Rattle.tsa_rules.specs.Warnings.{HasNoWarnings}
use Rattle.tsa_profile.specs.Units.{refusal_of_profile}
use Rattle.tsa_profile.specs.Paths.{paths_of}
use Rattle.tsa_sound.specs.Facts.{IsAmong, IsUnmentioned, set_by}
use Rattle.tsa_sound_accepted.specs.kept.Visits.{rows_of}

-- in a program without warnings the rows of each function are kept, for whichever paths
abbrev pub RowsAreKeptWhereNoRuleFails : Type 0
RowsAreKeptWhereNoRuleFails = (u : Program) → HasNoWarnings u → (n : ℕ) (f : Function) → slice_get u.functions n ≡ Some f → (paths : List Way)
    → AreKept u f paths (rows_of u f)

-- and their statuses are ones that the paths may have
abbrev pub RowsArePossibleWhereNoRuleFails : Type 0
RowsArePossibleWhereNoRuleFails = (u : Program) → HasNoWarnings u → (n : ℕ) (f : Function) → slice_get u.functions n ≡ Some f → (paths : List Way)
    → ArePossible u f paths (rows_of u f)

-- the paths of a function are listed once each, and with them all that its own attributes and those of the functions that it calls name
pub record PathsAreNamedOnce : Type 0 where
  pub once : (u : Program) (f : Function) → AllPairs (λ c d. same_way c d ≡ false) (paths_of u f)
  pub own : (u : Program) (f : Function) → All (λ a. IsAmong (paths_of u f) a.path) f.attrs
  pub called : (u : Program) (f : Function) → length f.uses ≡ length (points_of f) → (p : ℕ) → All (λ a. IsAmong (paths_of u f) a.path) (attrs_at u f p)

-- At a point no path mentions a local that is assigned, no attribute one that is set, and a try variable is set at its own declaration
-- alone.
pub record SetsApart (u : Program) (paths : List Way) (f : Function) (p : ℕ) : Type 0 where
  pub assigned : (n : ℕ) (o : Option BinaryOp) (kind : Kind) (x : Term) (c : Way) → (point_at f p).action ≡ set_local n o kind x → Contains paths c
      → mentions n c ≡ false
  pub attributes : (n : ℕ) → set_by (point_at f p).call (point_at f p).action ≡ Some n → All (λ a. IsUnmentioned n a.path) f.attrs
  pub tries : (n w m : ℕ) → set_by (point_at f p).call (point_at f p).action ≡ Some n → slice_get (try_variables u f) w ≡ Some m → nat_eq m n ≡ false

-- Of a typed unit in the profile: at all points of functions with bodies it is so.
abbrev pub LocalsAreSetApart : Type 0
LocalsAreSetApart = (items : List UnitItem) (l : Layout) → first_failing items ≡ None → HasPlaces items l → refusal_of_profile items ≡ None
    → (u : Program) → program_of items ≡ u → (n : ℕ) → IsSome (function_at u n).body → (p : ℕ) → SetsApart u (paths_of u (function_at u n)) (function_at u n) p

-- The paths of a function with its rows, and what the laws of turns ask of both.
pub record RowsAreKept (u : Program) (n : ℕ) : Type 0 where
  pub kept : AreKept u (function_at u n) (paths_of u (function_at u n)) (rows_of u (function_at u n))
  pub possible : ArePossible u (function_at u n) (paths_of u (function_at u n)) (rows_of u (function_at u n))
  pub once : AllPairs (λ c d. same_way c d ≡ false) (paths_of u (function_at u n))
  pub own : All (λ a. IsAmong (paths_of u (function_at u n)) a.path) (function_at u n).attrs
  pub called : (p : ℕ) → All (λ a. IsAmong (paths_of u (function_at u n)) a.path) (attrs_at u (function_at u n) p)

-- of a unit in which no rule fails
abbrev pub UnitsKeepTheirRows : Type 0
UnitsKeepTheirRows = (items : List UnitItem) (u : Program) → program_of items ≡ u → HasNoWarnings u → (n : ℕ) → IsSome (function_at u n).body → RowsAreKept u n
