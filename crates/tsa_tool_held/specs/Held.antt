-- The lines of the held sets of a unit, body by body and point by point.
use Rattle.std.specs.Prelude.{◌≡◌, ◌<◌, ◌↔◌, ◌^◌, ℕ, suc, Bool, true, false, List, [], ◌∷◌, ◌++◌, length, AllPairs, Some, slice_get, nat_eq}
use Rattle.std.specs.List.{range_with_len}
use Rattle.std.specs.List.Sorted.{IsPermutation}
use Rattle.tsa_tree.specs.points.Syntax.{PlacedDeed}
use Rattle.tsa_tree.specs.units.Syntax.{UnitItem}
use Rattle.tsa_place_model.specs.Ways.{Way}
use Rattle.tsa_core.specs.Programs.{Function, Program, program_of}
use Rattle.tsa_path.specs.PathTexts.{Names}
use Rattle.tsa_rules.specs.Cases.{role_of}
use Rattle.tsa_rules.specs.declared.case.Role.{Role}
use Rattle.tsa_rules.specs.declared.case.Role.TheVariants as role
use Rattle.tsa_rules.specs.declared.status.Status.{Status}
use Rattle.tsa_rules.specs.declared.statuses.Statuses.{Statuses}
use Rattle.tsa_rules.specs.Sets.{Has}
use Rattle.tsa_rules.specs.Walks.{ReachAt, course_of}
use Rattle.tsa_warn_text.specs.DeclaredNames.{text_by}
use Rattle.tsa_warn_text.specs.Orders.{IsToldBefore, texts_of}
use Rattle.tsa_warn_text.specs.Ranks.{numbers_of}
use Rattle.tsa_warn.specs.Bodies.{BodyText, bodies_of, names_of}
use Rattle.tsa_warn.specs.Paths.{paths_of}
use Rattle.tsa_warn.specs.Lines.{held_line}
use Rattle.tsa_tool_held.specs.Pieces.{Pieces}

-- the names of the try variables of a body by their numbers: of each the point that begins it declares it
abbrev pub name_if_try : Role → PlacedDeed → List (List ℕ)
name_if_try (role.Declares v) d = text_by d.deed
name_if_try _ d = []

unfoldable pub try_names_from : Program → Function → (point : ℕ) → List PlacedDeed → List (List ℕ)
try_names_from u f p [] = []
try_names_from u f p (d ∷ points) = name_if_try (role_of u f p) d ++ try_names_from u f (suc p) points

-- A body, in the program of its unit, with its function.
pub record Account : Type 0 where
  pub program : Program
  pub function : Function
  pub names : Names
  pub body : BodyText

abbrev pub paths_in : Account → List Way
paths_in a = paths_of a.program a.function

abbrev pub tries_in : Account → List (List ℕ)
tries_in a = try_names_from a.program a.function 0 a.body.points

-- a set has all statuses of a path that some walk brings to a point, and no others
pub record IsSetAt (a : Account) (point cap : ℕ) (set : Statuses) : Type 0 where
  pub path : Way
  pub is_there : slice_get (paths_in a) cap ≡ Some path
  pub small : set.bits < 2 ^ 64
  pub has : (s : Status) → Has set s ↔ ReachAt (course_of a.program a.function path) point s

-- a line tells the set, and where no walk leads there is none
abbrev pub unless_nothing : (is_nothing : Bool) → List ℕ → List ℕ
unless_nothing true line = []
unless_nothing false line = line

abbrev pub set_line : (bytes : List ℕ) → Account → (point cap : ℕ) → Statuses → List ℕ
set_line bytes a p cap set = unless_nothing (nat_eq set.bits 0) (held_line bytes (tries_in a) (texts_of a.names (paths_in a)) a.body p cap set)

abbrev pub IsPathLine : (bytes : List ℕ) → Account → (point cap : ℕ) → (line : List ℕ) → Type 0
IsPathLine bytes a p cap line = (set : Statuses) × IsSetAt a p cap set × (line ≡ set_line bytes a p cap set)

-- at a point there is one for each path, in the order in which paths are told
pub record IsOrder (a : Account) (order : List ℕ) : Type 0 where
  pub each : IsPermutation (numbers_of (texts_of a.names (paths_in a))) order
  pub ordered : AllPairs (IsToldBefore a.names (paths_in a)) order

abbrev pub IsPointText : (bytes : List ℕ) → Account → (order : List ℕ) → (point : ℕ) → (text : List ℕ) → Type 0
IsPointText bytes a order p text = Pieces (IsPathLine bytes a p) order text

-- of a body these are told point by point
pub record IsAccountHeld (bytes : List ℕ) (a : Account) (text : List ℕ) : Type 0 where
  pub order : List ℕ
  pub is_order : IsOrder a order
  pub points : Pieces (IsPointText bytes a order) (range_with_len 0 (length a.body.points)) text

abbrev pub account : List UnitItem → Function → BodyText → Account
account items f b = record { program = program_of items; function = f; names = names_of items b.number; body = b }

pub record IsBodyHeld (bytes : List ℕ) (items : List UnitItem) (b : BodyText) (text : List ℕ) : Type 0 where
  pub function : Function
  pub is_there : slice_get (program_of items).functions b.number ≡ Some function
  pub held : IsAccountHeld bytes (account items function b) text

-- and of a unit body by body, in order of the text.
abbrev pub IsHeld : (bytes : List ℕ) → List UnitItem → (text : List ℕ) → Type 0
IsHeld bytes items text = Pieces (IsBodyHeld bytes items) (bodies_of items) text
