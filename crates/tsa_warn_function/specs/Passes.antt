-- What is found by going over marks, over returns, and over points where edges meet.
use Rattle.std.specs.Prelude.{◌≡◌, ◌<◌, ◌⊎◌, ℕ, List, Contains, length, Some, slice_get}
use Rattle.tsa_place_model.specs.Ways.{Way}
use Rattle.tsa_core.specs.Programs.{Function, Program}
use Rattle.tsa_rules.specs.declared.rule.Rule.TheVariants.{TS09, TS10}
use Rattle.tsa_rules.specs.Points.{points_of}
use Rattle.tsa_rules.specs.Walks.{course_of}
use Rattle.tsa_flow_solver.specs.Disagreeing.{Disagree}
use Rattle.tsa_warn_function.specs.declared.failure.RuleFailure.{RuleFailure}
use Rattle.tsa_warn_function.specs.declared.spot.TheConstants.{MARK_RULES}
use Rattle.tsa_warn_function.specs.Spots.{FailsOnWalks}

-- a rule fails for a status that some walk brings, at a point of the function for the path of a number
pub record IsOnWalks (u : Program) (f : Function) (paths : List Way) (x : RuleFailure) : Type 0 where
  pub within : x.point < length (points_of f)
  pub path : Way
  pub is_there : slice_get paths x.cap ≡ Some path
  pub breaks : FailsOnWalks u f x.point path x.rule

-- edges into the point disagree on the path
pub record IsOfMeeting (u : Program) (f : Function) (paths : List Way) (x : RuleFailure) : Type 0 where
  pub within : x.point < length (points_of f)
  pub path : Way
  pub is_there : slice_get paths x.cap ≡ Some path
  pub rule : x.rule ≡ TS10
  pub disagree : Disagree (course_of u f path) x.point

-- by marks, under some points and numbers of paths
pub record IsOfMarks (u : Program) (f : Function) (paths : List Way) (places : List (ℕ × ℕ)) (x : RuleFailure) : Type 0 where
  pub noted : Contains places (x.point, x.cap)
  pub asked : Contains MARK_RULES x.rule
  pub on_walks : IsOnWalks u f paths x

-- by one point, as a return and as a point into which edges lead
abbrev pub IsOfReturns : Program → Function → List Way → ℕ → RuleFailure → Type 0
IsOfReturns u f paths point x = (x.point ≡ point) × ((x.rule ≡ TS09) × IsOnWalks u f paths x)

abbrev pub IsOfEdges : Program → Function → List Way → ℕ → RuleFailure → Type 0
IsOfEdges u f paths point x = (x.point ≡ point) × IsOfMeeting u f paths x

abbrev pub IsOfPoint : Program → Function → List Way → ℕ → RuleFailure → Type 0
IsOfPoint u f paths point x = IsOfReturns u f paths point x ⊎ IsOfEdges u f paths point x

-- and by all points
abbrev pub IsOfPoints : Program → Function → List Way → RuleFailure → Type 0
IsOfPoints u f paths x = ((x.rule ≡ TS09) × IsOnWalks u f paths x) ⊎ IsOfMeeting u f paths x
