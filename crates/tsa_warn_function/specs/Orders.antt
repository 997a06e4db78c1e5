-- The order in which the rules that fail in a function are told.
use Rattle.std.specs.Prelude.{◌≡◌, ◌≢◌, ◌<◌, ◌⊎◌, List, length, AllPairs, Contains}
use Rattle.tsa_place_model.specs.Ways.{Way}
use Rattle.tsa_core.specs.Programs.{Function, Program}
use Rattle.tsa_path.specs.PathTexts.{Names}
use Rattle.tsa_rules.specs.Fails.{rule_number}
use Rattle.tsa_warn_text.specs.Orders.{IsToldBefore}
use Rattle.tsa_warn_function.specs.Failures.{FailsThere}
use Rattle.tsa_warn_function.specs.declared.failure.RuleFailure.{RuleFailure}

-- A rule that fails is told before another:
pub data Precedes (names : Names) (paths : List Way) (v w : RuleFailure) : Type 0 where
  -- where its point is the lower one,
  by_point : v.point < w.point → Precedes names paths v w
  -- where it fails at the same point and has the lower number,
  by_rule : v.point ≡ w.point → rule_number v.rule < rule_number w.rule → Precedes names paths v w
  -- and where it is the same rule at the same point and its path is told before the other's.
  by_path : v.point ≡ w.point → v.rule ≡ w.rule → IsToldBefore names paths v.cap w.cap → Precedes names paths v w

-- A list has all rules that fail in the function for these paths and nothing else, each before all that are told after it.
pub record AreToldInOrder (names : Names) (u : Program) (f : Function) (paths : List Way) (ws : List RuleFailure) : Type 0 where
  pub told : (w : RuleFailure) → Contains ws w → FailsThere u f paths w
  pub all : (w : RuleFailure) → FailsThere u f paths w → Contains ws w
  pub ordered : AllPairs (Precedes names paths) ws

-- Of two different rules that fail for paths that are there one is told before the other, but not both, and one that is told before another
-- is told before all that follow it.
abbrev pub OneIsFirst : Type 0
OneIsFirst = (names : Names) (paths : List Way) (v w : RuleFailure) → v.cap < length paths → w.cap < length paths → v ≢ w
    → Precedes names paths v w ⊎ Precedes names paths w v

abbrev pub NotBothAreFirst : Type 0
NotBothAreFirst = (names : Names) (paths : List Way) (v w : RuleFailure) → Precedes names paths v w → ¬ (Precedes names paths w v)

abbrev pub PrecedingIsTransitive : Type 0
PrecedingIsTransitive = (names : Names) (paths : List Way) (v w x : RuleFailure) → Precedes names paths v w → Precedes names paths w x
    → Precedes names paths v x
