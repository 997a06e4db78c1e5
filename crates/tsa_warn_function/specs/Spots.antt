-- What fails at a point for a path.
use Rattle.std.specs.Prelude.{◌≡◌, ◌↔◌, ℕ, Bool, true, false, ◌||◌, List, Contains}
use Rattle.tsa_tree.specs.declared.attr.AttrKind.TheVariants as attr
use Rattle.tsa_place_model.specs.Ways.{Way}
use Rattle.tsa_core.specs.Programs.{Function, Program}
use Rattle.tsa_rules.specs.Cases.{case_of}
use Rattle.tsa_rules.specs.declared.kinds.Kinds.{Kinds}
use Rattle.tsa_rules.specs.declared.mark.Mark.{Mark}
use Rattle.tsa_rules.specs.declared.rule.Rule.{Rule}
use Rattle.tsa_rules.specs.declared.rule.Rule.TheVariants.{TS01, TS02, TS03, TS04, TS05, TS06, TS07, TS08, TS09, TS10, TS11, TS12}
use Rattle.tsa_rules.specs.declared.status.Status.{Status}
use Rattle.tsa_rules.specs.Fails.{fails}
use Rattle.tsa_rules.specs.KindSets.{has_kind}
use Rattle.tsa_rules.specs.Sets.{Has}
use Rattle.tsa_rules.specs.Walks.{ReachAt, course_of}
use Rattle.tsa_warn_function.specs.declared.failure.RuleFailure.{RuleFailure}
use Rattle.tsa_warn_function.specs.declared.spot.Spot.{Spot}

-- a rule fails at a point for a path, for a status that some walk brings there
abbrev pub FailsOnWalks : Program → Function → (point : ℕ) → Way → Rule → Type 0
FailsOnWalks u f p c rule = (s : Status) × (ReachAt (course_of u f c) p s × (fails rule u f p c s ≡ true))

-- a spot is that of a path at its point
pub record IsSpotOf (u : Program) (f : Function) (c : Way) (spot : Spot) : Type 0 where
  pub is_case : spot.case ≡ case_of u f spot.point c
  pub before : (s : Status) → Has spot.before s ↔ ReachAt (course_of u f c) spot.point s

-- an attribute of the called function takes or tries the path, or gives it back
abbrev pub is_taken : Kinds → Bool
is_taken kinds =
    has_kind kinds attr.Acquire || (has_kind kinds attr.AcquireShared || (has_kind kinds attr.TryAcquire || has_kind kinds attr.TryAcquireShared))

abbrev pub is_given : Kinds → Bool
is_given kinds = has_kind kinds attr.Release || (has_kind kinds attr.ReleaseShared || has_kind kinds attr.ReleaseGeneric)

-- Whether what a point says of a path can break a rule. That of returns can be broken whatever a point says, that of edges that meet by
-- nothing that it says.
abbrev pub can_break : Rule → Mark → Bool
can_break TS01 m = m.reads_before || m.reads_after
can_break TS02 m = m.writes
can_break TS03 m = has_kind m.kinds attr.Requires
can_break TS04 m = has_kind m.kinds attr.RequiresShared
can_break TS05 m = has_kind m.kinds attr.Excludes
can_break TS06 m = is_taken m.kinds
can_break TS07 m = is_given m.kinds
can_break TS08 m = is_given m.kinds
can_break TS09 m = true
can_break TS10 m = false
can_break TS11 m = m.is_claimed_twice
can_break TS12 m = m.is_declared

abbrev pub failure_at : Spot → Rule → RuleFailure
failure_at spot rule = record { point = spot.point; rule = rule; cap = spot.cap }

-- what is noted of a rule there, and of some rules
abbrev pub IsNoted : Program → Function → Way → Spot → Rule → RuleFailure → Type 0
IsNoted u f c spot rule x = (x ≡ failure_at spot rule) × FailsOnWalks u f spot.point c rule

pub record IsNotedBy (u : Program) (f : Function) (c : Way) (spot : Spot) (rules : List Rule) (x : RuleFailure) : Type 0 where
  pub point : x.point ≡ spot.point
  pub cap : x.cap ≡ spot.cap
  pub among : Contains rules x.rule
  pub breaks : FailsOnWalks u f spot.point c x.rule
