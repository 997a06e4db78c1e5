-- The terms of accepted units are as the laws of turns ask.
use Rattle.std.specs.Prelude.{◌≡◌, ℕ, List, [], Some, None, IsSome}
use Rattle.tsa_tree.specs.types.FirstFailing.{first_failing}
use Rattle.tsa_tree.specs.units.Sound.{SpellableItems}
use Rattle.tsa_tree.specs.units.Syntax.{UnitItem}
use Rattle.tsa_place_model.specs.Calls.{Layout}
use Rattle.tsa_core.specs.Meanings.{Call}
use Rattle.tsa_core.specs.Programs.{Program, program_of}
use Rattle.tsa_place_model.specs.Leading.{HasPlaces}
use Rattle.tsa_path.specs.Laws.{IsSmall}
use Rattle.tsa_profile.specs.Units.{refusal_of_profile}
use Rattle.tsa_profile.specs.Paths.{paths_of}
use Rattle.tsa_rules.specs.Points.{function_at, point_at, uses_at}
use Rattle.tsa_sound.specs.BodyFacts.{AllLead}
use Rattle.tsa_sound.specs.FramesFit.{stable_of}
use Rattle.tsa_sound_accepted.specs.terms.PointTerms.{PointTerms}

-- The items of a unit, or of several as one list, can be spelled, have right types, their places, whose number is an `int`, and are in
-- the profile.
pub record IsInProfile (items : List UnitItem) (l : Layout) : Type 0 where
  pub spellable : SpellableItems items
  pub typed : first_failing items ≡ None
  pub placed : HasPlaces items l
  pub small : IsSmall l
  pub profiled : refusal_of_profile items ≡ None

-- at each point of each function with a body, over the paths of the function
abbrev pub PointsHaveTheirTerms : Type 0
PointsHaveTheirTerms = (items : List UnitItem) (l : Layout) (u : Program) (n : ℕ) → IsInProfile items l → u ≡ program_of items → IsSome (function_at u n).body
    → (p : ℕ) → PointTerms u (paths_of u (function_at u n)) (function_at u n) p

-- and the paths that are handed on with the arguments of a call say what these are
abbrev pub ArgumentsHaveTheirPaths : Type 0
ArgumentsHaveTheirPaths = (items : List UnitItem) (l : Layout) (u : Program) (n : ℕ) → IsInProfile items l → u ≡ program_of items → IsSome (function_at u n).body
    → (p : ℕ) (c : Call) → (point_at (function_at u n) p).call ≡ Some c
    → AllLead (stable_of (function_at u n).body) c.args (uses_at (function_at u n) p).arguments
