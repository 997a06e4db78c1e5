-- What functions with bodies, calls and places of accepted units have.
use Rattle.std.specs.Prelude.{◌≡◌, ℕ, List, Some, Ok, IsSome}
use Rattle.tsa_tree.specs.units.Syntax.{UnitItem}
use Rattle.tsa_place_model.specs.Calls.{Layout}
use Rattle.tsa_core.specs.Meanings.{Call}
use Rattle.tsa_core.specs.Programs.{Program, program_of}
use Rattle.tsa_place_model.specs.Units.{placed_in}
use Rattle.tsa_path.specs.Laws.{IsSmall}
use Rattle.tsa_rules.specs.Points.{function_at, point_at, uses_at}
use Rattle.tsa_sound.specs.BodyFacts.{AllLead, BodyFacts}
use Rattle.tsa_sound.specs.FramesFit.{stable_of}
use Rattle.tsa_sound_accepted.specs.terms.Units.{IsInProfile}

-- the number of places of a unit that has no more than it may have is an `int`
abbrev pub LayoutsAreSmall : Type 0
LayoutsAreSmall = (items : List UnitItem) (l : Layout) → placed_in items ≡ Ok l → IsSmall l

-- at each point that calls, of each function with a body
abbrev pub ArgumentsLead : Type 0
ArgumentsLead = (items : List UnitItem) (l : Layout) (u : Program) (n : ℕ) → IsInProfile items l → u ≡ program_of items → IsSome (function_at u n).body
    → (p : ℕ) (c : Call) → (point_at (function_at u n) p).call ≡ Some c
    → AllLead (stable_of (function_at u n).body) c.args (uses_at (function_at u n) p).arguments

-- of each function with a body
abbrev pub BodiesMayBeEntered : Type 0
BodiesMayBeEntered = (items : List UnitItem) (l : Layout) (u : Program) (n : ℕ) → IsInProfile items l → u ≡ program_of items → IsSome (function_at u n).body
    → BodyFacts (function_at u n)
