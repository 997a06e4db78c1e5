-- What the laws of calls ask of the points that call.
use Rattle.std.specs.Prelude.{◌≡◌, ℕ, List, Some, IsSome}
use Rattle.tsa_tree.specs.units.Syntax.{UnitItem}
use Rattle.tsa_place_model.specs.Calls.{Layout}
use Rattle.tsa_core.specs.Meanings.{Call}
use Rattle.tsa_core.specs.Programs.{Program, program_of}
use Rattle.tsa_rules.specs.Points.{function_at, point_at}
use Rattle.tsa_sound.specs.CallFacts.{CallFacts}
use Rattle.tsa_sound_accepted.specs.terms.Units.{IsInProfile}

-- of a typed unit in the profile: at each point that calls, of each function with a body
abbrev pub CallsHaveTheirFacts : Type 0
CallsHaveTheirFacts = (items : List UnitItem) (l : Layout) (u : Program) (n : ℕ) → IsInProfile items l → u ≡ program_of items → IsSome (function_at u n).body
    → (p : ℕ) (c : Call) → (point_at (function_at u n) p).call ≡ Some c → CallFacts u (function_at u n) p c
