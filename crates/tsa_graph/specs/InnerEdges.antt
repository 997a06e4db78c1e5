-- Edges that stay inside a body.
use Rattle.std.specs.Prelude.{ℕ, ◌<◌, List, All}
use Rattle.tsa_core.specs.Control.{Edge}

-- all of them go between so many points
abbrev pub AreBetween : ℕ → List Edge → Type 0
AreBetween n es = All (λ e. (e.from < n) × (e.to < n)) es
