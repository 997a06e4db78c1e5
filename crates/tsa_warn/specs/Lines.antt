-- What the lines of a unit speak of, and where they stand.
use Rattle.std.specs.Prelude.{ℕ, List, [], ◌∷◌, ◌++◌, slice_get}
use Rattle.std.specs.Option.{option_map_or}
use Rattle.tsa_base.specs.Places.{place_at, place_text}
use Rattle.tsa_tree.specs.points.Syntax.{PlacedDeed}
use Rattle.tsa_place_model.specs.Ways.{Way}
use Rattle.tsa_core.specs.Programs.{Function, Program}
use Rattle.tsa_rules.specs.Attributes.{lock_kind_of}
use Rattle.tsa_warn_text.specs.Ranks.{PathText, told_by}
use Rattle.tsa_warn_function.specs.Views.{text_of}
use Rattle.tsa_warn_text.specs.HeldLines.{held_text}
use Rattle.tsa_warn_text.specs.Lines.{warning_text}
use Rattle.tsa_warn_function.specs.declared.failure.RuleFailure.{RuleFailure}
use Rattle.tsa_rules.specs.declared.statuses.Statuses.{Statuses}
use Rattle.tsa_warn_bodies.specs.Bodies.{BodyText}

-- the byte at which a point stands
abbrev pub point_byte : List PlacedDeed → (point : ℕ) → ℕ
point_byte points p = option_map_or (λ d. d.span.from) (slice_get points p) 0

-- `L:C: `
unfoldable pub place_of : (bytes : List ℕ) → List PlacedDeed → (point : ℕ) → List ℕ
place_of bytes points p = place_text (place_at bytes (point_byte points p))

-- a line that says something of a point
abbrev pub line_at : (bytes : List ℕ) → List PlacedDeed → (point : ℕ) → (says : List ℕ) → List ℕ
line_at bytes points p says = place_of bytes points p ++ (says ++ 10 ∷ [])

-- the text of the kind of the lock to which a path leads, by its number
abbrev pub kind_text : Program → Function → List Way → (cap : ℕ) → List ℕ
kind_text u f paths cap = option_map_or (λ c. text_of (lock_kind_of u f c)) (slice_get paths cap) []

-- the line of a rule that fails in a body: `L:C: TSnn in F: ` and what the rule says of the lock
unfoldable pub warning_line : (bytes : List ℕ) → Program → Function → List Way → List PathText → BodyText → RuleFailure → List ℕ
warning_line bytes u f paths texts b w = line_at bytes b.points w.point (warning_text w.rule b.name (kind_text u f paths w.cap) (told_by texts w.cap).text)

-- the line of the statuses that a path may have at a point: `L:C: in F: P S`
unfoldable pub held_line : (bytes : List ℕ) → (tries : List (List ℕ)) → List PathText → BodyText → (point cap : ℕ) → Statuses → List ℕ
held_line bytes tries texts b p cap set = line_at bytes b.points p (held_text tries b.name (told_by texts cap).text set)
