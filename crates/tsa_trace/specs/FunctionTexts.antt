-- The functions of a unit by their numbers: how each is named, and where the points of its body stand.
use Rattle.std.specs.Prelude.{ℕ, Bool, true, false, List, [], ◌∷◌, Option, Some, None, map}
use Rattle.std.specs.Str.{bytes_eq}
use Rattle.tsa_base.specs.declared.token.Span.{Span}
use Rattle.tsa_tree.specs.points.Syntax.{points_of_body}
use Rattle.tsa_tree.specs.statements.Syntax.{Statements}
use Rattle.tsa_tree.specs.types.Units.{outset}
use Rattle.tsa_tree.specs.units.Syntax.{UnitItem, body_item}
use Rattle.tsa_core.specs.Programs.{Declared, declared_functions}

pub record FunctionText : Type 0 where
  pub name : List ℕ
  pub points : List Span

abbrev pub point_spans : Statements → (close : Span) → List Span
point_spans body close = map (λ p. p.span) (points_of_body body close)

-- points, where there are some
abbrev pub points_or_none : Option (List Span) → List Span
points_or_none None = []
points_or_none (Some points) = points

abbrev pub or_later : Bool → List Span → List Span → List Span
or_later true own later = own
or_later false own later = later

-- the points of the first body of a name, none without one
unfoldable pub points_named : List ℕ → List UnitItem → List Span
points_named name [] = []
points_named name (body_item head body close ∷ rest) = or_later (bytes_eq name head.name.text) (point_spans body close) (points_named name rest)
points_named name (item ∷ rest) = points_named name rest

abbrev pub function_text : List UnitItem → Declared → FunctionText
function_text items d = record { name = d.head.name.text; points = points_named d.head.name.text items }

-- they have the numbers of the core program's functions: the order of their first declarations
abbrev pub function_texts : List UnitItem → List FunctionText
function_texts items = map (function_text items) (declared_functions (outset items) items)
