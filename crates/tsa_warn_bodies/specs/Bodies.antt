-- The bodies of a unit in order of the text, and what is told of one.
use Rattle.std.specs.Prelude.{◌≡◌, ℕ, List, [], ◌∷◌, ◌++◌, length, map, Option, Some, None, slice_get}
use Rattle.tsa_base.specs.declared.token.Span.{Span}
use Rattle.tsa_tree.specs.declarations.Syntax.{Head}
use Rattle.tsa_tree.specs.points.Syntax.{PlacedDeed, points_of_body}
use Rattle.tsa_tree.specs.statements.Shapes.{point_shape}
use Rattle.tsa_tree.specs.statements.Syntax.{Statements}
use Rattle.tsa_tree.specs.types.Scopes.{Scope}
use Rattle.tsa_tree.specs.types.Symbols.{number_of}
use Rattle.tsa_tree.specs.types.Units.{outset, behind_item}
use Rattle.tsa_tree.specs.units.Syntax.{UnitItem, body_item}
use Rattle.tsa_core.specs.Programs.{Function, program_of}
use Rattle.tsa_rules.specs.Legends.{legend_of}
use Rattle.tsa_rules.specs.Points.{points_of}
use Rattle.tsa_path.specs.PathTexts.{Names}
use Rattle.tsa_warn_text.specs.Orders.{texts_of}
use Rattle.tsa_flow.specs.Flows.{IsFlowOf}
use Rattle.tsa_rules_bodies.specs.Paths.{paths_of}
use Rattle.tsa_warn_bodies.specs.declared.body_rows.ToldBody.{ToldBody}

-- a body: the number and the name of its function, and its points with where they stand
pub record BodyText : Type 0 where
  pub number : ℕ
  pub name : List ℕ
  pub points : List PlacedDeed

abbrev pub body_text : Scope → Head → Statements → (close : Span) → BodyText
body_text here head body close = record { number = number_of here head; name = head.name.text; points = points_of_body body close }

abbrev pub body_by : Scope → UnitItem → List BodyText
body_by here (body_item head body close) = body_text here head body close ∷ []
body_by here item = []

unfoldable pub bodies_from : Scope → List UnitItem → List BodyText
bodies_from here [] = []
bodies_from here (item ∷ rest) = body_by here item ++ bodies_from (behind_item here item) rest

abbrev pub bodies_of : List UnitItem → List BodyText
bodies_of items = bodies_from (outset items) items

-- the names that a function sees, by its number
abbrev pub names_of : List UnitItem → (function : ℕ) → Names
names_of items n = (legend_of items).names n

-- What is told of a body is what walks bring to the points of its function, for all of its paths, with the texts of these.
pub record IsToldBody (items : List UnitItem) (b : BodyText) (t : ToldBody) : Type 0 where
  pub function : Function
  pub is_there : slice_get (program_of items).functions b.number ≡ Some function
  pub flow : IsFlowOf (program_of items) function (paths_of (program_of items) function) t.flow
  pub texts : t.texts ≡ texts_of (names_of items b.number) (paths_of (program_of items) function)
  pub name : t.head.now.name.text.now ≡ b.name
  pub points : map point_shape t.head.now.points.now ≡ b.points
  pub count : length (points_of function) ≡ length b.points

-- an item has a body and it is told, or it has none
abbrev pub Tells : List UnitItem → List BodyText → Option ToldBody → Type 0
Tells items [] None = Unit {0}
Tells items (b ∷ []) (Some t) = IsToldBody items b t
Tells items bs told = ⊥
