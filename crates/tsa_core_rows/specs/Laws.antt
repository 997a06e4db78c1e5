-- What rows have to be read as: what expressions mean, and what bodies do.
use Rattle.std.specs.Prelude.{◌≡◌, ℕ, true, List, ◌∷◌, map, replicate, Some, None}
use Rattle.tsa_base.specs.declared.token.Span.{Span}
use Rattle.tsa_tree.specs.declared.kind.ExpressionType.{ExpressionType}
use Rattle.tsa_tree.specs.declared.kind.Kind.{Kind}
use Rattle.tsa_tree.specs.expressions.Syntax.{Expression}
use Rattle.tsa_tree.specs.statements.Syntax.{Statements}
use Rattle.tsa_tree.specs.types.DeclaredTypes.{thing_type}
use Rattle.tsa_tree.specs.types.Expressions.{type_of}
use Rattle.tsa_tree.specs.types.Lookups.{params_in}
use Rattle.tsa_tree.specs.types.Premises.{first}
use Rattle.tsa_tree.specs.types.Scopes.{Scope, context_of}
use Rattle.tsa_tree.specs.types.Statements.{Around, statements_premises}
use Rattle.tsa_tree.specs.types.Units.{outset, refusal_of_types}
use Rattle.tsa_tree.specs.units.Syntax.{UnitItem}
use Rattle.tsa_types_row.specs.BodyRows.{row_in_body}
use Rattle.tsa_types_row.specs.ExpressionRows.{row_in}
use Rattle.tsa_types_row.specs.ItemRows.{row_in_unit}
use Rattle.tsa_core.specs.Bodies.{body_of}
use Rattle.tsa_core.specs.Meanings.{meaning, call_in}
use Rattle.tsa_core.specs.Programs.{Bodied, bodied_function, body_in}
use Rattle.tsa_core_rows.specs.Reading.{Part, Reading, read_before, read_row, points_alone, kinds_read, stable_read}
use Rattle.tsa_core_rows.specs.Stretches.{bodies_read, bodies_in, row_of_body, reading_of, points_of, first_named}

-- the part that an expression is, and a part in front of what was read
abbrev pub part_of : Scope → Expression → Part
part_of here e = record { sense = meaning here e; call = call_in here e }

abbrev pub with_part : Part → Reading → Reading
with_part p r = record { parts = p ∷ r.parts; points = r.points }

-- the row of a typed expression is read as one part: what the expression means, and the call in it
abbrev pub ExpressionsAreRead : Type 0
ExpressionsAreRead = (here : Scope) (f : ℕ) (result : Kind) (e : Expression) (t : ExpressionType) (r : Reading)
    → type_of (context_of here) e ≡ Some t
    → read_before (params_in here) result (row_in here f e) r ≡ with_part (part_of here e) r

-- the row of a body of which no premise fails is read as the points of the core program, and leaves no part
abbrev pub PointsAreRead : Type 0
PointsAreRead = (around : Around) (here : Scope) (f : ℕ) (result : Kind) (body : Statements) (close : Span)
    → first (statements_premises around here body) ≡ None
    → read_row (params_in here) result (row_in_body here f body close) ≡ points_alone (body_of here result body).points

-- the row of a unit's body says what the program does at the points of the body, where the unit is typed
abbrev pub UnitsAreRead : Type 0
UnitsAreRead = (items : List UnitItem) (name : List ℕ) (b : Bodied) (f : ℕ) (close : Span)
    → refusal_of_types items ≡ None
    → bodied_function name (outset items) items ≡ Some b
    → read_row (params_in b.here) (thing_type b.here b.head.result).kind (row_in_body b.here f b.body close)
    ≡ points_alone (body_in b).points

-- a row declares the locals of the body, typed or not, in their order
abbrev pub LocalsAreRead : Type 0
LocalsAreRead = (here : Scope) (f : ℕ) (result : Kind) (body : Statements) (close : Span)
    → kinds_read (row_in_body here f body close) ≡ (body_of here result body).locals

-- a row says which locals of the body never change, typed or not: so many parameters stand before it
abbrev pub StableLocalsAreRead : Type 0
StableLocalsAreRead = (here : Scope) (f : ℕ) (result : Kind) (body : Statements) (close : Span)
    → stable_read (replicate here.locals true) (row_in_body here f body close) ≡ (body_of here result body).stable

-- the bodies that are read from the row of a typed unit are those of its items, in order, each whole
abbrev pub BodiesAreRead : Type 0
BodiesAreRead = (items : List UnitItem) → refusal_of_types items ≡ None → bodies_read (row_in_unit items) ≡ map row_of_body (bodies_in (outset items) items)

-- and the row of each is read as the points of the core program
abbrev pub AllBodiesAreRead : Type 0
AllBodiesAreRead = (items : List UnitItem) → refusal_of_types items ≡ None → map reading_of (bodies_in (outset items) items) ≡ map points_of (bodies_in (outset items) items)

-- the first body of a name, typed or not, is the first of them with that name
abbrev pub BodiesHaveNames : Type 0
BodiesHaveNames = (items : List UnitItem) (name : List ℕ) → first_named name (bodies_in (outset items) items) ≡ bodied_function name (outset items) items
