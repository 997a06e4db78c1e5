-- A row of marks more, which says what a point says of each path.
use Rattle.std.specs.Prelude.{◌≡◌, ◌<◌, ℕ, ◌+◌, List, Option, None, Some}
use Rattle.tsa_tree.specs.expressions.Syntax.{Expression}
use Rattle.tsa_tree.specs.points.Syntax.{Deed, switches}
use Rattle.tsa_place_model.specs.Ways.{Way}
use Rattle.tsa_core.specs.Bodies.{Known}
use Rattle.tsa_core.specs.Programs.{Attr}
use Rattle.tsa_core.specs.Uses.{Access}
use Rattle.tsa_path.specs.PathTables.{AreDifferent}
use Rattle.tsa_rules_table.specs.Notes.{IsLastRow, IsRow}
use Rattle.tsa_rules_table.specs.Rows.{Rows, mark_in, rows_in}
use Rattle.tsa_profile_points.specs.Bodies.{Around}
use Rattle.tsa_profile_points.specs.Ways.{calling}
use Rattle.tsa_rules_points.specs.Points.{attrs_here, begun_here, uses_here}

-- the expression whose value is worked out at a point, other than an assignment's left side
abbrev pub value_in : Deed → Option Expression
value_in (switches e) = Some e
value_in deed = calling deed

-- the last row says what it said, and which local begins
abbrev pub NotesBegun : List Way → (old new : Rows) → Option ℕ → Type 0
NotesBegun paths old new begun = (attrs : List Attr) (right left : List Access)
    → IsLastRow paths old attrs right left None → IsLastRow paths new attrs right left begun

-- a row says of each path what a point says
abbrev pub IsRowOf : Around → List Way → Rows → (row : ℕ) → Known → Type 0
IsRowOf a paths m row k = IsRow paths m row (attrs_here a k) (uses_here a k).right (uses_here a k).left (begun_here k)

pub record AddsRow (a : Around) (paths : List Way) (k : Known) (old new : Rows) : Type 0 where
  pub count : rows_in new ≡ rows_in old + 1
  pub before : (row number : ℕ) → row < rows_in old → mark_in new row number ≡ mark_in old row number
  pub row : AreDifferent paths → IsRowOf a paths new (rows_in old) k
