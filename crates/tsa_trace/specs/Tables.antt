-- Lists of points by the names of functions: the first that was kept of a name counts.
use Rattle.std.specs.Prelude.{ℕ, Bool, true, false, List, [], ◌∷◌, ◌++◌, map, is_some}
use Rattle.tsa_base.specs.declared.token.Span.{Span}
use Rattle.tsa_tree.specs.types.Scopes.{found}
use Rattle.tsa_tree.specs.units.Syntax.{UnitItem, function_item, body_item}
use Rattle.tsa_trace.specs.FunctionTexts.{FunctionText, point_spans, points_or_none}

abbrev pub Table : Type 0
Table = List (List ℕ × List Span)

abbrev pub unless_known : Bool → List ℕ → List Span → Table → Table
unless_known true name points table = table
unless_known false name points table = table ++ (name, points) ∷ []

abbrev pub with_first : List ℕ → List Span → Table → Table
with_first name points table = unless_known (is_some (found table name)) name points table

-- all functions, each with the points of its first declaration
abbrev pub with_function : UnitItem → Table → Table
with_function (function_item head) table = with_first head.name.text [] table
with_function (body_item head body close) table = with_first head.name.text (point_spans body close) table
with_function item table = table

unfoldable pub functions_behind : List UnitItem → Table → Table
functions_behind [] table = table
functions_behind (item ∷ rest) table = functions_behind rest (with_function item table)

-- those that have a body, with the points of the first one
abbrev pub with_body : UnitItem → Table → Table
with_body (body_item head body close) table = with_first head.name.text (point_spans body close) table
with_body item table = table

unfoldable pub bodies_behind : List UnitItem → Table → Table
bodies_behind [] table = table
bodies_behind (item ∷ rest) table = bodies_behind rest (with_body item table)

abbrev pub text_by : (bodies : Table) → List ℕ × List Span → FunctionText
text_by bodies e = record { name = e.0; points = points_or_none (found bodies e.0) }

-- the functions, each with the points of its body
abbrev pub texts_by : (functions bodies : Table) → List FunctionText
texts_by functions bodies = map (text_by bodies) functions
