-- Which locals never change, by the names of functions: the first body of a name counts.
use Rattle.std.specs.Prelude.{ℕ, Bool, true, false, List, [], ◌∷◌, ◌++◌, replicate, Option, Some, None, is_some}
use Rattle.tsa_tree.specs.declarations.Syntax.{Head}
use Rattle.tsa_tree.specs.statements.Syntax.{Statements}
use Rattle.tsa_tree.specs.types.Heads.{inside}
use Rattle.tsa_tree.specs.types.Scopes.{Scope, found}
use Rattle.tsa_tree.specs.types.Units.{outset, behind_item}
use Rattle.tsa_tree.specs.units.Syntax.{UnitItem, body_item}
use Rattle.tsa_core.specs.Programs.{body_in}

abbrev pub Table : Type 0
Table = List (List ℕ × List Bool)

abbrev pub unless_known : Bool → List ℕ → List Bool → Table → Table
unless_known true name stable table = table
unless_known false name stable table = table ++ (name, stable) ∷ []

abbrev pub with_first : List ℕ → List Bool → Table → Table
with_first name stable table = unless_known (is_some (found table name)) name stable table

-- what is kept, or without a body that no parameter changes
abbrev pub stable_or : (params : ℕ) → Option (List Bool) → List Bool
stable_or params None = replicate params true
stable_or params (Some stable) = stable

-- the locals of a body that never change, where its statements begin
abbrev pub stable_of : Scope → Head → Statements → List Bool
stable_of here head body = (body_in (record { here = here; head = head; body = body })).stable

abbrev pub with_body : Scope → Head → Statements → Table → Table
with_body here head body table = with_first head.name.text (stable_of here head body) table

-- item by item
abbrev pub with_item : Scope → UnitItem → Table → Table
with_item here (body_item head body close) table = with_body (inside here head true) head body table
with_item here item table = table

unfoldable pub bodies_behind : Scope → List UnitItem → Table → Table
bodies_behind here [] table = table
bodies_behind here (item ∷ rest) table = bodies_behind (behind_item here item) rest (with_item here item table)

-- the bodies of a unit
abbrev pub bodies_of : List UnitItem → Table
bodies_of items = bodies_behind (outset items) items []
