-- What the last row says of paths, and what it says after notes of the attributes of a called function, of accesses, and of the declaration
-- of a local.
use Rattle.std.specs.Prelude.{◌≡◌, ℕ, List, ◌++◌, Option, Some, None, slice_get}
use Rattle.tsa_place_model.specs.Ways.{Way}
use Rattle.tsa_core.specs.Programs.{Attr}
use Rattle.tsa_core.specs.Uses.{Access}
use Rattle.tsa_path.specs.PathTables.{AreDifferent}
use Rattle.tsa_rules.specs.Marks.{mark_by}
use Rattle.tsa_profile_accesses.specs.Accesses.{Access as PlacedAccess}
use Rattle.tsa_rules_table.specs.Rows.{Rows, last_row, mark_in}

-- an access as the core program has it
abbrev pub core_access : PlacedAccess → Access
core_access a = record { is_write = a.is_write; guards = a.guards }

-- a row says of each path, by its number, what some attributes, accesses and a declaration make a mark say
abbrev pub IsRow : List Way → Rows → (row : ℕ) → List Attr → (right left : List Access) → (declared : Option ℕ) → Type 0
IsRow paths m row attrs right left declared = (number : ℕ) (c : Way) → slice_get paths number ≡ Some c → mark_in m row number ≡ mark_by attrs right left declared c

abbrev pub IsLastRow : List Way → Rows → List Attr → (right left : List Access) → (declared : Option ℕ) → Type 0
IsLastRow paths m attrs right left declared = IsRow paths m (last_row m) attrs right left declared

-- Of different paths the last row says what it said, with further attributes, accesses on the right or the left side, or a declaration.
abbrev pub NotesAttributes : List Way → (old new : Rows) → List Attr → Type 0
NotesAttributes paths old new more = (attrs : List Attr) (right left : List Access) (declared : Option ℕ) → AreDifferent paths
    → IsLastRow paths old attrs right left declared → IsLastRow paths new (attrs ++ more) right left declared

abbrev pub NotesRight : List Way → (old new : Rows) → List Access → Type 0
NotesRight paths old new more = (attrs : List Attr) (right left : List Access) (declared : Option ℕ) → AreDifferent paths
    → IsLastRow paths old attrs right left declared → IsLastRow paths new attrs (right ++ more) left declared

abbrev pub NotesLeft : List Way → (old new : Rows) → List Access → Type 0
NotesLeft paths old new more = (attrs : List Attr) (right left : List Access) (declared : Option ℕ) → AreDifferent paths
    → IsLastRow paths old attrs right left declared → IsLastRow paths new attrs right (left ++ more) declared

abbrev pub NotesDeclaration : List Way → (old new : Rows) → ℕ → Type 0
NotesDeclaration paths old new local = (attrs : List Attr) (right left : List Access)
    → IsLastRow paths old attrs right left None → IsLastRow paths new attrs right left (Some local)
