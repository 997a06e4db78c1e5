-- The accesses of a point are the loads and the write of its terms: what the arguments of its call and its action load, and the cell that
-- it sets.
use Rattle.std.specs.Prelude.{◌≡◌, ◌⊎◌, ℕ, Bool, true, false, List, [], ◌∷◌, ◌++◌, All, Option, Some, None}
use Rattle.std.specs.List.{Contains, flat_map}
use Rattle.tsa_tree.specs.declarations.Syntax.{Initialiser, value}
use Rattle.tsa_tree.specs.declared.kind.Kind.{Kind}
use Rattle.tsa_tree.specs.expressions.Syntax.{Expression}
use Rattle.tsa_tree.specs.points.Syntax.{Deed, declares, evaluates, assigns, tests, switches, returns}
use Rattle.tsa_tree.specs.types.DeclaredTypes.{thing_type}
use Rattle.tsa_tree.specs.types.Runnable.{Runnable}
use Rattle.tsa_tree.specs.types.Scopes.{Scope}
use Rattle.tsa_tree.specs.types.Units.{outset}
use Rattle.tsa_tree.specs.units.Sound.{SpellableItems}
use Rattle.tsa_tree.specs.units.Syntax.{UnitItem}
use Rattle.tsa_place_model.specs.Calls.{Layout}
use Rattle.tsa_place_model.specs.Leading.{HasPlaces}
use Rattle.tsa_core.specs.Bodies.{Action, evaluate, set_local, set_cell, declare, test, branch, go_on, give, Point, Known, known_in_body}
use Rattle.tsa_core.specs.Bodies.{point_of}
use Rattle.tsa_core.specs.Cells.{own_cell, inner_cells, cells_read, read_before}
use Rattle.tsa_core.specs.Loads.{loads, loads_with, places}
use Rattle.tsa_core.specs.Meanings.{Call}
use Rattle.tsa_core.specs.Programs.{Bodied, bodied_function}
use Rattle.tsa_core.specs.Terms.{Term}
use Rattle.tsa_core.specs.Uses.{accesses, uses_of}

-- What a point loads, in order of the text: the arguments of its call, and what its action works out, where the answer stands for the call.
abbrev pub call_loads : Option Call → List Term
call_loads None = []
call_loads (Some c) = flat_map loads c.args

abbrev pub loads_right : (of_answer : List Term) → Action → List Term
loads_right ps (evaluate x) = loads_with ps x
loads_right ps (set_local n op kind x) = loads_with ps x
loads_right ps (set_cell place op kind x) = loads_with ps x
loads_right ps (declare n kind x) = loads_with ps x
loads_right ps (test x) = loads_with ps x
loads_right ps (branch x) = loads_with ps x
loads_right ps go_on = []
loads_right ps (give kind x) = loads_with ps x

-- the cell that an assignment sets, what is loaded on the way to it, and the cell itself where an operator joins its old value
abbrev pub cell_set : Action → List Term
cell_set (set_cell place op kind x) = place ∷ []
cell_set action = []

abbrev pub loads_inside : Action → List Term
loads_inside (set_cell place op kind x) = loads place
loads_inside action = []

abbrev pub old_value : Action → List Term
old_value (set_cell place (Some op) kind x) = place ∷ []
old_value action = []

-- The cells that a point reads on the right; and of an assignment's left side the cell that is written, those that are read on the way to
-- it, and the cell itself where it is read before.
abbrev pub init_cells : Scope → Option Initialiser → List Expression
init_cells here (Some (value e)) = cells_read here e
init_cells here init = []

abbrev pub given_cells : Scope → Option Expression → List Expression
given_cells here None = []
given_cells here (Some e) = cells_read here e

abbrev pub right_cells : Scope → Deed → List Expression
right_cells here (declares d) = init_cells here d.init
right_cells here (evaluates e) = cells_read here e
right_cells here (assigns left op right) = cells_read here right
right_cells here (tests e) = given_cells here e
right_cells here (switches e) = cells_read here e
right_cells here (returns e) = given_cells here e
right_cells here deed = []

abbrev pub written_cells : Scope → Deed → List Expression
written_cells here (assigns left op right) = own_cell here left
written_cells here deed = []

abbrev pub cells_inside : Scope → Deed → List Expression
cells_inside here (assigns left op right) = inner_cells here left
cells_inside here deed = []

abbrev pub cells_before : Scope → Deed → List Expression
cells_before here (assigns left op right) = read_before here op left
cells_before here deed = []

-- what a point uses are accesses of those cells
abbrev pub UsesAreOfCells : Type 0
UsesAreOfCells = (l : Layout) (stable : ℕ → Bool) (k : Known)
    → ((uses_of l stable k).right ≡ accesses l stable k.here false (right_cells k.here k.deed))
    × ((uses_of l stable k).left
    ≡ accesses l stable k.here false (cells_before k.here k.deed)
    ++ (accesses l stable k.here true (written_cells k.here k.deed) ++ accesses l stable k.here false (cells_inside k.here k.deed)))

-- those cells are the ones that the terms of a point load and set
pub record LoadsAgree (result : Kind) (k : Known) : Type 0 where
  pub right : loads_right (call_loads (point_of result k).call) (point_of result k).action ≡ places k.here (right_cells k.here k.deed)
  pub written : cell_set (point_of result k).action ≡ places k.here (written_cells k.here k.deed)
  pub inside : loads_inside (point_of result k).action ≡ places k.here (cells_inside k.here k.deed)
  pub before : old_value (point_of result k).action ≡ places k.here (cells_before k.here k.deed)

-- at each point of a body of a unit that runs
abbrev pub PointsLoadTheirCells : Type 0
PointsLoadTheirCells = (items : List UnitItem) (name : List ℕ) (b : Bodied) (l : Layout) → SpellableItems items → Runnable items → HasPlaces items l
    → bodied_function name (outset items) items ≡ Some b → All (LoadsAgree (thing_type b.here b.head.result).kind) (known_in_body b.here b.body)

-- a place is loaded at a point, by the arguments of its call or by its action, exactly where it is one of the cells that are read on the
-- right
abbrev pub LoadedAt : Point → Term → Type 0
LoadedAt p x = Contains (call_loads p.call) x ⊎ Contains (loads_right [] p.action) x

abbrev pub LoadsJustThose : Kind → Known → Type 0
LoadsJustThose result k = (x : Term)
    → (LoadedAt (point_of result k) x → Contains (places k.here (right_cells k.here k.deed)) x)
    × (Contains (places k.here (right_cells k.here k.deed)) x → LoadedAt (point_of result k) x)

abbrev pub PointsLoadJustThose : Type 0
PointsLoadJustThose = (items : List UnitItem) (name : List ℕ) (b : Bodied) (l : Layout) → SpellableItems items → Runnable items → HasPlaces items l
    → bodied_function name (outset items) items ≡ Some b → All (LoadsJustThose (thing_type b.here b.head.result).kind) (known_in_body b.here b.body)
