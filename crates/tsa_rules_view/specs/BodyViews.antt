-- The view that is made of a body which is entered.
use Rattle.std.specs.Prelude.{◌≡◌, ◌≤◌, ◌++◌, ℕ, false, List, [], length, None}
use Rattle.tsa_tree.specs.declarations.Shapes.{head_shape}
use Rattle.tsa_tree.specs.declared.kind.Kind.{Kind}
use Rattle.tsa_tree.specs.statements.Shapes.{stmt_shapes}
use Rattle.tsa_tree.specs.types.DeclaredTypes.{thing_type}
use Rattle.tsa_tree.specs.units.Syntax.{UnitItem}
use Rattle.tsa_place_model.specs.LockPaths.{stable_in}
use Rattle.tsa_place_model.specs.Ways.{Way}
use Rattle.tsa_core.specs.Programs.{Function, program_of}
use Rattle.tsa_path.specs.PathTables.{AreDifferent}
use Rattle.tsa_core_points.specs.Points.{PlacedPoint}
use Rattle.tsa_core_points.specs.Walks.{points_along, walk}
use Rattle.tsa_core_points.specs.Steps.{body_steps}
use Rattle.tsa_rules.specs.Points.{try_variables}
use Rattle.tsa_rules.specs.Statuses.{try_limit}
use Rattle.tsa_rules_view.specs.Kinds.{kinds_of}
use Rattle.tsa_rules_table.specs.Notes.{IsRow}
use Rattle.tsa_profile_points.specs.Bodies.{Around}
use Rattle.tsa_rules_points.specs.declared.notes.Noted.{Noted}
use Rattle.tsa_rules_points.specs.Notes.{AreNotes}
use Rattle.tsa_rules_bodies.specs.declared.Inside.{Inside}
use Rattle.tsa_rules_bodies.specs.Entering.{IsOf}
use Rattle.tsa_profile_accesses.specs.Expressions.{attributes_at}
use Rattle.tsa_rules_bodies.specs.Knowing.{Knowledge}
use Rattle.tsa_rules_bodies.specs.Laws.{StandsFor}
use Rattle.tsa_rules_bodies.specs.Sites.{Site}
use Rattle.tsa_rules_bodies.specs.Units.{unit_of}
use Rattle.tsa_rules_view.specs.declared.build.Unit.{Unit}
use Rattle.tsa_rules_view.specs.declared.content.RuleView.{RuleView}
use Rattle.tsa_rules_view.specs.Parts.{kinds_along, param_kinds}
use Rattle.tsa_rules_view.specs.Views.{IsViewOf}

-- points are noted by paths
pub record AreNoted (a : Around) (kind : Kind) (paths : List Way) (points : List PlacedPoint) (noted : Noted) : Type 0 where
  pub notes : AreNotes a kind paths points noted.notes
  pub numbers : noted.numbers ≡ paths

-- what is around a body that is entered, and the kind of what its function gives
abbrev pub around_in : Unit → Knowledge → Inside → Around
around_in u k i = record { layout = u.layout.now; attributes = k.attributes; tries = false; stable = stable_in i.stable.items }

abbrev pub result_in : Knowledge → Inside → Kind
result_in k i = (thing_type k.here (head_shape i.head.now).result).kind

-- its points
abbrev pub points_in : Knowledge → Inside → List PlacedPoint
points_in k i = points_along (walk k.here []) (body_steps (stmt_shapes i.body.now) i.head.now.name.span)

abbrev pub IsNoted : Unit → Knowledge → Inside → List Way → Noted → Type 0
IsNoted u k i paths noted = AreNoted (around_in u k i) (result_in k i) paths (points_in k i) noted

-- The view has what is noted, with the kinds of locks beside the paths, and with what the function's own attributes say in a row.
pub record IsWhole (u : Unit) (k : Knowledge) (i : Inside) (noted : Noted) (v : RuleView) : Type 0 where
  pub numbers : v.numbers ≡ noted.numbers
  pub notes : v.notes ≡ noted.notes
  pub kinds : kinds_of v.kinds.items ≡ kinds_along (kinds_of u.kinds.now) u.layout.now (param_kinds k.here (head_shape i.head.now).params ++ noted.notes.kinds.items) noted.numbers
  pub own : AreDifferent noted.numbers → IsRow noted.numbers v.own 0 (attributes_at k.attributes i.number) [] [] None

-- Where the body stands for a function of a unit with different paths, it is the view of the function.
abbrev pub IsMade : Unit → Knowledge → Inside → List Way → RuleView → Type 0
IsMade u k i paths v = (items : List UnitItem) (n : ℕ) (f : Function) (s : Site) → u.layout.now ≡ (program_of items).layout → kinds_of u.kinds.now ≡ (program_of items).locks
    → IsOf (unit_of [] items) n s k i → StandsFor items n f s → AreDifferent paths → IsViewOf (program_of items) f paths v

-- The body stands for a function of a unit that has no more try variables than it may have.
pub record HasFewTries (u : Unit) (k : Knowledge) (i : Inside) : Type 0 where
  pub items : List UnitItem
  pub number : ℕ
  pub function : Function
  pub site : Site
  pub layout : u.layout.now ≡ (program_of items).layout
  pub is_of : IsOf (unit_of [] items) number site k i
  pub stands : StandsFor items number function site
  pub few : length (try_variables (program_of items) function) ≤ try_limit
