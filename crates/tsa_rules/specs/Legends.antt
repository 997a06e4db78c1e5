-- What the text of a unit adds to its program for the order of warnings: where bodies stand, and what their functions name.
use Rattle.std.specs.Prelude.{ℕ, List, [], ◌∷◌, ◌++◌, Option, Some, None, option_map, option_and_then, slice_get}
use Rattle.std.specs.List.{flat_map}
use Rattle.tsa_tree.specs.declarations.Syntax.{Parameter}
use Rattle.tsa_tree.specs.declared.kind.Kind.{Kind}
use Rattle.tsa_tree.specs.expressions.Syntax.{Identifier}
use Rattle.tsa_tree.specs.points.Syntax.{Deed, declares}
use Rattle.tsa_tree.specs.types.DeclaredTypes.{thing_type}
use Rattle.tsa_tree.specs.types.Scopes.{Scope}
use Rattle.tsa_tree.specs.types.Units.{outset}
use Rattle.tsa_tree.specs.units.Syntax.{UnitItem}
use Rattle.tsa_place_model.specs.Calls.{Layout}
use Rattle.tsa_place_model.specs.Layouts.{Part, structure_at}
use Rattle.tsa_core.specs.Bodies.{Known, known_in_body}
use Rattle.tsa_core.specs.Programs.{Bodied, Declared, bodied_function, declared_functions, program_of}
use Rattle.tsa_path.specs.PathTexts.{Label, Names}
use Rattle.tsa_path.specs.WrittenLocks.{struct_in}
use Rattle.tsa_rules.specs.Warnings.{AreWarnings, Legend, Warning}

abbrev pub label : List ℕ → Kind → Label
label name kind = record { name = name; structure = struct_in kind }

abbrev pub part_label : Part → Label
part_label part = label part.name part.thing.kind

-- a parameter is named as the body names it, and as the first declaration does where the body doesn't
abbrev pub param_name : (in_body first : Option Identifier) → List ℕ
param_name (Some name) first = name.text
param_name None (Some name) = name.text
param_name None None = []

abbrev pub param_labels : Scope → (in_body first : List Parameter) → List Label
param_labels here (p ∷ params) (q ∷ rest) = label (param_name p.name q.name) (thing_type here p.ctype).kind ∷ param_labels here params rest
param_labels here params rest = []

-- the other locals in order of their declarations
abbrev pub declared_label : Scope → Deed → List Label
declared_label here (declares d) = label d.name.text (thing_type here d.ctype).kind ∷ []
declared_label here _ = []

abbrev pub declared_labels : List Known → List Label
declared_labels points = flat_map (λ k. declared_label k.here k.deed) points

abbrev pub local_labels : Declared → Option Bodied → List Label
local_labels d None = param_labels d.here d.head.params d.head.params
local_labels d (Some b) = param_labels b.here b.head.params d.head.params ++ declared_labels (known_in_body b.here b.body)

-- the names that a function of some locals sees
abbrev pub names_in : Layout → List Label → Names
names_in l locals = record {
  global = λ n. option_map part_label (slice_get l.globals n);
  local = λ n. slice_get locals n;
  member = λ struct k. option_map part_label (slice_get (structure_at l.structs struct).members k);
  owner = None;
}

abbrev pub body_of_declared : List UnitItem → Declared → Option Bodied
body_of_declared items d = bodied_function d.head.name.text (outset items) items

abbrev pub labels_of : List UnitItem → Option Declared → List Label
labels_of items None = []
labels_of items (Some d) = local_labels d (body_of_declared items d)

-- a body stands where its function's name does beside it
abbrev pub place_of : Option Bodied → ℕ
place_of None = 0
place_of (Some b) = b.head.name.span.from

abbrev pub legend_of : List UnitItem → Legend
legend_of items = record {
  place = λ n. place_of (option_and_then (body_of_declared items) (slice_get (declared_functions (outset items) items) n));
  names = λ n. names_in (program_of items).layout (labels_of items (slice_get (declared_functions (outset items) items) n));
}

-- the warnings of a unit
abbrev pub AreWarningsOf : List UnitItem → List Warning → Type 0
AreWarningsOf items ws = AreWarnings (legend_of items) (program_of items) ws
