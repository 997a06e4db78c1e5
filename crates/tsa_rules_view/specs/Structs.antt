-- The struct to which a path leads, by a layout and the kinds of locals.
use Rattle.std.specs.Prelude.{ℕ, List, Option, None, option_and_then, slice_get}
use Rattle.tsa_tree.specs.declared.kind.Kind.{Kind}
use Rattle.tsa_place_model.specs.Ways.{Way}
use Rattle.tsa_place_model.specs.declared.path.Root.{Root}
use Rattle.tsa_place_model.specs.declared.path.Root.TheVariants as root
use Rattle.tsa_place_model.specs.Calls.{Layout}
use Rattle.tsa_rules.specs.Attributes.{part_struct, struct_along}
use Rattle.tsa_path.specs.WrittenLocks.{struct_in}

-- of what it begins at: the object whose member has a guard is of no struct that is known
abbrev pub root_by : Layout → List Kind → Root → Option ℕ
root_by l locals (root.Global n) = option_and_then part_struct (slice_get l.globals n)
root_by l locals (root.Local n) = option_and_then struct_in (slice_get locals n)
root_by l locals root.Owner = None

abbrev pub struct_by : Layout → List Kind → Way → Option ℕ
struct_by l locals c = struct_along l c.steps (root_by l locals c.root)
