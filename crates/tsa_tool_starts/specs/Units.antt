-- The items of a unit whose threads begin.
use Rattle.std.specs.Prelude.{List}
use Rattle.tsa_tree.specs.units.Shapes.{item_shapes}
use Rattle.tsa_tree.specs.units.Syntax.{UnitItem}
use Rattle.tsa_tool_starts.specs.declared.starter.Starter.{Starter}

abbrev pub items_in : Starter → List UnitItem
items_in starter = item_shapes starter.unit.now.typed.unit.now.items.now
