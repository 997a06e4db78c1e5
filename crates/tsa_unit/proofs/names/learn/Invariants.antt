use Rattle.std.proofs.Common.{◌≡◌}
use Rattle.tsa_tree.specs.units.Syntax.{names_of}
use Rattle.tsa_tree.specs.units.Shapes.{item_shapes}
use Rattle.tsa_unit.specs.Names.{with_names}
use Rattle.tsa_unit.proofs.NameLaws.{names_from}
use Rattle.tsa_unit.proofs.names.learn.Given as goal

abbrev pub invariant-items : goal.invariant-items
invariant-items l = with_names l.initial.aliases (names_of (item_shapes l.items)) ≡ with_names l.aliases (names_from l.item-index l.items)
