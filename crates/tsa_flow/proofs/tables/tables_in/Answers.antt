use Rattle.std.proofs.Common.{◌∙◌, sym}
use Rattle.tsa_tree.proofs.types.UnitNodes.{premises_tell_it}
use Rattle.tsa_tree.specs.units.Shapes.{item_shapes}
use Rattle.tsa_flow_function.proofs.NewView.{locks_are}
use Rattle.tsa_flow.proofs.tables.tables_in.Goals as goal

pub new-requires : goal.new-requires
new-requires c = record { typed = sym (premises_tell_it (item_shapes c.args.items.now)) ∙ c.requires.typed }

pub tables_with-requires-clause-locks : goal.tables_with-requires-clause-locks
tables_with-requires-clause-locks c = c.in_ok-kinds.ensures ∙ locks_are (item_shapes c.args.items.now)
