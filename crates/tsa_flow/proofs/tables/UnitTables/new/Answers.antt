use Rattle.std.proofs.Common.{◌∙◌, sym, ap}
use Rattle.tsa_tree.specs.types.FirstFailing.{first_failing}
use Rattle.tsa_tree.specs.units.Shapes.{item_shapes}
use Rattle.tsa_core.specs.Programs.{program_of}
use Rattle.tsa_rules_bodies.proofs.Laying.{laid}
use Rattle.tsa_flow.proofs.tables.UnitTables.new.Goals as goal

pub tables_in-requires-clause-typed : goal.tables_in-requires-clause-typed
tables_in-requires-clause-typed c = ap (λ items. first_failing (item_shapes items.now)) c.items_of.ensures ∙ c.args.unit.now.typed.typed

pub tables_in-requires-clause-laid : goal.tables_in-requires-clause-laid
tables_in-requires-clause-laid c =
    c.layout.ensures
    ∙ laid (item_shapes c.args.unit.now.typed.unit.now.items.now) c.args.places.now c.requires.placed
    ∙ sym (ap (λ items. (program_of (item_shapes items.now)).layout) c.items_of.ensures)
