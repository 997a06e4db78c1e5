use Rattle.std.proofs.Common.{◌∙◌, [], sym, ap}
use Rattle.std.proofs.lemmas.Result.{IfOk-weaker}
use Rattle.tsa_tree.proofs.types.UnitNodes.{premises_tell_it}
use Rattle.tsa_tree.specs.types.Units.{outset, refusal_of_types}
use Rattle.tsa_tree.specs.units.Shapes.{item_shapes}
use Rattle.tsa_core.specs.Programs.{program_of}
use Rattle.tsa_profile_items.specs.Tables.{tables_of_all}
use Rattle.tsa_profile_items.specs.Units.{unit_of}
use Rattle.tsa_profile.proofs.Laying.{laid}
use Rattle.tsa_profile.proofs.PathTables.{paths_are_those_of_the_core}
use Rattle.tsa_profile.proofs.profile.tables.Goals as goal

pub new-requires : goal.new-requires
new-requires c = record {
  typed =
      ap (λ t. refusal_of_types (item_shapes t.now.items.now)) c.unit.ensures
      ∙ sym (premises_tell_it (item_shapes c.args.unit.now.unit.now.items.now))
      ∙ c.args.unit.now.typed;
}

pub invariant_of-ground-clause-laid : goal.invariant_of-ground-clause-laid
invariant_of-ground-clause-laid c =
    c.layout-layout.ensures
    ∙ laid (item_shapes c.args.unit.now.unit.now.items.now) c.args.places.now c.requires.placed
    ∙ sym (ap (λ t. (program_of (item_shapes t.now.items.now)).layout) c.unit.ensures)

pub returns-clause-tables : goal.returns-clause-tables
returns-clause-tables c =
    let items = item_shapes c.args.unit.now.unit.now.items.now in
    IfOk-weaker c.judge.result _ _
    (λ tables h.
    h
    ∙ ap (λ t. tables_of_all (unit_of c.args.outside.now (item_shapes t.now.items.now)) [] [] (outset (item_shapes t.now.items.now)) (item_shapes t.now.items.now)) c.unit.ensures
    ∙ paths_are_those_of_the_core c.args.outside.now items c.args.unit.now.typed)
    c.judge.ensures.tables
