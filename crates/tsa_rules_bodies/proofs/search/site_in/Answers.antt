use Rattle.std.proofs.Common.{◌∙◌, sym, ap}
use Rattle.tsa_tree.proofs.types.UnitNodes.{premises_tell_it}
use Rattle.tsa_tree.specs.types.Units.{refusal_of_types}
use Rattle.tsa_tree.specs.units.Shapes.{item_shapes}
use Rattle.tsa_core.specs.Programs.{program_of}
use Rattle.tsa_profile.proofs.Laying.{laid}
use Rattle.tsa_rules_bodies.proofs.PointNumbers.{read_points}
use Rattle.tsa_rules_bodies.proofs.search.site_in.Goals as goal

pub new-requires : goal.new-requires
new-requires c = record {
  typed =
      ap (λ t. refusal_of_types (item_shapes t.now.items.now)) c.unit.ensures
      ∙ sym (premises_tell_it (item_shapes c.args.unit.now.unit.now.items.now))
      ∙ c.args.unit.now.typed;
}

pub invariant_of-ground-clause-laid : goal.invariant_of-ground-clause-laid
invariant_of-ground-clause-laid c =
    c.layout-layout.ensures
    ∙ laid (item_shapes c.args.unit.now.unit.now.items.now) c.args.places.now c.requires.placed
    ∙ sym (ap (λ t. (program_of (item_shapes t.now.items.now)).layout) c.unit.ensures)

pub site-requires : goal.site-requires
site-requires c = record {
  points = read_points c.args.unit.now.unit.now.items.now c.unit.result.now.items.now (ap (λ t. t.now.items.now) c.unit.ensures) c.args.unit.now.well_read;
}
