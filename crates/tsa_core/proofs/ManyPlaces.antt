-- The unit with more places than it may have, worked out.
use Rattle.std.proofs.Common.{refl}
use Rattle.tsa_place_model.specs.Calls.{around, guards_along}
use Rattle.tsa_place_model.specs.Units.{placed_behind}
use Rattle.tsa_core.specs.ManyPlaces.{LargeUnitsHaveTheirPlaces}
use Rattle.tsa_core.proofs.BodyExamples.{worked}

pub large_units_have_their_places : LargeUnitsHaveTheirPlaces
unfolding worked around guards_along placed_behind
large_units_have_their_places = record {
  typed = refl;
  refused = refl;
  count = refl;
  globals = refl;
  starts = refl;
  guarded = refl;
  written = refl;
}
