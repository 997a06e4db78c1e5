-- What is found of the points of a body, one behind the other.
use Rattle.std.specs.Prelude.{◌+◌, List, length, filter}
use Rattle.tsa_core_points.specs.Points.{PlacedPoint}
use Rattle.tsa_profile_accesses.specs.Premises.{or_else, first}
use Rattle.tsa_profile_points.specs.Bodies.{Around, is_try_variable, points_premises}
use Rattle.tsa_profile_points.specs.Gathering.{with_ways}
use Rattle.tsa_profile_points.specs.Ways.{points_ways}
use Rattle.tsa_profile_points.specs.declared.judgement.Found.{Found}

unfoldable pub behind_points : Around → Found → List PlacedPoint → Found
behind_points a found points = record {
  failure = or_else found.failure (first (points_premises a points));
  tries = found.tries + length (filter (is_try_variable a) points);
  gathered = with_ways found.gathered (points_ways a points);
}
