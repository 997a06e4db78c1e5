-- The points that are visited, as what is known there and around them.
use Rattle.tsa_tree.specs.statements.Shapes.{action_shape}
use Rattle.tsa_core.specs.Bodies.{Known, knows}
use Rattle.tsa_profile_points.specs.Bodies.{Around}
use Rattle.tsa_profile_points.specs.PointAnswers.{around_of}
use Rattle.tsa_rules_points.specs.declared.visit.Visit.{Visit}

abbrev pub known_at : Visit → Known
known_at v = knows v.spot.scope.now (action_shape v.action.now)

abbrev pub around_at : Visit → Around
around_at v = around_of v.spot.around
