use Rattle.tsa_core_points.proofs.PointsOfCore as proved
use Rattle.tsa_core_points.proofs.laws.points_are_of_the_core.Goals as goal

pub returns-clause-known : goal.returns-clause-known
returns-clause-known c = proved.placed_are_known

pub returns-clause-points : goal.returns-clause-points
returns-clause-points c = proved.points_are_of_the_core

pub returns-clause-uses : goal.returns-clause-uses
returns-clause-uses c = proved.uses_are_of_the_core

pub returns-clause-stable : goal.returns-clause-stable
returns-clause-stable c = proved.stable_is_of_the_core
