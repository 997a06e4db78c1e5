use Rattle.tsa_core_points.proofs.Passing as proved
use Rattle.tsa_core_points.proofs.PointsOfTexts.{placed_are_written}
use Rattle.tsa_core_points.proofs.laws.steps_are_the_points.Goals as goal

pub returns-clause-one : goal.returns-clause-one
returns-clause-one c = proved.statements_are_passed

pub returns-clause-all : goal.returns-clause-all
returns-clause-all c = proved.steps_are_the_points

pub returns-clause-body : goal.returns-clause-body
returns-clause-body c = proved.body_steps_are_the_points

pub returns-clause-written : goal.returns-clause-written
returns-clause-written c = placed_are_written
