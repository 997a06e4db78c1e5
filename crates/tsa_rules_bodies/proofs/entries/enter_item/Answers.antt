use Rattle.tsa_rules_bodies.proofs.PointNumbers.{function_points}
use Rattle.tsa_rules_bodies.proofs.entries.enter_item.Goals as goal

pub enter_function-requires-clause-points : goal.enter_function-requires-clause-points
enter_function-requires-clause-points c = function_points c.in-Function.head c.args.item.now c.in-Function.is c.requires.points
