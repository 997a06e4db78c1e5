use Rattle.tsa_flow_function.proofs.Beginning.{agree_behind, first_is, never_none, none_is}
use Rattle.tsa_flow_function.proofs.function.FunctionFlow.begins_block.Goals as goal

pub returns-in-Some-clause-is : goal.returns-in-Some-clause-is
returns-in-Some-clause-is c = first_is c.args.self.now.blocks.places.items c.args.point c.in-Some.place c.in-Some.ensures

pub returns-in-Some-clause-other : goal.returns-in-Some-clause-other
returns-in-Some-clause-other c u f paths number w is less there other = agree_behind u f paths c.args.self.now is number w there c.args.point c.in-Some.place c.in-Some.ensures other

pub returns-in-None-clause-is : goal.returns-in-None-clause-is
returns-in-None-clause-is c = none_is c.args.self.now.blocks.places.items c.args.point c.in-None.ensures

pub returns-in-None-clause-other : goal.returns-in-None-clause-other
returns-in-None-clause-other c u f paths number w is less there other = absurd (never_none u f paths c.args.self.now is number w there c.args.point less c.in-None.ensures)
