use Rattle.tsa_tool_starts.proofs.starter.Starter.put_start.Goals as goal

pub returns-in-None-clause-bad : goal.returns-in-None-clause-bad
returns-in-None-clause-bad c = λ same. c.in_ok-start.ensures.bad c.in-None.is
