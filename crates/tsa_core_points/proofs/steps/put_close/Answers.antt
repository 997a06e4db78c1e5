use Rattle.tsa_core_points.proofs.steps.put_close.Goals as goal

pub returns : goal.returns
returns c = c.put.ensures
