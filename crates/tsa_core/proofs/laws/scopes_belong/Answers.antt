use Rattle.tsa_core.proofs.ScopesBelong.{scopes_belong}
use Rattle.tsa_core.proofs.laws.scopes_belong.Goals as goal

pub returns : goal.returns
returns c = scopes_belong
