use Rattle.tsa_rules.proofs.OneStatus as uniform
use Rattle.tsa_rules.proofs.laws.one_status_where_edges_agree.Goals as goal

pub returns : goal.returns
returns c = uniform.one_status_where_edges_agree
