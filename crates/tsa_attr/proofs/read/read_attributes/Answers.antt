use Rattle.tsa_attr.proofs.Exact.{found, broken, refused_out, refused_lacking, too_deep, no_other}
use Rattle.tsa_attr.proofs.read.read_attributes.Goals as goal

pub returns-clause-found : goal.returns-clause-found
returns-clause-found c = found _ _ _ _ _ _ c.read_groups.ensures.gives

pub returns-clause-broken : goal.returns-clause-broken
returns-clause-broken c = broken _ _ _ _ _ _ c.read_groups.ensures.gives

pub returns-clause-left_out : goal.returns-clause-left_out
returns-clause-left_out c = refused_out _ _ _ _ _ _ c.read_groups.ensures.gives

pub returns-clause-lacking : goal.returns-clause-lacking
returns-clause-lacking c = refused_lacking _ _ _ _ _ _ c.read_groups.ensures.gives

pub returns-clause-too_deep : goal.returns-clause-too_deep
returns-clause-too_deep c = too_deep _ _ _ _ _ _ c.read_groups.ensures.gives

pub returns-clause-no_other : goal.returns-clause-no_other
returns-clause-no_other c = no_other _ _ _ _ _ _ c.read_groups.ensures.gives
