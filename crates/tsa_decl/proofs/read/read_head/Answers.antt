use Rattle.tsa_tree.specs.declarations.Answers.{a_head_alone}
use Rattle.tsa_decl.proofs.Exact.{found, broken, refused_out, refused_lacking, too_deep, no_other}
use Rattle.tsa_decl.proofs.read.read_head.Goals as goal

pub returns-clause-found : goal.returns-clause-found
returns-clause-found c = found a_head_alone _ _ _ _ _ c.head.ensures.gives

pub returns-clause-broken : goal.returns-clause-broken
returns-clause-broken c = broken a_head_alone _ _ _ _ _ c.head.ensures.gives

pub returns-clause-left_out : goal.returns-clause-left_out
returns-clause-left_out c = refused_out a_head_alone _ _ _ _ _ c.head.ensures.gives

pub returns-clause-lacking : goal.returns-clause-lacking
returns-clause-lacking c = refused_lacking a_head_alone _ _ _ _ _ c.head.ensures.gives

pub returns-clause-too_deep : goal.returns-clause-too_deep
returns-clause-too_deep c = too_deep a_head_alone _ _ _ _ _ c.head.ensures.gives

pub returns-clause-no_other : goal.returns-clause-no_other
returns-clause-no_other c = no_other a_head_alone _ _ _ _ _ c.head.ensures.gives
