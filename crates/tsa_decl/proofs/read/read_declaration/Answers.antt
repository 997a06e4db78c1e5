use Rattle.tsa_tree.specs.declarations.Answers.{an_item}
use Rattle.tsa_decl.proofs.Exact.{found, broken, refused_out, refused_lacking, too_deep, no_other}
use Rattle.tsa_decl.proofs.read.read_declaration.Goals as goal

pub returns-clause-found : goal.returns-clause-found
returns-clause-found c = found an_item _ _ _ _ _ c.read_items.ensures.gives

pub returns-clause-broken : goal.returns-clause-broken
returns-clause-broken c = broken an_item _ _ _ _ _ c.read_items.ensures.gives

pub returns-clause-left_out : goal.returns-clause-left_out
returns-clause-left_out c = refused_out an_item _ _ _ _ _ c.read_items.ensures.gives

pub returns-clause-lacking : goal.returns-clause-lacking
returns-clause-lacking c = refused_lacking an_item _ _ _ _ _ c.read_items.ensures.gives

pub returns-clause-too_deep : goal.returns-clause-too_deep
returns-clause-too_deep c = too_deep an_item _ _ _ _ _ c.read_items.ensures.gives

pub returns-clause-no_other : goal.returns-clause-no_other
returns-clause-no_other c = no_other an_item _ _ _ _ _ c.read_items.ensures.gives
