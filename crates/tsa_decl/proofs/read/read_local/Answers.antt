use Rattle.tsa_tree.specs.declarations.Answers.{some_locals}
use Rattle.tsa_decl.proofs.Exact.{found, broken, refused_out, refused_lacking, too_deep, no_other}
use Rattle.tsa_decl.proofs.read.read_local.Goals as goal

pub returns-clause-found : goal.returns-clause-found
returns-clause-found c = found (some_locals c.args.single c.args.depth) _ _ _ _ _ c.read_locals.ensures.gives

pub returns-clause-broken : goal.returns-clause-broken
returns-clause-broken c = broken (some_locals c.args.single c.args.depth) _ _ _ _ _ c.read_locals.ensures.gives

pub returns-clause-left_out : goal.returns-clause-left_out
returns-clause-left_out c = refused_out (some_locals c.args.single c.args.depth) _ _ _ _ _ c.read_locals.ensures.gives

pub returns-clause-lacking : goal.returns-clause-lacking
returns-clause-lacking c = refused_lacking (some_locals c.args.single c.args.depth) _ _ _ _ _ c.read_locals.ensures.gives

pub returns-clause-too_deep : goal.returns-clause-too_deep
returns-clause-too_deep c = too_deep (some_locals c.args.single c.args.depth) _ _ _ _ _ c.read_locals.ensures.gives

pub returns-clause-no_other : goal.returns-clause-no_other
returns-clause-no_other c = no_other (some_locals c.args.single c.args.depth) _ _ _ _ _ c.read_locals.ensures.gives
