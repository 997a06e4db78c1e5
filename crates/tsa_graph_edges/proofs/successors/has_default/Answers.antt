use Rattle.std.proofs.Common.{◌∙◌, rules, tests}
use Rattle.std.proofs.lemmas.Iterator.{YieldsList-from_slice}
use Rattle.std.proofs.lemmas.Iterator.Search.{any_from_yields_List}
use Rattle.tsa_graph_edges.proofs.CaseLinks.{is_default, default_turned}
use Rattle.tsa_graph_edges.proofs.successors.has_default.Goals as goal

pub returns : goal.returns
returns c =
    any_from_yields_List is_default _ _ c.any.result c.any.ensures.ran (YieldsList-from_slice c.args.cases.now cc) (λ x b q k. search (rules, tests)) ∙ default_turned c.args.cases.now
