use Rattle.std.proofs.Common.{◌∙◌, rules, tests}
use Rattle.std.proofs.lemmas.Iterator.{YieldsList-from_slice}
use Rattle.std.proofs.lemmas.Iterator.Search.{any_from_yields_List}
use Rattle.tsa_tree.specs.types.Units.{is_capability}
use Rattle.tsa_types_scope.proofs.OutsetLaws.{any_marks}
use Rattle.tsa_types_scope.proofs.beginning.is_marked.Goals as goal

pub returns : goal.returns
returns c =
    let attrs = c.args.attrs.now in
    any_from_yields_List (λ a. is_capability a.kind) _ _ c.any.result c.any.ensures.ran (YieldsList-from_slice attrs cc) (λ x b q k. search (rules, tests)) ∙ any_marks attrs
