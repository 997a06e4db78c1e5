use Rattle.std.proofs.Common.{◌≡◌, ◌∙◌, OnOk, subst, sym, ap}
use Rattle.tsa_tree.specs.types.DeclaredTypes.{value_in}
use Rattle.tsa_tree.specs.types.Scopes.{context_of}
use Rattle.tsa_tree.specs.types.Targets.{cases_behind}
use Rattle.tsa_tree.proofs.statements.Trees.{block_at}
use Rattle.tsa_types_simple.proofs.TargetLaws.{cases_block}
use Rattle.tsa_types_simple.proofs.targets.+casing.Goals as goal

pub collect_cases-returns-in-Block : goal.collect_cases-returns-in-Block
collect_cases-returns-in-Block t c =
    let worth = value_in (context_of c.args.view.scope.now) in
    subst (λ x. OnOk c.collect_all_cases.result (c.collect_all_cases.new.cases ≡ x))
    (sym (ap (cases_behind worth c.args.cases.now) (block_at c.args.stmt.now c.in-Block.items c.in-Block.is) ∙ cases_block worth c.args.cases.now _ _))
    c.collect_all_cases.ensures
