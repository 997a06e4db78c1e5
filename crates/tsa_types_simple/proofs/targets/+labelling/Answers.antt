use Rattle.std.proofs.Common.{◌≡◌, ◌∙◌, OnOk, subst, sym, ap}
use Rattle.tsa_tree.specs.types.Targets.{labels_behind}
use Rattle.tsa_tree.proofs.statements.Trees.{block_at}
use Rattle.tsa_types_simple.proofs.TargetLaws.{labels_block}
use Rattle.tsa_types_simple.proofs.targets.+labelling.Goals as goal

pub collect_labels-returns-in-Block : goal.collect_labels-returns-in-Block
collect_labels-returns-in-Block t c =
    subst (λ x. OnOk c.collect_all_labels.result (c.collect_all_labels.new.labels ≡ x))
    (sym (ap (labels_behind c.args.labels.now) (block_at c.args.stmt.now c.in-Block.items c.in-Block.is) ∙ labels_block c.args.labels.now _ _))
    c.collect_all_labels.ensures
