use Rattle.std.proofs.Common.{◌∙◌, sym, ap}
use Rattle.tsa_tree.specs.types.Targets.{default_in}
use Rattle.tsa_tree.proofs.statements.Trees.{block_at}
use Rattle.tsa_types_simple.proofs.TargetLaws.{default_block}
use Rattle.tsa_types_simple.proofs.targets.+defaulting.Goals as goal

pub first_default-returns-in-Block : goal.first_default-returns-in-Block
first_default-returns-in-Block t c =
    c.first_of_defaults.ensures
    ∙ sym (ap default_in (block_at c.args.stmt.now c.in-Block.items c.in-Block.is) ∙ default_block _ _)
