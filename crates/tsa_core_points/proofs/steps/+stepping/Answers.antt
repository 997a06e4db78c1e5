use Rattle.std.proofs.Common.{◌≡◌, ◌++◌, OnOk, map, subst, sym, ap, arith}
use Rattle.tsa_tree.proofs.statements.Trees.{tall, block_at}
use Rattle.tsa_core_points.specs.Steps.{step_shape, steps_of}
use Rattle.tsa_core_points.proofs.steps.+stepping.Goals as goal

pub put_steps-put_block-requires : goal.put_steps-put_block-requires
put_steps-put_block-requires t c = (omega (arith, ap tall (block_at c.args.stmt.now c.in-Block.items c.in-Block.is)), tt)

pub put_steps-returns-in-Block : goal.put_steps-returns-in-Block
put_steps-returns-in-Block t c =
    subst (λ xs. OnOk c.put_block.result (map step_shape c.put_block.new.steps.items ≡ map step_shape c.args.steps.now.items ++ xs))
    (sym (ap steps_of (block_at c.args.stmt.now c.in-Block.items c.in-Block.is)))
    c.put_block.ensures
