use Rattle.std.proofs.Common.{◌∙◌, ◌+◌, ap, sym, drop}
use Rattle.std.proofs.Math.Seq.{drop-cons}
use Rattle.std.proofs.lemmas.List.{drop_all}
use Rattle.tsa_tree.specs.expressions.Shapes.{shapes}
use Rattle.tsa_tree.specs.types.Attributes.{lock_premises}
use Rattle.tsa_tree.specs.types.Premises.{or_else, first}
use Rattle.tsa_types_expressions.proofs.LockLaws.{locks_end, locks_next}
use Rattle.tsa_types_expressions.proofs.RowLaws.{asides_end, asides_next}
use Rattle.tsa_types_expressions.proofs.expressions.View.locks.Goals as goal

pub each-preserved : goal.each-preserved
each-preserved c =
    let at_i = drop-cons c.args.args.now c.each.arg-index _ c.each-test.true in
    record {
      failure =
          ap (λ f. or_else f (first (lock_premises c.args.self.scope.now (shapes (drop (c.each.arg-index + 1) c.args.args.now))))) c.first_of-failure.ensures
          ∙ locks_next c.args.self.scope.now c.each.failure c.args.args.now c.each.arg-index _ at_i c.in_ok-argument.field-0 c.in_ok-argument.ensures.judged ∙ c.each.invariant.failure;
      nodes = asides_next c.args.self.scope.now c.args.self.function c.each.row c.args.args.now c.each.arg-index _ at_i c.argument.new.row c.in_ok-argument.ensures.nodes ∙ c.each.invariant.nodes;
    }

pub returns-clause-judged : goal.returns-clause-judged
returns-clause-judged c =
    sym (locks_end c.args.self.scope.now c.each.failure c.args.args.now c.each.arg-index (drop_all c.each.arg-index c.args.args.now c.each-test.false))
    ∙ c.each.invariant.failure

pub returns-clause-nodes : goal.returns-clause-nodes
returns-clause-nodes c =
    sym (asides_end c.args.self.scope.now c.args.self.function c.each.row c.args.args.now c.each.arg-index
    (drop_all c.each.arg-index c.args.args.now c.each-test.false))
    ∙ c.each.invariant.nodes
