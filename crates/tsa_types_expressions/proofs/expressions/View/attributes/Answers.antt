use Rattle.std.proofs.Common.{◌∙◌, ◌+◌, ap, sym, drop}
use Rattle.std.proofs.Math.Seq.{drop-cons}
use Rattle.std.proofs.lemmas.List.{drop_all}
use Rattle.tsa_tree.specs.attributes.Syntax.{attr_shapes}
use Rattle.tsa_tree.specs.types.Attributes.{attributes_premises}
use Rattle.tsa_tree.specs.types.Premises.{or_else, first}
use Rattle.tsa_types_expressions.proofs.LockLaws.{attrs_end, attrs_next}
use Rattle.tsa_types_expressions.proofs.RowLaws.{attributes_end, attributes_next}
use Rattle.tsa_types_expressions.proofs.expressions.View.attributes.Goals as goal

pub each-preserved : goal.each-preserved
each-preserved c =
    let at_i = drop-cons c.args.attrs.now c.each.attr-index _ c.each-test.true in
    record {
      failure =
          ap (λ f. or_else f (first (attributes_premises c.args.self.scope.now c.args.bearer (attr_shapes (drop (c.each.attr-index + 1) c.args.attrs.now))))) c.first_of-failure.ensures
          ∙ attrs_next c.args.self.scope.now c.args.bearer c.each.failure c.args.attrs.now c.each.attr-index _ at_i c.in_ok-attribute.field-0 c.in_ok-attribute.ensures.judged ∙ c.each.invariant.failure;
      nodes = attributes_next c.args.self.scope.now c.args.self.function c.each.row c.args.attrs.now c.each.attr-index _ at_i c.attribute.new.row c.in_ok-attribute.ensures.nodes ∙ c.each.invariant.nodes;
    }

pub returns-clause-judged : goal.returns-clause-judged
returns-clause-judged c =
    sym (attrs_end c.args.self.scope.now c.args.bearer c.each.failure c.args.attrs.now c.each.attr-index (drop_all c.each.attr-index c.args.attrs.now c.each-test.false))
    ∙ c.each.invariant.failure

pub returns-clause-nodes : goal.returns-clause-nodes
returns-clause-nodes c =
    sym (attributes_end c.args.self.scope.now c.args.self.function c.each.row c.args.attrs.now c.each.attr-index
    (drop_all c.each.attr-index c.args.attrs.now c.each-test.false))
    ∙ c.each.invariant.nodes
