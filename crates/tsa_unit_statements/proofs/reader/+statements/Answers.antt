use Rattle.std.proofs.Common.{rules, ◌∙◌, subst, sym}
use Rattle.tsa_unit_simple.specs.PointNumbers.{ArePointed}
use Rattle.tsa_expr.specs.Source.{input, named}
use Rattle.tsa_unit_statements.proofs.StatementLaws.{list_begins, list_goes, none_pointed, one_pointed}
use Rattle.tsa_unit_statements.proofs.reader.+statements.Goals as goal

pub statements-statements-init : goal.statements-statements-init
statements-statements-init t c = record {
  inside = search rules;
  gives = list_begins (input c.args.source.reader) (named c.args.source.reader) c.new-list.result.items c.args.depth c.args.at c.new-list.ensures.items;
  pointed =
      subst (λ new. ArePointed c.args.points.now.items new c.new-list.result.items) (sym c.allocator_of.ensures.same)
      (none_pointed c.args.points.now.items c.new-list.result.items c.new-list.ensures.items);
}

pub statements-statements-preserved : goal.statements-statements-preserved
statements-statements-preserved t c = record {
  inside = search rules;
  gives =
      c.statements.invariant.gives
      ∙ list_goes (input c.args.source.reader) (named c.args.source.reader) c.statements.list.items _ c.args.depth c.statements.next c.statement.result _ (search rules)
      (search rules) c.statement.ensures.gives c.in_ok-next-2.ensures.is;
  pointed =
      one_pointed c.args.points.now.items _ _ c.statements.list.items _ c.statement.result _ c.statements.invariant.pointed c.statement.ensures.pointed
      c.in_ok-next-2.ensures.is;
}
