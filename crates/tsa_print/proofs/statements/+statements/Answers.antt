use Rattle.std.proofs.Common.{◌≡◌, OnOk, refl, sym, ap, subst, ◌∙◌, arith}
use Rattle.std.proofs.lemmas.List.{drop_more}
use Rattle.tsa_tree.specs.statements.Shapes.{stmt_shapes}
use Rattle.tsa_print.specs.declared.mark.Mark.TheVariants as marks
use Rattle.tsa_print.specs.UnitPieces.{statement_pieces, statements_pieces}
use Rattle.tsa_print.specs.Sheets.{page_of, put}
use Rattle.tsa_print.proofs.Steps.{put_element}
use Rattle.tsa_tree.proofs.statements.Trees.{tall, talls, shape_of, block_at}
use Rattle.tsa_print.proofs.statements.+statements.Goals as goal

pub put_statement-put_block-requires : goal.put_statement-put_block-requires
put_statement-put_block-requires t c = (omega (arith, ap tall (block_at c.args.stmt.now c.in-Block.items c.in-Block.is)), tt)

pub put_statement-returns-in-Block : goal.put_statement-returns-in-Block
put_statement-returns-in-Block t c =
    subst (λ ps. OnOk c.put_block.result (page_of c.put_block.new.sheet ≡ put (page_of c.args.sheet.now) ps))
    (sym (ap (statement_pieces c.args.closing) (block_at c.args.stmt.now c.in-Block.items c.in-Block.is)))
    c.put_block.ensures

pub put_statements-each-preserved : goal.put_statements-each-preserved
put_statements-each-preserved t c =
    let at = drop_more c.args.items.now c.each.stmt-index _ c.each-test.true in
    record {
      page =
          put_element (λ xs. statements_pieces (stmt_shapes xs)) (λ x. statement_pieces marks.CloseBlock (shape_of x)) (λ x xs. refl) (page_of c.each.sheet) _ _ _ _ at
          c.in_ok-put_statement.ensures
          ∙ c.each.invariant.page;
      low = omega (arith, ap (λ xs. talls (stmt_shapes xs)) at, c.each.invariant.low);
    }
