use mir.Syntax.{w32}
use mir.Val.{to_z, of_z}
use Rattle.std.proofs.Common.{◌≡◌, ◌∙◌, [], rules, sym, ap}
use Rattle.std.proofs.lemmas.Result.{on_ok_weaker}
use Rattle.tsa_tree.specs.declared.meaning.Symbol.TheVariants as symbol
use Rattle.tsa_types_row.specs.BodyRows.{bare_node, declared_row}
use Rattle.tsa_types_row.specs.Rows.{framed}
use Rattle.tsa_types_expressions.proofs.RowLaws.{noted, noted_append}
use Rattle.tsa_types_declarations.proofs.enumerators.put_enumerator.Goals as goal

pub returns : goal.returns
returns c =
    let z = c.args.worth in
    let same : to_z w32 (of_z w32 z) ≡ z = search rules in
    on_ok_weaker c.append.result
    (λ is.
    is ∙ ap (λ row. noted row c.args.inside.now)
    (c.in_ok-leaf.ensures.put
    ∙ ap (λ n. noted c.args.row.now (framed n [])) (c.bare_node.ensures ∙ ap (λ m. bare_node m.op m.span) c.new-name.ensures)
    ∙ ap (λ w. noted c.args.row.now (declared_row (symbol.Constant w) c.args.span)) same)
    ∙ sym (noted_append c.args.row.now (declared_row (symbol.Constant z) c.args.span) c.args.inside.now))
    c.append.ensures
