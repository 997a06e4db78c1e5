use Rattle.std.proofs.Common.{◌∙◌, ◌∷◌, [], ◌++◌, map, option_map, ap, sym}
use Rattle.std.proofs.lemmas.Result.{on_ok_weaker}
use Rattle.tsa_tree.specs.expressions.Shapes.{shape}
use Rattle.tsa_tree.specs.points.Syntax.{point_of_for}
use Rattle.tsa_tree.specs.statements.Shapes.{point_shape}
use Rattle.tsa_tree.specs.tokens.Signs.{span_at}
use Rattle.tsa_expr.specs.Source.{input}
use Rattle.tsa_unit_simple.proofs.MarkLaws.{loop_tested}
use Rattle.tsa_unit_heads.proofs.text.TextReader.mark_loop.Goals as goal

pub returns-clause-pointed : goal.returns-clause-pointed
returns-clause-pointed c =
    let old = c.args.points.now.items in
    let word = span_at (input c.args.self.reader) c.args.start in
    on_ok_weaker c.mark-2.result
    (λ h. loop_tested old c.mark-2.new.points.items word c.in-Some.tree h
    ∙ ap (λ t. map point_shape old ++ point_of_for word (option_map (λ x. shape x.now) t) ∷ []) (sym c.in-Some.is))
    c.mark-2.ensures.kept
