use Rattle.std.proofs.Common.{◌∙◌, IfSome, sym, subst}
use Rattle.std.proofs.lemmas.Result.{IfOk-weaker}
use Rattle.tsa_tree.specs.expressions.Shapes.{shape}
use Rattle.tsa_tool_starts.proofs.Starting.{no_word, not_good}
use Rattle.tsa_tool_starts.specs.Units.{items_in}
use Rattle.tsa_tool_starts.specs.Words.{IsWordOf}
use Rattle.tsa_tool_starts.proofs.starter.Starter.start.Goals as goal

pub returns-in-Some-clause-bad : goal.returns-in-Some-clause-bad
returns-in-Some-clause-bad c =
    IfOk-weaker c.start_of.result _ _
    (λ start is none b. not_good (items_in c.args.self.now) c.args.self.now.places.now c.args.word.now (shape c.in-Some.expr) b
    (subst (λ found. IfSome found (λ e. IsWordOf c.args.word.now (shape e))) c.in-Some.is c.in_ok-expr.ensures.word) (sym is ∙ none))
    c.start_of.ensures

pub returns-clause-bad : goal.returns-clause-bad
returns-clause-bad c = λ none b. no_word (items_in c.args.self.now) c.args.self.now.places.now c.args.word.now b (c.in_ok-expr.ensures.none c.in-None.is)
