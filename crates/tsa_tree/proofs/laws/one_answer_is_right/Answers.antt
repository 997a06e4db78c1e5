use Rattle.tsa_tree.specs.Rows as rows
use Rattle.tsa_tree.specs.Reads.{read}
use Rattle.tsa_tree.specs.expressions.Laws.{call_of}
use Rattle.tsa_tree.proofs.expressions.Answers.{read_answers, one_answer}
use Rattle.tsa_tree.proofs.laws.one_answer_is_right.Goals as goal

pub returns : goal.returns
returns c = λ tokens aliases p d a.
    let right = read_answers tokens aliases p d a in
    (read tokens rows.an_expression (call_of aliases p d) a, right, λ other h. one_answer tokens aliases p d a other _ h right)
