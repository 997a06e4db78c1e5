use Rattle.tsa_expr.proofs.Answering.{gives_same}
use Rattle.tsa_decl.proofs.HeadLaws.{head_same, head_fails, head_unnamed}
use Rattle.std.proofs.Common.{rules}
use Rattle.tsa_decl.proofs.heads.head.Goals as goal

pub returns-clause-gives : goal.returns-clause-gives
returns-clause-gives c =
    gives_same _ _ _ _
    (head_same _ _ c.args.at c.behind_storage-start.result _ _ _ _ c.behind_storage-start.ensures.is c.in_ok-specified.ensures.gives
    c.in_ok-declarator.ensures.gives)
    c.head_behind.ensures.gives

pub returns-in_err-specified-clause-gives : goal.returns-in_err-specified-clause-gives
returns-in_err-specified-clause-gives c = search (rules, head_fails)

pub returns-in_err-declarator-clause-gives : goal.returns-in_err-declarator-clause-gives
returns-in_err-declarator-clause-gives c = search (rules, head_unnamed)
