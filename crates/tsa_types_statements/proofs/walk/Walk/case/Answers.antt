use Rattle.std.proofs.Common.{◌∙◌, refl}
use Rattle.tsa_tree.specs.types.Scopes.{context_of}
use Rattle.tsa_types_simple.proofs.CaseLaws.{case_is}
use Rattle.tsa_types_statements.proofs.walk.Walk.case.Goals as goal

pub returns-clause-judged : goal.returns-clause-judged
returns-clause-judged c =
    c.case_failure.ensures
    ∙ case_is (context_of c.args.self.now.scope) c.args.value.now c.args.around.now c.args.span (record { span = c.args.value.now.span; found = c.in_ok-found.found }) refl
    c.in_ok-found.ensures.judged
