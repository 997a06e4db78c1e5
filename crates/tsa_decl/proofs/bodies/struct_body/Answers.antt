use Rattle.std.proofs.Common.{rules}
use Rattle.tsa_decl.proofs.BodyLaws.{body_unopened, body_memberless, body_unmarked, body_goes}
use Rattle.tsa_decl.proofs.bodies.struct_body.Goals as goal

pub returns-in_err-inside-clause-gives : goal.returns-in_err-inside-clause-gives
returns-in_err-inside-clause-gives c = search (rules, body_unopened)

pub returns-in_err-behind-clause-gives : goal.returns-in_err-behind-clause-gives
returns-in_err-behind-clause-gives c = search (rules, body_memberless)

pub returns-in_err-attrs-clause-gives : goal.returns-in_err-attrs-clause-gives
returns-in_err-attrs-clause-gives c = search (rules, body_unmarked)

pub returns-clause-gives : goal.returns-clause-gives
returns-clause-gives c = search (rules, body_goes)
