use Rattle.std.proofs.Common.{rules}
use Rattle.tsa_decl_declarators.proofs.TypeLaws.{type_fails, type_const, type_plain}
use Rattle.tsa_decl_declarators.proofs.types.specifier.Goals as goal

pub returns-in_err-base-clause-gives : goal.returns-in_err-base-clause-gives
returns-in_err-base-clause-gives c = search (rules, type_fails)

pub returns-then-consts-clause-gives : goal.returns-then-consts-clause-gives
returns-then-consts-clause-gives c = search (rules, type_const)

pub returns-clause-gives : goal.returns-clause-gives
returns-clause-gives c = search (rules, type_plain)
