use Rattle.tsa_decl_declarators.proofs.LocalLaws.{variable_goes, variable_name, variable_length, variable_value}
use Rattle.std.proofs.Common.{rules}
use Rattle.tsa_decl_declarators.proofs.locals.variable.Goals as goal

pub returns-clause-gives : goal.returns-clause-gives
returns-clause-gives c =
    variable_goes _ _ _ _ _ _ _ _ _ _ _ _ c.over-span.result c.in_ok-declarator.ensures.gives c.in_ok-length.ensures.gives
    c.in_ok-value.ensures.gives c.in_ok-declarator.ensures.start c.declaration.ensures c.over-span.ensures

pub returns-in_err-declarator-clause-gives : goal.returns-in_err-declarator-clause-gives
returns-in_err-declarator-clause-gives c = search (rules, variable_name)

pub returns-in_err-length-clause-gives : goal.returns-in_err-length-clause-gives
returns-in_err-length-clause-gives c = search (rules, variable_length)

pub returns-in_err-value-clause-gives : goal.returns-in_err-value-clause-gives
returns-in_err-value-clause-gives c = search (rules, variable_value)
