use Rattle.tsa_decl_declarators.proofs.DeclaredLaws.{rest_goes, rest_suffix, rest_delimiter}
use Rattle.std.proofs.Common.{rules}
use Rattle.tsa_decl_declarators.proofs.declarations.declared_rest.Goals as goal

pub returns-clause-gives : goal.returns-clause-gives
returns-clause-gives c =
    rest_goes _ _ _ _ _ _ _ _ _ _ _ _ _ _ c.over-span.result c.in_ok-suffix.ensures.gives c.in_ok-goes_on.ensures.gives c.declaration.ensures
    c.over-span.ensures

pub returns-in_err-suffix-clause-gives : goal.returns-in_err-suffix-clause-gives
returns-in_err-suffix-clause-gives c = search (rules, rest_suffix)

pub returns-in_err-goes_on-clause-gives : goal.returns-in_err-goes_on-clause-gives
returns-in_err-goes_on-clause-gives c = search (rules, rest_delimiter)
