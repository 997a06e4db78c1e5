use Rattle.tsa_decl_declarators.proofs.DeclaredLaws.{suffix_goes, suffix_length, suffix_attributes, suffix_init}
use Rattle.std.proofs.Common.{rules}
use Rattle.tsa_decl_declarators.proofs.declarations.suffix_at.Goals as goal

pub returns-clause-gives : goal.returns-clause-gives
returns-clause-gives c =
    suffix_goes _ _ _ _ _ _ _ _ _ _ _ _ c.depth_of-depth.ensures.is c.in_ok-length.ensures.gives c.in_ok-attrs.ensures.gives
    c.in_ok-init.ensures.gives

pub returns-in_err-length-clause-gives : goal.returns-in_err-length-clause-gives
returns-in_err-length-clause-gives c = search (rules, suffix_length)

pub returns-in_err-attrs-clause-gives : goal.returns-in_err-attrs-clause-gives
returns-in_err-attrs-clause-gives c = search (rules, suffix_attributes)

pub returns-in_err-init-clause-gives : goal.returns-in_err-init-clause-gives
returns-in_err-init-clause-gives c = search (rules, suffix_init)
