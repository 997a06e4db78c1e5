use Rattle.std.proofs.Common.{rules}
use Rattle.tsa_decl_declarators.proofs.TypeLaws.{struct_fails, struct_goes, enum_fails, enum_goes}
use Rattle.tsa_decl_declarators.proofs.types.keyword_base.Goals as goal

pub returns-in_err-tag-in-Struct-clause-gives : goal.returns-in_err-tag-in-Struct-clause-gives
returns-in_err-tag-in-Struct-clause-gives c = search (rules, struct_fails)

pub returns-in_err-tag-in-Enum-clause-gives : goal.returns-in_err-tag-in-Enum-clause-gives
returns-in_err-tag-in-Enum-clause-gives c = search (rules, enum_fails)

pub returns-in_ok-tag-in-Struct-clause-gives : goal.returns-in_ok-tag-in-Struct-clause-gives
returns-in_ok-tag-in-Struct-clause-gives c = search (rules, struct_goes)

pub returns-in_ok-tag-in-Enum-clause-gives : goal.returns-in_ok-tag-in-Enum-clause-gives
returns-in_ok-tag-in-Enum-clause-gives c = search (rules, enum_goes)
