use Rattle.std.proofs.Common.{rules}
use Rattle.tsa_expr.proofs.Answering.{gives_same}
use Rattle.tsa_decl.proofs.BegunLaws.{leads_same, leads_without}
use Rattle.tsa_decl.proofs.ItemLaws.{item_struct, item_enum, item_typedef, item_other}
use Rattle.tsa_decl.proofs.items.begin_item.Goals as goal

pub returns-in-Keyword-Struct-clause-leads : goal.returns-in-Keyword-Struct-clause-leads
returns-in-Keyword-Struct-clause-leads c = λ bodies. leads_same _ _ _ _ _ (search (rules, item_struct)) (c.struct_item.ensures.leads bodies)

pub returns-in-Keyword-Enum-clause-leads : goal.returns-in-Keyword-Enum-clause-leads
returns-in-Keyword-Enum-clause-leads c = λ bodies. leads_same _ _ _ _ _ (search (rules, item_enum)) (c.enum_item.ensures.leads bodies)

pub returns-in-Keyword-Typedef-clause-leads : goal.returns-in-Keyword-Typedef-clause-leads
returns-in-Keyword-Typedef-clause-leads c = λ bodies. leads_without _ _ bodies _ _ _ _ c.without_head.ensures.cases (gives_same _ _ _ _ (search (rules, item_typedef)) c.typedef.ensures.gives)

pub returns-in_default-clause-leads : goal.returns-in_default-clause-leads
returns-in_default-clause-leads c = λ bodies. leads_same _ _ _ _ _ (search (rules, item_other)) (c.plain_item.ensures.leads bodies)
