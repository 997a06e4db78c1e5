use Rattle.std.proofs.Common.{rules, ◌∙◌, sym}
use Rattle.tsa_expr.proofs.Answering.{gives_same}
use Rattle.tsa_decl.proofs.BegunLaws.{leads_failed, leads_same, leads_without}
use Rattle.tsa_decl.proofs.TagLaws.{enum_unopened, enum_bodied, enum_named}
use Rattle.tsa_decl.proofs.items.enum_item.Goals as goal

pub returns-in_err-opening-clause-leads : goal.returns-in_err-opening-clause-leads
returns-in_err-opening-clause-leads c =
    λ bodies.
    leads_failed _ _ _ _ _ c.from_residual.ensures.1
    (enum_unopened _ _ bodies c.args.list.now.items c.args.at _ c.in_err-opening.ensures.gives)

pub returns-in-Some-clause-leads : goal.returns-in-Some-clause-leads
returns-in-Some-clause-leads c =
    λ bodies.
    leads_same _ _ _ _ _
    (enum_named _ _ bodies c.args.list.now.items c.args.at c.in_ok-opening.opening.tag c.in-Some.tag c.in_ok-opening.opening.next c.in_ok-opening.ensures.gives
    (sym c.used_tag.ensures ∙ c.in-Some.is))
    (c.declared_of.ensures.leads bodies)

pub returns-clause-leads : goal.returns-clause-leads
returns-clause-leads c =
    λ bodies.
    leads_without _ _ bodies _ _ _ _ c.without_head.ensures.cases (gives_same _ _ _ _ (search (rules, enum_bodied)) c.enumeration.ensures.gives)
