use Rattle.std.proofs.Common.{◌∙◌, sym}
use Rattle.tsa_expr.proofs.Answering.{gives_same}
use Rattle.tsa_decl.proofs.BodyLaws.{gives_failed}
use Rattle.tsa_decl.proofs.TagLaws.{enum_alias_unopened, enum_alias_bodied, enum_alias_named}
use Rattle.tsa_decl.proofs.items.enum_alias.Goals as goal

pub returns-in_err-opening-clause-gives : goal.returns-in_err-opening-clause-gives
returns-in_err-opening-clause-gives c =
    gives_failed _ _ _ _ c.from_residual.ensures.1 (enum_alias_unopened _ _ c.args.list.now.items c.args.at _ c.in_err-opening.ensures.gives)

pub returns-in-Some-clause-gives : goal.returns-in-Some-clause-gives
returns-in-Some-clause-gives c =
    gives_same _ _ _ _
    (enum_alias_named _ _ c.args.list.now.items c.args.at c.in_ok-opening.opening.tag c.in-Some.tag c.in_ok-opening.opening.next c.in_ok-opening.ensures.gives
    (sym c.used_tag.ensures ∙ c.in-Some.is))
    c.alias_of.ensures.gives

pub returns-clause-gives : goal.returns-clause-gives
returns-clause-gives c =
    gives_same _ _ _ _
    (enum_alias_bodied _ _ c.args.list.now.items c.args.at c.in_ok-opening.opening.start c.in_ok-opening.opening.tag c.in_ok-opening.opening.next
    c.in_ok-opening.ensures.gives (sym c.used_tag.ensures ∙ c.in_default.is) c.in_ok-opening.ensures.start)
    c.enumeration.ensures.gives
