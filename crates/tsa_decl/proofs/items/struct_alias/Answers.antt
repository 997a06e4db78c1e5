use Rattle.std.proofs.Common.{◌∙◌, sym, ap, rules}
use Rattle.tsa_tree.specs.Rows.{is_attribute_sign}
use Rattle.tsa_expr.proofs.Answering.{gives_same}
use Rattle.tsa_decl.proofs.BodyLaws.{gives_failed}
use Rattle.tsa_decl.proofs.TagLaws.{fresh_fails, fresh_goes, struct_alias_unmarked, struct_alias_unopened, struct_alias_named}
use Rattle.tsa_decl.proofs.TagLaws.{struct_alias_marked, struct_alias_bodied}
use Rattle.tsa_decl.proofs.items.struct_alias.Goals as goal

pub returns-in_err-attrs-clause-gives : goal.returns-in_err-attrs-clause-gives
returns-in_err-attrs-clause-gives c =
    gives_failed _ _ _ _ c.from_residual.ensures.1
    (struct_alias_unmarked _ _ c.args.list.now.items c.args.at _ (fresh_fails _ _ _ c.new.ensures.items c.in_err-attrs.ensures.gives))

pub returns-in_err-opening-clause-gives : goal.returns-in_err-opening-clause-gives
returns-in_err-opening-clause-gives c =
    gives_failed _ _ _ _ c.from_residual-in_err-opening.ensures.1
    (struct_alias_unopened _ _ c.args.list.now.items c.args.at _ _ _ (fresh_goes _ _ _ c.new.ensures.items c.in_ok-attrs.ensures.gives) c.in_err-opening.ensures.gives)

pub returns-in-Some-clause-gives : goal.returns-in-Some-clause-gives
returns-in-Some-clause-gives c =
    gives_same _ _ _ _
    (struct_alias_named _ _ c.args.list.now.items c.args.at _ _ c.in_ok-opening.opening.tag c.in-Some.tag c.in_ok-opening.opening.next
    (fresh_goes _ _ _ c.new.ensures.items c.in_ok-attrs.ensures.gives) c.in_ok-opening.ensures.gives
    (ap is_attribute_sign (sym c.sign.ensures.is) ∙ sym c.begins_group.ensures ∙ c.if-not-begins_group.true) (sym c.used_tag.ensures ∙ c.in-Some.is))
    c.alias_of.ensures.gives

pub returns-clause-gives : goal.returns-clause-gives
returns-clause-gives c = gives_same _ _ _ _ (search (rules, struct_alias_marked, struct_alias_bodied, fresh_goes)) c.structure.ensures.gives
