use Rattle.std.proofs.Common.{rules, ◌∙◌, sym, ap}
use Rattle.tsa_tree.specs.Rows.{is_attribute_sign}
use Rattle.tsa_expr.specs.Source.{input, named}
use Rattle.tsa_expr.proofs.Answering.{gives_same}
use Rattle.tsa_decl.proofs.BegunLaws.{leads_failed, leads_same, leads_without}
use Rattle.tsa_decl.proofs.TagLaws.{fresh_fails, fresh_goes, struct_unmarked, struct_tagless, struct_marked, struct_bodied, struct_named}
use Rattle.tsa_decl.proofs.items.struct_item.Goals as goal

pub returns-in_err-attrs-clause-leads : goal.returns-in_err-attrs-clause-leads
returns-in_err-attrs-clause-leads c =
    λ bodies.
    leads_failed _ _ _ _ _ c.from_residual.ensures.1
    (struct_unmarked _ _ bodies c.args.list.now.items c.args.at _ (fresh_fails _ _ _ c.new.ensures.items c.in_err-attrs.ensures.gives))

pub returns-in_err-tag-clause-leads : goal.returns-in_err-tag-clause-leads
returns-in_err-tag-clause-leads c =
    λ bodies.
    leads_failed _ _ _ _ _ c.from_residual-in_err-tag.ensures.1
    (struct_tagless _ _ bodies c.args.list.now.items c.args.at _ _ _ (fresh_goes _ _ _ c.new.ensures.items c.in_ok-attrs.ensures.gives) c.in_err-tag.ensures.gives)

pub returns-in_default-clause-leads : goal.returns-in_default-clause-leads
returns-in_default-clause-leads c =
    λ bodies.
    leads_same _ _ _ _ _
    (struct_named (input c.args.reader) (named c.args.reader) bodies c.args.list.now.items c.args.at _ _ _ _ (fresh_goes _ _ _ c.new.ensures.items c.in_ok-attrs.ensures.gives) c.in_ok-tag.ensures.gives
    (ap is_attribute_sign (sym c.sign.ensures.is) ∙ sym c.begins_group.ensures ∙ c.if-not-begins_group.true) (search rules) (search rules))
    (c.declared_of.ensures.leads bodies)

pub returns-clause-leads : goal.returns-clause-leads
returns-clause-leads c =
    λ bodies.
    leads_without _ _ bodies _ _ _ _ c.without_head-2.ensures.cases
    (gives_same _ _ _ _ (search (rules, struct_marked, struct_bodied, fresh_goes)) c.structure.ensures.gives)
