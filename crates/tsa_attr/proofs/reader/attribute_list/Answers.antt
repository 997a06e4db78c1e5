use Rattle.std.proofs.Common.{◌∙◌, sym}
use Rattle.tsa_attr.proofs.Groups.{bracketed_full}
use Rattle.tsa_attr.proofs.reader.attribute_list.Goals as goal

pub returns-clause-gives : goal.returns-clause-gives
returns-clause-gives c =
    bracketed_full _ _ c.args.list.now.items c.entries.new.list.items _ _ _ _ _ _ c.requires.there c.in_ok-outer.ensures.gives c.in_ok-outer.ensures.ends.0
    c.in_ok-inner.ensures.gives c.in_ok-inner.ensures.ends.0 (sym c.is_close_at.ensures ∙ c.if-is_close_at.false) c.in_ok-end.ensures.gives c.close-2.ensures.gives
