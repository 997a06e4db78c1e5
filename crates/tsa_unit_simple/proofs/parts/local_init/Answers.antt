use Rattle.std.proofs.Common.{◌∙◌, ap, sym, option_copied}
use Rattle.tsa_unit_simple.proofs.PartLaws.{local_goes, local_seen, lone_none, lone_first}
use Rattle.tsa_unit_simple.proofs.parts.local_init.Goals as goal

-- src/parts.rt:99:9
pub returns-in_default-clause-gives : goal.returns-in_default-clause-gives
returns-in_default-clause-gives c =
    local_goes _ _ _ _ _ _ _ _ c.requires.there c.in_ok-decls.ensures.gives c.in_ok-next.ensures.gives
    (sym (lone_none _ (sym c.first.ensures.value ∙ ap option_copied c.in_default.is)))

-- src/parts.rt:77:1
pub returns-clause-gives : goal.returns-clause-gives
returns-clause-gives c =
    local_goes _ _ _ _ _ _ _ _ c.requires.there c.in_ok-decls.ensures.gives c.in_ok-next.ensures.gives
    (local_seen c.in_ok-stmt.stmt.now _ c.in_ok-stmt.ensures.is
    ∙ sym (lone_first _ _ (sym c.first.ensures.value ∙ ap option_copied c.in-Some.is)))
