use Rattle.std.proofs.Common.{◌∙◌, Some, option_map, slice_get, sym, ap}
use Rattle.tsa_core.proofs.MappedLists.{map_at}
use Rattle.tsa_rules_table.proofs.Apart.{only_there, placed}
use Rattle.tsa_rules_table.proofs.marks.Marks.entry.Goals as goal

pub returns-clause-is : goal.returns-clause-is
returns-clause-is c =
    ap Some c.entry_at.ensures
    ∙ ap (option_map placed) (c.in_ok-key.ensures.entry ∙ ap (λ es. slice_get es c.args.at) c.as_slice.ensures.entries)
    ∙ sym (map_at placed c.self.inside.marks.entries c.args.at)
    ∙ ap (λ m. slice_get m.marks c.args.at) c.self.view_is

pub returns-clause-only : goal.returns-clause-only
returns-clause-only c i m e =
    let found = c.in_ok-key.ensures.entry ∙ ap (λ es. slice_get es c.args.at) c.as_slice.ensures.entries in
    only_there c.self.inside.marks.entries c.args.at i (c.in_ok-key.key.now, c.in_ok-key.mark.now) (c.entry_at.result.row, c.entry_at.result.number) m c.as_slice.ensures.unique (sym found)
    (ap (λ x. x.0) c.entry_at.ensures) (ap (λ r. slice_get r.marks i) c.self.view_is ∙ e)
