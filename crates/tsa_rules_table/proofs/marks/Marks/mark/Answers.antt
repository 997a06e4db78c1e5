use Rattle.std.proofs.Common.{◌∙◌, nat_eq, sym, ap}
use Rattle.std.specs.Map.{lookup}
use Rattle.std.specs.Option.{unwrap_or}
use Rattle.tsa_rules_table.proofs.Places.{mark_at}
use Rattle.tsa_rules.specs.Marks.{no_mark}
use Rattle.tsa_rules_table.specs.Rows.{mark_in}
use Rattle.tsa_rules_table.proofs.marks.Marks.mark.Goals as goal

pub returns : goal.returns
returns c =
    let entries = c.self.inside.marks.entries in
    c.unwrap_or.ensures
    ∙ ap (unwrap_or c.copied.result) c.none.ensures
    ∙ ap (λ m. unwrap_or m no_mark) (c.copied.ensures ∙ c.get.ensures.value ∙ ap (λ k. lookup (nat_eq k) entries) c.key_of-key.ensures)
    ∙ sym (mark_at c.self.inside.rows c.args.row c.args.number entries c.ranges.number.fits)
    ∙ ap (λ m. mark_in m c.args.row c.args.number) c.self.view_is
