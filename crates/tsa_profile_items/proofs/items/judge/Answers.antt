use Rattle.std.proofs.Common.{◌∙◌, ap}
use Rattle.tsa_profile_context.specs.Judging.{outset_of, unit_at}
use Rattle.tsa_profile_items.proofs.AllItems.{tables_all}
use Rattle.tsa_profile_items.proofs.items.judge.Goals as goal

pub returns-clause-tables : goal.returns-clause-tables
returns-clause-tables c =
    let u = unit_at c.args.ground.now in
    c.into_tables.ensures ∙ ap (λ m. m.tables) c.in_ok-all.ensures.behind ∙ tables_all u (outset_of u) u.items
