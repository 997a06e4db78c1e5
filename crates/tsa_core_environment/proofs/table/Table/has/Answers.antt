use Rattle.std.proofs.Common.{◌∙◌, is_some, sym, ap}
use Rattle.tsa_core_environment.proofs.TableLists.{some_mapped}
use Rattle.tsa_core_environment.proofs.table.Table.has.Goals as goal

pub returns : goal.returns
returns c = c.is_some.ensures ∙ sym (some_mapped (λ v. v.now.items) c.find.result) ∙ ap is_some c.find.ensures
