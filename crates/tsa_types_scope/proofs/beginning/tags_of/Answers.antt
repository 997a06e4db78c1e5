use Rattle.std.proofs.Common.{◌∙◌, sym}
use Rattle.std.proofs.lemmas.List.{drop_all}
use Rattle.tsa_types_scope.proofs.OutsetLaws.{tags_end}
use Rattle.tsa_types_scope.proofs.beginning.tags_of.Goals as goal

pub returns : goal.returns
returns c = sym (tags_end c.each.tags c.each.number c.args.items.now c.each.item-index (drop_all c.each.item-index c.args.items.now c.each-test.false)) ∙ c.each.invariant
