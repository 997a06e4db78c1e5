use Rattle.std.proofs.Common.{◌∙◌, Some, sym, ap}
use Rattle.tsa_tree.proofs.declarations.Trees.{list_at}
use Rattle.tsa_place_model.specs.Places.{item_of}
use Rattle.tsa_place.proofs.ItemLists.{item_is}
use Rattle.tsa_place.proofs.filling.item_in.Goals as goal

pub returns-in-List : goal.returns-in-List
returns-in-List c =
    item_is c.item_at.result c.in-List.items.now c.args.number c.in-List.span c.item_at.ensures
    ∙ sym (ap (λ i. item_of (Some i) c.args.number) (list_at c.args.init.now c.in-List.items c.in-List.span c.in-List.is))
