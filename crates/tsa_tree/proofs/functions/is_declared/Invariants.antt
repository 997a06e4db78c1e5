use Rattle.std.proofs.Common.{◌≡◌, drop}
use Rattle.std.specs.List.{list_any}
use Rattle.tsa_tree.specs.units.Functions.{bears, functions_in}
use Rattle.tsa_tree.proofs.functions.is_declared.Given as goal

abbrev pub invariant-items : goal.invariant-items
invariant-items l =
    list_any (bears l.name) (functions_in l.items) ≡ list_any (bears l.name) (functions_in (drop l.item-index l.items))
