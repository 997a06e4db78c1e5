use Rattle.std.proofs.Common.{◌≡◌, drop}
use Rattle.tsa_tree.specs.units.Functions.{defined_among, functions_in}
use Rattle.tsa_tree.proofs.functions.definition.Given as goal

abbrev pub invariant-items : goal.invariant-items
invariant-items l =
    defined_among (functions_in l.items) l.first ≡ defined_among (functions_in (drop l.item-index l.items)) l.first
