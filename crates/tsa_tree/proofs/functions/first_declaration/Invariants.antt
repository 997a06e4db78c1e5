use Rattle.std.proofs.Common.{◌≡◌, slice_get, take, drop}
use Rattle.tsa_tree.specs.units.Functions.{firsts_behind, first_of, functions_in}
use Rattle.tsa_tree.proofs.functions.first_declaration.Given as goal

abbrev pub invariant-items : goal.invariant-items
invariant-items l =
    first_of l.items l.number ≡ slice_get (firsts_behind (functions_in (take l.at l.items)) (functions_in (drop l.at l.items))) l.left
