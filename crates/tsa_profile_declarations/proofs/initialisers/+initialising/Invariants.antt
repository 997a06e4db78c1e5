use Rattle.std.proofs.Common.{◌≡◌, drop}
use Rattle.tsa_tree.specs.declarations.Shapes.{init_shapes}
use Rattle.tsa_profile_accesses.specs.Premises.{first}
use Rattle.tsa_profile_accesses.specs.NodeAnswers.{view_of}
use Rattle.tsa_profile_declarations.specs.Declarations.{item_premises}
use Rattle.tsa_profile_declarations.proofs.initialisers.+initialising.Given as goal

abbrev pub invariant-items_failure-each : goal.invariant-items_failure-each
invariant-items_failure-each l = first (item_premises (view_of l.body) (init_shapes (drop l.item-index l.items))) ≡ first (item_premises (view_of l.body) (init_shapes l.items))
