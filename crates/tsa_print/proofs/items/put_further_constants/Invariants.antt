use Rattle.std.proofs.Common.{◌≡◌, drop}
use Rattle.tsa_tree.specs.declarations.Shapes.{enumerator_shapes}
use Rattle.tsa_print.specs.DeclarationPieces.{further_constants}
use Rattle.tsa_print.specs.Sheets.{page_of, put}
use Rattle.tsa_print.proofs.items.put_further_constants.Given as goal

abbrev pub invariant-each : goal.invariant-each
invariant-each l = put (page_of l.sheet) (further_constants (enumerator_shapes (drop l.constant-index l.constants))) ≡ put (page_of l.fn.sheet) (further_constants (enumerator_shapes l.constants))
