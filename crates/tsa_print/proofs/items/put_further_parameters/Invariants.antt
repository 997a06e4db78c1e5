use Rattle.std.proofs.Common.{◌≡◌, drop}
use Rattle.tsa_tree.specs.declarations.Shapes.{param_shapes}
use Rattle.tsa_print.specs.DeclarationPieces.{further_parameters}
use Rattle.tsa_print.specs.Sheets.{page_of, put}
use Rattle.tsa_print.proofs.items.put_further_parameters.Given as goal

abbrev pub invariant-each : goal.invariant-each
invariant-each l = put (page_of l.sheet) (further_parameters (param_shapes (drop l.param-index l.params))) ≡ put (page_of l.fn.sheet) (further_parameters (param_shapes l.params))
