use Rattle.std.proofs.Common.{◌≡◌, drop}
use Rattle.tsa_tree.specs.expressions.Shapes.{shapes}
use Rattle.tsa_print.specs.Canonical.{further}
use Rattle.tsa_print.specs.Sheets.{page_of, put}
use Rattle.tsa_print.proofs.attributes.put_further.Given as goal

abbrev pub invariant-each : goal.invariant-each
invariant-each l = put (page_of l.sheet) (further (shapes (drop l.arg-index l.args))) ≡ put (page_of l.fn.sheet) (further (shapes l.args))
