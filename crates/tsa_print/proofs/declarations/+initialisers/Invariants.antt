use Rattle.std.proofs.Common.{◌≡◌, ◌+◌, ◌*◌, ◌≤◌, drop}
use Rattle.tsa_tree.specs.declarations.Shapes.{init_shape, init_shapes}
use Rattle.tsa_print.specs.DeclarationPieces.{further_pieces}
use Rattle.tsa_print.specs.Sheets.{page_of, put}
use Rattle.tsa_tree.proofs.declarations.Trees.{tall, talls}
use Rattle.tsa_print.proofs.declarations.+initialisers.Given as goal

abbrev pub decreases-put_initialiser : goal.decreases-put_initialiser
decreases-put_initialiser l = 4 * tall (init_shape l.init.now)

abbrev pub decreases-put_list : goal.decreases-put_list
decreases-put_list l = 4 * talls (init_shapes l.items.now) + 3

abbrev pub decreases-put_initialisers : goal.decreases-put_initialisers
decreases-put_initialisers l = 4 * talls (init_shapes l.items.now) + 2

abbrev pub decreases-put_further_initialisers : goal.decreases-put_further_initialisers
decreases-put_further_initialisers l = 4 * talls (init_shapes l.items.now) + 1

abbrev pub invariant-put_further_initialisers-each : goal.invariant-put_further_initialisers-each
invariant-put_further_initialisers-each l =
    record {
      page : put (page_of l.sheet) (further_pieces (init_shapes (drop l.init-index l.items))) ≡ put (page_of l.fn.sheet) (further_pieces (init_shapes l.items));
      low : talls (init_shapes (drop l.init-index l.items)) ≤ talls (init_shapes l.items);
    }
