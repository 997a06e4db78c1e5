use Rattle.tsa_base.proofs.PlacesLemmas.{starts-zero, starts-other, starts-end}
use Rattle.tsa_base.proofs.places.line_starts.Goals as goal
use Rattle.tsa_base.proofs.places.line_starts.Goals.{then-c-eq10+in_ok-push-2, else-c-eq10}

pub bytes-init : goal.bytes-init
bytes-init c = rw (c.in_ok-push.ensures.items, c.new-starts.ensures.items) (starts-zero _)

pub bytes-preserved : goal.bytes-preserved
bytes-preserved c =
    elim c.if-c-eq10.branch [
      | then-c-eq10+in_ok-push-2 w ↦ rw (w.starts-is, w.in_ok-push-2.ensures.items) (starts-end _ _ _ c.bytes-test.true w.if-c-eq10.true c.bytes.invariant)
      | else-c-eq10 w ↦ rw w.starts-is (starts-other _ _ _ c.bytes-test.true w.if-c-eq10.false c.bytes.invariant)
    ]
