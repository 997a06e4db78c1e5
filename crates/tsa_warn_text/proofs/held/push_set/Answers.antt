use Rattle.std.proofs.Common.{◌∙◌, sym, true≢false, arith}
use Rattle.tsa_warn_text.proofs.HeldWords.{none_told, one_more_told, no_more_told}
use Rattle.tsa_warn_text.proofs.held.push_set.Goals as goal
use Rattle.tsa_warn_text.proofs.held.push_set.Goals.{then-has+in_ok-extend_from_slice+in_ok-push_word, else-has}

pub numbers-init : goal.numbers-init
numbers-init c = none_told _ _ _

pub numbers-preserved : goal.numbers-preserved
numbers-preserved c =
    elim c.if-has.branch [
      | then-has+in_ok-extend_from_slice+in_ok-push_word w ↦
          rw (w.text-is, w.bar-is)
          (one_more_told _ _ _ _ _ _ _ _ _ c.of_number-status.ensures (c.has.ensures.0 w.if-has.true) c.numbers.invariant
          w.in_ok-extend_from_slice.ensures.items w.in_ok-push_word.ensures)
      | else-has w ↦
          rw (w.text-is, w.bar-is)
          (no_more_told _ _ _ _ _ _ _ c.of_number-status.ensures (omega arith)
          (λ has. true≢false (sym (c.has.ensures.1 has) ∙ w.if-has.false)) c.numbers.invariant)
    ]
