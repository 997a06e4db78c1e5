use Rattle.std.proofs.Common.{◌∙◌, ◌++◌, ap, codes, append_assoc, slice_index_or}
use Rattle.std.specs.Fmt.{decimal}
use Rattle.tsa_sched.proofs.Threads.{all_on, one_on}
use Rattle.tsa_sched.proofs.watchers.put_threads.Goals as goal

pub each-preserved : goal.each-preserved
each-preserved c =
    let thread = slice_index_or c.args.threads.now c.each.thread-index 0 in
    one_on (λ t. codes " " ++ decimal t) c.args.threads.now c.each.thread-index 0 c.each.text.items c.put_number.new.text.items _ c.each-test.true
    (c.in_ok-put_number.ensures ∙ ap (λ k. c.extend_from_slice.new.self.items ++ decimal k) c.from.ensures
    ∙ ap (λ t. t ++ decimal thread) c.in_ok-extend_from_slice.ensures.items ∙ append_assoc c.each.text.items (codes " ") (decimal thread)) c.each.invariant

pub returns : goal.returns
returns c = all_on (λ t. codes " " ++ decimal t) c.args.threads.now c.each.thread-index c.each.text.items _ c.each-test.false c.each.invariant
