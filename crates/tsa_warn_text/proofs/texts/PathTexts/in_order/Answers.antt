use Rattle.std.proofs.Common.{arith}
use Rattle.std.proofs.lemmas.List.FromFn.{length-range_with_len}
use Rattle.std.proofs.lemmas.List.Sorted.{length_permutation}
use Rattle.tsa_warn_text.specs.Ranks.{IsOrder, RanksArePlaces}
use Rattle.tsa_warn_text.proofs.Ranking.{places_are_ranks}
use Rattle.tsa_warn_text.proofs.Sorting.{order_is}
use Rattle.tsa_warn_text.proofs.texts.PathTexts.in_order.Goals as goal

pub invariant_of-result : goal.invariant_of-result
invariant_of-result c =
    let whole : IsOrder c.args.texts.items c.in_ok-order.order.items = order_is c.args.texts.items c.in_ok-order.order.items c.args.count c.requires c.in_ok-order.ensures.kept (rw c.deref.ensures.value at c.in_ok-order.ensures.ordered) in
    let placed : RanksArePlaces c.in_ok-order.order.items c.in_ok-ranks.ranks.items = rw c.deref-2.ensures.value at c.in_ok-ranks.ensures in
    (whole, places_are_ranks _ _ _ whole placed)

pub ranks_of-requires : goal.ranks_of-requires
ranks_of-requires c =
    let long = length-range_with_len 0 c.args.count in
    let moved = length_permutation _ _ c.in_ok-order.ensures.kept in
    omega (arith, c.deref-2.ensures.len)
