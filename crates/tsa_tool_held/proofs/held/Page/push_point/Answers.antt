use Rattle.std.proofs.Common.{◌∙◌, ◌++◌, take, slice_index_or, sym, ap, subst, append_assoc}
use Rattle.std.proofs.lemmas.List.{take_more}
use Rattle.tsa_tool_held.specs.Held.{IsPathLine}
use Rattle.tsa_tool_held.specs.Pieces.{Pieces}
use Rattle.tsa_tool_held.proofs.Paging.{in_order}
use Rattle.tsa_tool_held.proofs.Pieces.{one_more}
use Rattle.tsa_tool_held.proofs.held.Page.push_point.Goals as goal

pub each-preserved : goal.each-preserved
each-preserved c a is inside =
    let order = c.args.self.now.order.now in
    let i = c.each.cap-index in
    let IsPiece = IsPathLine c.args.self.now.starts.now a c.args.point in
    let before = c.each.invariant a is inside in
    let now = c.in_ok-push_path.ensures a is inside (in_order a order is.order i _ c.each-test.true) in
    let more = one_more IsPiece (take i order) (slice_index_or order i _) before.0 now.0 before.1.0 now.1.0 in (
      before.0 ++ now.0,
      (
        subst (λ xs. Pieces IsPiece xs (before.0 ++ now.0)) (sym (take_more order i _ c.each-test.true)) more,
        now.1.1 ∙ ap (λ t. t ++ now.0) before.1.1 ∙ append_assoc c.args.text.now.items before.0 now.0,
      ),
    )
