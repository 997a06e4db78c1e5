use Rattle.std.proofs.Common.{◌∙◌, sym, ap}
use Rattle.std.proofs.Math.Seq.{drop-cons}
use Rattle.std.proofs.lemmas.List.{drop_all}
use Rattle.tsa_place_layout.proofs.GuardLists.{attributes_end, guards_next, others_next}
use Rattle.tsa_place_layout.proofs.guards.guard_paths.Goals as goal
use Rattle.tsa_place_layout.proofs.guards.guard_paths.Goals.{then-is_guard+in_ok-add_paths, else-is_guard}

pub each-preserved : goal.each-preserved
each-preserved c =
    let at_i = drop-cons c.args.attrs.now c.each.attr-index _ c.each-test.true in
    elim c.if-is_guard.branch [
      | then-is_guard+in_ok-add_paths w ↦
          guards_next c.args.scope.now c.each.paths.items c.if-is_guard.paths.items c.args.attrs.now c.each.attr-index _ at_i (sym c.is_guard.ensures ∙ w.if-is_guard.true)
          (ap (λ v. v.items) w.paths-is ∙ w.in_ok-add_paths.ensures)
          ∙ c.each.invariant
      | else-is_guard w ↦
          others_next c.args.scope.now c.each.paths.items c.if-is_guard.paths.items c.args.attrs.now c.each.attr-index _ at_i (sym c.is_guard.ensures ∙ w.if-is_guard.false)
          (ap (λ v. v.items) w.paths-is)
          ∙ c.each.invariant
    ]

pub returns : goal.returns
returns c = sym (attributes_end c.args.scope.now c.each.paths.items c.args.attrs.now c.each.attr-index (drop_all c.each.attr-index c.args.attrs.now c.each-test.false)) ∙ c.each.invariant
