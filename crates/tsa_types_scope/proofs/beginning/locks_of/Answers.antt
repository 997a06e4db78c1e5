use Rattle.std.proofs.Common.{◌≡◌, ◌∙◌, ◌∷◌, ◌++◌, [], suc, drop, sym, ap}
use Rattle.std.proofs.Math.Seq.{drop-cons}
use Rattle.std.proofs.lemmas.List.{drop_all}
use Rattle.tsa_types_scope.proofs.OutsetLaws.{locks_end, locks_next_structure, locks_next_other}
use Rattle.tsa_types_scope.proofs.beginning.locks_of.Goals as goal
use Rattle.tsa_types_scope.proofs.beginning.locks_of.Goals.{in-Structure+in_ok-push, in_default}

at : (c : goal.Joined-item) → drop c.each.item-index c.args.items.now ≡ c.item-item.result ∷ drop (suc c.each.item-index) c.args.items.now
at c =
    drop-cons c.args.items.now c.each.item-index c.item-item.result c.each-test.true
    ∙ ap (λ x. x ∷ drop (suc c.each.item-index) c.args.items.now) (sym c.item-item.is)

pub each-preserved : goal.each-preserved
each-preserved c = elim c.match-item.branch [
  | in-Structure+in_ok-push w ↦
      locks_next_structure c.each.locks.items c.args.items.now c.each.item-index c.item-item.result (at c) w.in-Structure.def w.in-Structure.is
      c.match-item.locks.items
      (ap (λ v. v.items) w.locks-is ∙ w.in_ok-push.ensures.items ∙ ap (λ b. c.each.locks.items ++ b ∷ []) w.is_marked.ensures)
      ∙ c.each.invariant
  | in_default w ↦
      locks_next_other c.each.locks.items c.args.items.now c.each.item-index c.item-item.result (at c) w.in_default.not-Structure c.match-item.locks.items
      (ap (λ v. v.items) w.locks-is)
      ∙ c.each.invariant
]

pub returns : goal.returns
returns c = sym (locks_end c.each.locks.items c.args.items.now c.each.item-index (drop_all c.each.item-index c.args.items.now c.each-test.false)) ∙ c.each.invariant
