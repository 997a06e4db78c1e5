use Rattle.std.proofs.Common.{◌∙◌, [], ◌∷◌, ◌++◌, sym, ap}
use Rattle.std.proofs.Math.Seq.{drop-cons}
use Rattle.std.proofs.lemmas.List.{drop_all}
use Rattle.tsa_place_layout.proofs.GuardLists.{arguments_end, arguments_next}
use Rattle.tsa_place_layout.proofs.guards.add_paths.Goals as goal

pub each-preserved : goal.each-preserved
each-preserved c =
    arguments_next c.args.scope.now c.each.paths.items c.push.new.self.items c.args.args.now c.each.arg-index _ (drop-cons c.args.args.now c.each.arg-index _ c.each-test.true)
    (c.in_ok-push.ensures.items ∙ ap (λ p. c.each.paths.items ++ p ∷ []) c.in_ok-lock_path.ensures)
    ∙ c.each.invariant

pub returns : goal.returns
returns c = sym (arguments_end c.args.scope.now c.each.paths.items c.args.args.now c.each.arg-index (drop_all c.each.arg-index c.args.args.now c.each-test.false)) ∙ c.each.invariant
