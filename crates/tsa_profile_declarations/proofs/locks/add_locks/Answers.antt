use Rattle.std.proofs.Common.{◌∙◌, ◌∷◌, ◌++◌, [], sym, ap}
use Rattle.std.proofs.Math.Seq.{drop-cons}
use Rattle.std.proofs.lemmas.List.{drop_all}
use Rattle.tsa_tree.specs.attributes.Syntax.{attr_shape}
use Rattle.tsa_place_model.specs.LockPaths.{stable_in}
use Rattle.tsa_profile_declarations.proofs.EachLock.{lock_next, no_lock}
use Rattle.tsa_profile_declarations.proofs.locks.add_locks.Goals as goal

pub each-preserved : goal.each-preserved
each-preserved c =
    let args = c.args.attr.now.args.now in
    lock_next (stable_in c.args.sight.stable.now) c.args.sight.scope.now (attr_shape c.args.attr.now) args c.each.arg-index c.each.locks.items _ _ (drop-cons args c.each.arg-index _ c.each-test.true)
    (c.in_ok-push.ensures.items ∙ ap (λ lock. c.each.locks.items ++ lock ∷ []) c.in_ok-named_lock.ensures)
    ∙ c.each.invariant

pub returns : goal.returns
returns c =
    let args = c.args.attr.now.args.now in
    sym (no_lock (stable_in c.args.sight.stable.now) c.args.sight.scope.now (attr_shape c.args.attr.now) args c.each.arg-index c.each.locks.items (drop_all c.each.arg-index args c.each-test.false))
    ∙ c.each.invariant
