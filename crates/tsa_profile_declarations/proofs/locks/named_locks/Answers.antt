use Rattle.std.proofs.Common.{◌∙◌, sym}
use Rattle.std.proofs.Math.Seq.{drop-cons}
use Rattle.std.proofs.lemmas.List.{drop_all}
use Rattle.tsa_place_model.specs.LockPaths.{stable_in}
use Rattle.tsa_profile_declarations.proofs.EachLock.{attribute_next, no_attribute}
use Rattle.tsa_profile_declarations.proofs.locks.named_locks.Goals as goal

pub each-preserved : goal.each-preserved
each-preserved c =
    attribute_next (stable_in c.args.sight.stable.now) c.args.sight.scope.now c.args.attrs.now c.each.attr-index c.each.locks.items _ _ (drop-cons c.args.attrs.now c.each.attr-index _ c.each-test.true) c.in_ok-add_locks.ensures
    ∙ c.each.invariant

pub returns : goal.returns
returns c =
    sym (no_attribute (stable_in c.args.sight.stable.now) c.args.sight.scope.now c.args.attrs.now c.each.attr-index c.each.locks.items
    (drop_all c.each.attr-index c.args.attrs.now c.each-test.false))
    ∙ c.each.invariant
