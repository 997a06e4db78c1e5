use Rattle.std.proofs.Common.{◌∙◌, sym}
use Rattle.std.proofs.Math.Seq.{drop-cons}
use Rattle.std.proofs.lemmas.List.{drop_all}
use Rattle.tsa_profile_accesses.specs.NodeAnswers.{view_of}
use Rattle.tsa_profile_declarations.proofs.EachAttribute.{guard_passes, guard_stops, no_guard}
use Rattle.tsa_profile_declarations.proofs.attributes.guards_failure.Goals as goal

pub returns-in-Some : goal.returns-in-Some
returns-in-Some c =
    guard_stops (view_of c.args.body) c.args.attrs.now c.each.attr-index _ (drop-cons c.args.attrs.now c.each.attr-index _ c.each-test.true) c.in-Some.failure (sym c.in-Some.is ∙ c.in_ok-failure.ensures) ∙ c.each.invariant

pub each-preserved : goal.each-preserved
each-preserved c =
    guard_passes (view_of c.args.body) c.args.attrs.now c.each.attr-index _ (drop-cons c.args.attrs.now c.each.attr-index _ c.each-test.true) (sym c.in_default.is ∙ c.in_ok-failure.ensures) ∙ c.each.invariant

pub returns : goal.returns
returns c = no_guard (view_of c.args.body) c.args.attrs.now c.each.attr-index (drop_all c.each.attr-index c.args.attrs.now c.each-test.false) ∙ c.each.invariant
