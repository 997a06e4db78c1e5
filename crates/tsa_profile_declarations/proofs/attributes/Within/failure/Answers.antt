use Rattle.std.proofs.Common.{◌∙◌, sym}
use Rattle.std.proofs.Math.Seq.{drop-cons}
use Rattle.std.proofs.lemmas.List.{drop_all}
use Rattle.tsa_profile_accesses.specs.NodeAnswers.{view_of}
use Rattle.tsa_profile_declarations.proofs.EachAttribute.{attribute_passes, attribute_stops, attributes_begin, no_attribute}
use Rattle.tsa_profile_declarations.proofs.attributes.Within.failure.Goals as goal

pub each-init : goal.each-init
each-init c =
    attributes_begin (view_of c.args.self.body) c.args.self.has_body c.args.self.gives c.args.attrs.now _ _ c.new-before.ensures.tries c.new-before.ensures.paths

pub returns-in-Some : goal.returns-in-Some
returns-in-Some c =
    attribute_stops (view_of c.args.self.body) c.args.self.has_body c.args.self.gives c.args.attrs.now c.each.attr-index _ _ _ (drop-cons c.args.attrs.now c.each.attr-index _ c.each-test.true) c.in-Some.failure
    (sym c.in-Some.is ∙ c.in_ok-failure.ensures.failure)
    ∙ c.each.invariant

pub each-preserved : goal.each-preserved
each-preserved c =
    attribute_passes (view_of c.args.self.body) c.args.self.has_body c.args.self.gives c.args.attrs.now c.each.attr-index _ _ _ (drop-cons c.args.attrs.now c.each.attr-index _ c.each-test.true) _ _
    (sym c.in_default.is ∙ c.in_ok-failure.ensures.failure) (c.in_ok-failure.ensures.tries c.in_default.is) (c.in_ok-failure.ensures.paths c.in_default.is)
    ∙ c.each.invariant

pub returns : goal.returns
returns c =
    no_attribute (view_of c.args.self.body) c.args.self.has_body c.args.self.gives c.args.attrs.now c.each.attr-index _ _ (drop_all c.each.attr-index c.args.attrs.now c.each-test.false)
    ∙ c.each.invariant
