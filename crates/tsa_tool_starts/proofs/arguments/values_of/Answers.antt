use Rattle.std.proofs.Common.{◌∙◌, sym}
use Rattle.tsa_profile.specs.Arguments.{view_with}
use Rattle.tsa_tool_starts.proofs.ArgumentLists.{all_seen, ends, goes_on, unequal}
use Rattle.tsa_tool_starts.proofs.arguments.values_of.Goals as goal

pub returns-then-params-args : goal.returns-then-params-args
returns-then-params-args c = λ attributes. sym (unequal (view_with attributes c.args.ending.layout.now c.args.ending.scope.now) c.args.params.now c.args.args.now c.if-params-args.true)

pub returns-in-None : goal.returns-in-None
returns-in-None c = λ attributes.
    sym (ends (view_with attributes c.args.ending.layout.now c.args.ending.scope.now) c.args.params.now c.args.args.now c.if-params-args.false c.each.number _ _ c.each-test.true
    c.each.values.items (sym (c.in_ok-value.ensures attributes) ∙ c.in-None.is) (c.each.invariant attributes))

pub each-preserved : goal.each-preserved
each-preserved c = λ attributes.
    goes_on (view_with attributes c.args.ending.layout.now c.args.ending.scope.now) c.args.params.now c.args.args.now c.if-params-args.false c.each.number _ _ c.each-test.true
    c.each.values.items c.push.new.self.items c.in-Some.value c.in_ok-push-in-Some.ensures.items (sym (c.in_ok-value.ensures attributes) ∙ c.in-Some.is) (c.each.invariant attributes)

pub returns : goal.returns
returns c = λ attributes.
    sym (all_seen (view_with attributes c.args.ending.layout.now c.args.ending.scope.now) c.each.values.items c.args.params.now c.args.args.now c.each.number c.if-params-args.false c.each-test.false (c.each.invariant attributes))
