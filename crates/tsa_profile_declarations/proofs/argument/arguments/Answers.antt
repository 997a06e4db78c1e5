use Rattle.std.proofs.Common.{◌∙◌, sym}
use Rattle.std.proofs.Math.Seq.{drop-cons}
use Rattle.std.proofs.lemmas.List.{drop_all}
use Rattle.tsa_profile_accesses.specs.NodeAnswers.{view_of}
use Rattle.tsa_profile_declarations.proofs.EachArgument.{argument_passes, argument_stops, name_passes, no_argument, no_name}
use Rattle.tsa_profile_declarations.proofs.argument.arguments.Goals as goal

pub returns-in-Some-clause-failure : goal.returns-in-Some-clause-failure
returns-in-Some-clause-failure c =
    argument_stops (view_of c.args.body) c.args.kind c.args.args.now c.each.arg-index _ c.each.paths (drop-cons c.args.args.now c.each.arg-index _ c.each-test.true) c.in-Some.failure (sym c.in-Some.is ∙ c.in_ok-failure.ensures.failure)
    ∙ c.each.invariant.fails

pub each-preserved : goal.each-preserved
each-preserved c =
    record {
      fails =
          argument_passes (view_of c.args.body) c.args.kind c.args.args.now c.each.arg-index _ c.each.paths (drop-cons c.args.args.now c.each.arg-index _ c.each-test.true) _ (sym c.in_default.is ∙ c.in_ok-failure.ensures.failure)
          (c.in_ok-failure.ensures.named c.in_default.is)
          ∙ c.each.invariant.fails;
      named =
          name_passes (view_of c.args.body) c.args.kind c.args.args.now c.each.arg-index _ c.each.paths (drop-cons c.args.args.now c.each.arg-index _ c.each-test.true) _ (c.in_ok-failure.ensures.named c.in_default.is)
          ∙ c.each.invariant.named;
    }

pub returns-clause-failure : goal.returns-clause-failure
returns-clause-failure c =
    no_argument (view_of c.args.body) c.args.kind c.args.args.now c.each.arg-index c.each.paths (drop_all c.each.arg-index c.args.args.now c.each-test.false) ∙ c.each.invariant.fails

pub returns-clause-named : goal.returns-clause-named
returns-clause-named c = λ none.
    no_name (view_of c.args.body) c.args.kind c.args.args.now c.each.arg-index c.each.paths (drop_all c.each.arg-index c.args.args.now c.each-test.false) ∙ c.each.invariant.named
