use Rattle.std.proofs.Common.{subst}
use Rattle.std.proofs.lemmas.Result.{IfOk-weaker}
use Rattle.tsa_rules_view.specs.BodyViews.{IsWhole}
use Rattle.tsa_rules_view.proofs.ViewsOfFunctions.{few_noted, made}
use Rattle.tsa_rules_view.proofs.build.Unit.view.Goals as goal

pub whole-requires : goal.whole-requires
whole-requires c = record {
  few = few_noted c.args.self.now c.args.known.now c.args.inside.now c.args.paths.now c.in_ok-noted.noted c.in_ok-noted.ensures.noted c.requires.few;
}

pub returns-clause-view : goal.returns-clause-view
returns-clause-view c =
    let u = c.args.self.now in
    let i = c.args.inside.now in
    let noted = c.in_ok-noted.noted in
    IfOk-weaker c.whole.result _ _
    (λ v h. made u c.args.known.now i c.args.paths.now noted v c.in_ok-noted.ensures.noted (subst (λ k. IsWhole u k i noted v) c.in_ok-noted.ensures.known h)) c.whole.ensures
