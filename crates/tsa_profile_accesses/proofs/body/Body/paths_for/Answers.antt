use Rattle.std.proofs.Common.{◌∙◌, ◌∷◌, ◌++◌, [], arith, ap, sym}
use Rattle.std.proofs.Math.Seq.{drop-cons}
use Rattle.std.proofs.lemmas.List.{drop_all}
use Rattle.tsa_profile_accesses.proofs.Paths.{no_args, no_params, path_next}
use Rattle.tsa_profile_accesses.proofs.body.Body.paths_for.Goals as goal
use Rattle.tsa_profile_accesses.proofs.body.Body.paths_for.Goals.{then-each-test+else-number-args, else-each-test}

pub each-preserved : goal.each-preserved
each-preserved c =
    path_next _ _ c.each.paths.items c.push.new.self.items c.args.params.now c.args.args.now c.each.number _ _
    (drop-cons c.args.params.now c.each.number _ (omega arith)) (drop-cons c.args.args.now c.each.number _ (omega arith))
    (c.in_ok-push.ensures.items ∙ ap (λ p. c.each.paths.items ++ p ∷ []) c.in_ok-argument_path.ensures)
    ∙ c.each.invariant

pub returns : goal.returns
returns c = elim c.each-test.branch [
  | then-each-test+else-number-args w ↦
      sym (no_args _ _ c.each.paths.items c.args.params.now c.args.args.now c.each.number (drop_all c.each.number c.args.args.now w.if-number-args.false)) ∙ c.each.invariant
  | else-each-test w ↦
      sym (no_params _ _ c.each.paths.items c.args.params.now c.args.args.now c.each.number (drop_all c.each.number c.args.params.now w.each-test.false)) ∙ c.each.invariant
]
