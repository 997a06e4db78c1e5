use Rattle.std.proofs.Common.{◌<◌, ◌∙◌, ◌++◌, ◌∷◌, [], length, ap, sym, arith}
use Rattle.tsa_warn_text.proofs.Gathering.{texts_more, no_gap}
use Rattle.tsa_warn_text.proofs.texts.texts_of_all.Goals.{in-Some+in_ok-new+in_ok-push, in_default}
use Rattle.tsa_warn_text.proofs.texts.texts_of_all.Goals as goal

pub each-preserved : goal.each-preserved
each-preserved g c = elim c.match-path.branch [
  | in-Some+in_ok-new+in_ok-push w ↦
      texts_more (g.N.PathNames.names c.args.names.now) c.args.paths.now c.each.number w.in-Some.path.now c.each.texts.items c.match-path.texts.items (sym w.in-Some.ensures) c.each.invariant
      (ap (λ v. v.items) w.texts-is ∙ w.in_ok-push.ensures.items ∙ ap (λ t. c.each.texts.items ++ t ∷ []) w.in_ok-new.ensures)
  | in_default w ↦ let within : c.each.number < length c.args.paths.now = omega arith in no_gap c.args.paths.now c.each.number within w.in_default.ensures
]
