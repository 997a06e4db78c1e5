use Rattle.std.proofs.Common.{◌∙◌, ap, sym, true≢false}
use Rattle.tsa_rules.specs.Cases.{is_leaving_in}
use Rattle.tsa_flow_function.specs.RuleView.{RuleView}
use Rattle.tsa_flow_function.specs.Views.{case_in}
use Rattle.tsa_warn_function.proofs.Leaving.{leaves_there}
use Rattle.tsa_warn_function.proofs.Pathwise.{no_return}
use Rattle.tsa_warn_function.proofs.points.note_return.Goals as goal

pub returns-else-leaves : goal.returns-else-leaves
returns-else-leaves c u f paths is less =
    no_return u f paths c.args.point (λ x h. true≢false (sym (leaves_there u f paths c.args.flow.now.view is.view c.args.point x h)
    ∙ (ap (λ (v : RuleView). is_leaving_in (case_in v c.args.point x.cap).role) (sym c.view.ensures) ∙ (ap is_leaving_in (sym c.role.ensures.is) ∙ (sym c.leaves.ensures ∙ c.if-leaves.false)))))
    c.args.found.now.items
