use Rattle.std.proofs.Common.{◌∙◌, Some, option_map, slice_get, sym, ap, subst}
use Rattle.tsa_tree.specs.units.Shapes.{item_shapes}
use Rattle.tsa_core.specs.Programs.{program_of}
use Rattle.tsa_flow_function.specs.Numbers.{IsFlowIn}
use Rattle.tsa_flow_function.specs.Views.{IsViewIn}
use Rattle.tsa_flow.proofs.Telling.{view_in}
use Rattle.tsa_flow.proofs.unit_flow.FlowedFacts.view.Goals as goal

pub returns-in-Some : goal.returns-in-Some
returns-in-Some c hold =
    let u = program_of (item_shapes c.args.self.now.fit.typed.unit.now.items.now) in
    let n = c.args.function in
    let told = sym c.function.ensures ∙ ap (option_map (λ w. w.now)) c.in-Some.is in
    subst (λ v. IsViewIn u (slice_get u.functions n) (Some v)) (sym c.view.ensures)
    (view_in u (slice_get u.functions n) (Some c.in-Some.flow.now) (subst (IsFlowIn u (slice_get u.functions n)) told (hold n)))
