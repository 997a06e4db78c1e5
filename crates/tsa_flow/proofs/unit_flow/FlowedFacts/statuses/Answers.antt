use Rattle.std.proofs.Common.{◌∙◌, option_map, slice_get, sym, ap}
use Rattle.tsa_tree.specs.units.Shapes.{item_shapes}
use Rattle.tsa_core.specs.Programs.{program_of}
use Rattle.tsa_flow.specs.Units.{told_at}
use Rattle.tsa_flow.proofs.Telling.{is_flow, never_none}
use Rattle.tsa_flow.proofs.unit_flow.FlowedFacts.statuses.Goals as goal

pub returns-in-Some : goal.returns-in-Some
returns-in-Some c hold f paths way there has inside at =
    let u = program_of (item_shapes c.args.self.now.fit.typed.unit.now.items.now) in
    let n = c.args.function in
    let told = sym c.function.ensures ∙ ap (option_map (λ w. w.now)) c.in-Some.is in
    c.statuses.ensures u f paths way (is_flow u f paths has (slice_get u.functions n) there (told_at c.args.self.now.flows.items n) (hold n) c.in-Some.flow.now told) inside at

pub returns-in-None : goal.returns-in-None
returns-in-None c hold f paths way there has inside at =
    let u = program_of (item_shapes c.args.self.now.fit.typed.unit.now.items.now) in
    let n = c.args.function in
    absurd (never_none u f paths has (slice_get u.functions n) there (told_at c.args.self.now.flows.items n) (hold n) (sym c.function.ensures ∙ ap (option_map (λ w. w.now)) c.in-None.is))
