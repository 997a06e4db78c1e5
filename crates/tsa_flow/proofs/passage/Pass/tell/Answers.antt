use Rattle.std.proofs.Common.{◌∙◌, ◌≡◌, None, Some, option_and_then, option_map, slice_get, sym, ap, subst}
use Rattle.tsa_tree.specs.types.FirstFailing.{first_failing}
use Rattle.tsa_tree.specs.units.Shapes.{item_shapes}
use Rattle.tsa_core.specs.Programs.{program_of}
use Rattle.tsa_rules_bodies.specs.Paths.{paths_if}
use Rattle.tsa_flow.specs.Units.{told_at}
use Rattle.tsa_flow.proofs.Passing.{is_body}
use Rattle.tsa_flow.proofs.passage.Pass.tell.Goals as goal

pub flow_in-requires : goal.flow_in-requires
flow_in-requires c =
    let items = item_shapes c.args.self.now.ground.items.now in
    let i = c.args.inside.now in
    let n = i.number in
    let flows = c.args.flows.now.items in
    let typed = c.args.self.now.ground.typed in
    let none = subst (λ fs. told_at fs n ≡ None) c.deref.ensures.value (c.has.ensures.no c.if-has.false) in
    let told = subst (λ b. option_and_then (paths_if (program_of (item_shapes b.now))) (slice_get (program_of (item_shapes b.now)).functions n) ≡ Some c.in-Some.paths.now) (c.args.self.now.fits ∙ sym c.args.self.now.judged)
    (sym c.paths.ensures ∙ ap (option_map (λ t. t.now)) c.in-Some.is) in
    record { stands = is_body items typed c.args.known.now i flows c.in-Some.paths.now none told c.requires.next }
