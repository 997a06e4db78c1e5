use Rattle.std.proofs.Common.{◌∙◌, [], sym, ap}
use Rattle.std.specs.List.{list_any}
use Rattle.tsa_mean.specs.Starts.{binds_caller}
use Rattle.tsa_place_model.proofs.PlacedLaid.{placed_units_are_laid}
use Rattle.tsa_profile.specs.Units.{unit_of}
use Rattle.tsa_rules_bodies.specs.Sites.{site_of}
use Rattle.tsa_tool_starts.proofs.Starting.{found_at, not_found, without_body, where_it_binds, where_it_is_free}
use Rattle.tsa_tool_starts.specs.Starts.{begin_with}
use Rattle.tsa_tool_starts.specs.Units.{items_in}
use Rattle.tsa_tree.specs.expressions.Shapes.{shapes}
use Rattle.tsa_tool_starts.proofs.starter.Starter.start_with.Goals as goal

pub returns-in_default : goal.returns-in_default
returns-in_default c =
    let items = items_in c.args.self.now in
    sym (without_body items c.args.self.now.places.now (placed_units_are_laid items c.args.self.now.places.now c.args.self.now.placed) c.args.self.now.unit.now.typed.typed (shapes c.args.args.now) c.args.function
    (not_found (unit_of [] items) c.args.function (site_of items c.args.function) c.in_ok-site.field-0 c.in_ok-site.ensures c.in_default.is))

pub returns-then-any_binds : goal.returns-then-any_binds
returns-then-any_binds c =
    let items = items_in c.args.self.now in
    let s = found_at (unit_of [] items) c.args.function (site_of items c.args.function) c.in_ok-site.field-0 c.in-Some.site c.in_ok-site.ensures c.in-Some.is in
    sym (where_it_binds items c.args.self.now.places.now (placed_units_are_laid items c.args.self.now.places.now c.args.self.now.placed) c.args.self.now.unit.now.typed.typed (shapes c.args.args.now) c.args.function s.0 s.1.0 c.in-Some.site.known.attributes s.1.1 (ap (list_any (λ a. binds_caller a.kind)) (sym c.locks_of.ensures) ∙ sym c.any_binds.ensures ∙ c.if-any_binds.true))

pub returns : goal.returns
returns c =
    let items = items_in c.args.self.now in
    let s = found_at (unit_of [] items) c.args.function (site_of items c.args.function) c.in_ok-site.field-0 c.in-Some.site c.in_ok-site.ensures c.in-Some.is in
    c.begin_with.ensures
    ∙ ap (begin_with c.args.function) c.in_ok-arguments.ensures
    ∙ sym (where_it_is_free items c.args.self.now.places.now (placed_units_are_laid items c.args.self.now.places.now c.args.self.now.placed) c.args.self.now.unit.now.typed.typed (shapes c.args.args.now) c.args.function s.0 s.1.0 c.in-Some.site.known.attributes s.1.1 (ap (list_any (λ a. binds_caller a.kind)) (sym c.locks_of.ensures) ∙ sym c.any_binds.ensures ∙ c.if-any_binds.false))
