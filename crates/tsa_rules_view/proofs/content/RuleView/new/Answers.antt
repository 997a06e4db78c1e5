use Rattle.std.proofs.Common.{◌∙◌, [], Some, option_map, sym, ap, subst}
use Rattle.tsa_tree.specs.units.Shapes.{item_shapes}
use Rattle.tsa_core.specs.Programs.{lock_kinds}
use Rattle.tsa_rules_bodies.specs.Units.{unit_of}
use Rattle.tsa_rules_view.specs.Kinds.{kinds_of}
use Rattle.tsa_rules_bodies.proofs.Laying.{laid}
use Rattle.tsa_rules_bodies.specs.Finding.{IsFound}
use Rattle.tsa_rules_bodies.specs.Sites.{site_of}
use Rattle.tsa_rules_view.proofs.HandedResults.{mapped}
use Rattle.tsa_rules_view.proofs.NewView.{few_there, locks_are, never_none, view_there}
use Rattle.tsa_rules_view.proofs.content.RuleView.new.Goals as goal

pub view_at-requires : goal.view_at-requires
view_at-requires c =
    let items = item_shapes c.args.unit.now.typed.unit.now.items.now in
    let n = c.args.function in
    let told = sym c.paths.ensures ∙ ap (option_map (λ t. t.now)) c.in-Some.is in
    let there = subst (λ t. IsFound (unit_of [] (item_shapes t.unit.now.items.now)) n (site_of (item_shapes t.unit.now.items.now) n) c.in_ok-site.field-0) c.typed.ensures c.in_ok-site.ensures in
    record {
      few =
          few_there items n c.args.unit.now.typed.typed c.in-Some.paths.now told _ c.in-Some-2.site c.args.unit.now.outside.items c.args.unit.now.profiled
          (c.layout-layout.ensures ∙ laid items c.args.places.now c.requires.placed)
          (subst (IsFound (unit_of [] items) n (site_of items n)) c.in-Some-2.is there);
    }

pub returns-in-Some-2 : goal.returns-in-Some-2
returns-in-Some-2 c =
    let items = item_shapes c.args.unit.now.typed.unit.now.items.now in
    let n = c.args.function in
    let told = sym c.paths.ensures ∙ ap (option_map (λ t. t.now)) c.in-Some.is in
    let there = subst (λ t. IsFound (unit_of [] (item_shapes t.unit.now.items.now)) n (site_of (item_shapes t.unit.now.items.now) n) c.in_ok-site.field-0) c.typed.ensures c.in_ok-site.ensures in
    mapped Some c.view_at.result c.map.result _ _ c.map.ensures.cases
    (λ v made.
    view_there items n c.args.unit.now.typed.typed c.in-Some.paths.now told c.layout-layout.result (kinds_of c.deref.result.now) c.in-Some-2.site v
    (c.layout-layout.ensures ∙ laid items c.args.places.now c.requires.placed)
    (ap kinds_of c.deref.ensures.value ∙ c.in_ok-kinds.ensures ∙ ap (λ t. lock_kinds (item_shapes t.now.items.now)) c.unit.ensures ∙ locks_are items)
    (subst (IsFound (unit_of [] items) n (site_of items n)) c.in-Some-2.is there)
    made)
    c.view_at.ensures

pub returns : goal.returns
returns c =
    let items = item_shapes c.args.unit.now.typed.unit.now.items.now in
    let n = c.args.function in
    let told = sym c.paths.ensures ∙ ap (option_map (λ t. t.now)) c.in-Some.is in
    let there = subst (λ t. IsFound (unit_of [] (item_shapes t.unit.now.items.now)) n (site_of (item_shapes t.unit.now.items.now) n) c.in_ok-site.field-0) c.typed.ensures c.in_ok-site.ensures in
    absurd (never_none items n c.args.unit.now.typed.typed c.in-Some.paths.now told (subst (IsFound (unit_of [] items) n (site_of items n)) c.in-None.is there))
