use Rattle.std.proofs.Common.{subst}
use Rattle.tsa_tree.specs.units.Shapes.{item_shapes}
use Rattle.tsa_profile.specs.Judging.{unit_at}
use Rattle.tsa_rules_bodies.specs.Entering.{IsAt}
use Rattle.tsa_rules_bodies.specs.Sites.{site_of}
use Rattle.tsa_rules_bodies.proofs.Seeking.{is_found, none_found}
use Rattle.tsa_rules_bodies.proofs.search.site.Goals as goal

pub returns-in-Some : goal.returns-in-Some
returns-in-Some c =
    let u = unit_at c.args.ground.now in
    let o = site_of (item_shapes c.args.ground.now.items.now) c.args.function in
    let there = c.seek.new.known in
    is_found u c.args.function o there c.in-Some.inside (subst (IsAt u c.args.function o there) c.in-Some.is c.in_ok-inside.ensures)

pub returns : goal.returns
returns c =
    let u = unit_at c.args.ground.now in
    let o = site_of (item_shapes c.args.ground.now.items.now) c.args.function in
    let there = c.seek.new.known in
    none_found u c.args.function o there (subst (IsAt u c.args.function o there) c.in-None.is c.in_ok-inside.ensures)
