use Rattle.std.proofs.Common.{[], refl, slice_get, subst}
use Rattle.tsa_tree.specs.units.Shapes.{item_shapes}
use Rattle.tsa_core.specs.Programs.{program_of}
use Rattle.tsa_profile.specs.Units.{unit_of}
use Rattle.tsa_rules_bodies.specs.Finding.{IsFound}
use Rattle.tsa_rules_bodies.specs.Sites.{site_of}
use Rattle.tsa_rules_bodies.proofs.GraphsOfFunctions.{graph_nowhere, graph_there}
use Rattle.tsa_rules_bodies.proofs.control.graph_of.Goals as goal

pub returns-in_ok-control_of-in-Some : goal.returns-in_ok-control_of-in-Some
returns-in_ok-control_of-in-Some c =
    let items = item_shapes c.args.unit.now.unit.now.items.now in
    graph_there items c.args.function c.args.unit.now.typed (slice_get (program_of items).functions c.args.function) refl c.in-Some.site c.in_ok-control_of-in-Some.field-0
    (subst (IsFound (unit_of [] items) c.args.function (site_of items c.args.function)) c.in-Some.is c.in_ok-site.ensures) c.in_ok-control_of-in-Some.ensures

pub returns-in-None : goal.returns-in-None
returns-in-None c =
    let items = item_shapes c.args.unit.now.unit.now.items.now in
    graph_nowhere items c.args.function c.args.unit.now.typed (slice_get (program_of items).functions c.args.function) refl
    (subst (IsFound (unit_of [] items) c.args.function (site_of items c.args.function)) c.in-None.is c.in_ok-site.ensures)
