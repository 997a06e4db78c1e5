use Rattle.std.proofs.Common.{◌≡◌, [], Some, ap, subst, sym}
use Rattle.tsa_tree.specs.declarations.Shapes.{head_shape}
use Rattle.tsa_tree.specs.units.Shapes.{item_shape, item_shapes}
use Rattle.tsa_rules_bodies.specs.Entering.{Enters}
use Rattle.tsa_profile_context.specs.Judging.{unit_at}
use Rattle.tsa_rules_bodies.specs.Knowing.{IsWithin, behind}
use Rattle.tsa_profile_context.specs.Units.{unit_of}
use Rattle.tsa_flow.proofs.Passing.{behind_it, enters_none, left_behind, next, passed_on}
use Rattle.tsa_flow.proofs.passage.Pass.item.Goals as goal

pub tell-requires : goal.tell-requires
tell-requires c =
    let s = c.args.self.now in
    let items = item_shapes s.ground.items.now in
    let item = item_shape c.args.item.now in
    let k = c.args.known.now in
    let there = c.enter_item.new.known in
    let unit : unit_at s.ground ≡ unit_of [] items = ap (λ o. unit_of o items) s.inside in
    let enters = subst (λ o. Enters (unit_of [] items) k item there o) c.in-Some.is (subst (λ u. Enters u k item there c.in_ok-inside.field-0) unit c.in_ok-inside.ensures) in
    let rest = c.requires.ahead.0 in
    record { next = next items c.args.flows.now.items k rest there c.in-Some.inside item enters (c.requires.ahead.1 c.in-Some.inside.number) }

pub returns-in_ok-tell-clause-known : goal.returns-in_ok-tell-clause-known
returns-in_ok-tell-clause-known c =
    let s = c.args.self.now in
    let item = item_shape c.args.item.now in
    let k = c.args.known.now in
    let there = c.enter_item.new.known in
    let u = unit_at s.ground in
    let enters = subst (λ o. Enters u k item there o) c.in-Some.is c.in_ok-inside.ensures in
    left_behind u k there c.in-Some.inside c.leave_body.new.known item enters
    (λ close out within. c.leave_body.ensures.behind u k close out (subst (IsWithin u k (head_shape c.in-Some.inside.head.now)) (sym c.in_ok-tell.ensures.known) within))

pub returns-in_ok-tell-clause-ahead : goal.returns-in_ok-tell-clause-ahead
returns-in_ok-tell-clause-ahead c rest ahead =
    let s = c.args.self.now in
    let items = item_shapes s.ground.items.now in
    let item = item_shape c.args.item.now in
    let k = c.args.known.now in
    let there = c.enter_item.new.known in
    let u = unit_at s.ground in
    let unit : unit_at s.ground ≡ unit_of [] items = ap (λ o. unit_of o items) s.inside in
    let enters_it = subst (λ o. Enters u k item there o) c.in-Some.is c.in_ok-inside.ensures in
    let enters = subst (λ v. Enters v k item there (Some c.in-Some.inside)) unit enters_it in
    let passes = left_behind u k there c.in-Some.inside c.leave_body.new.known item enters_it
    (λ close out within. c.leave_body.ensures.behind u k close out (subst (IsWithin u k (head_shape c.in-Some.inside.head.now)) (sym c.in_ok-tell.ensures.known) within)) in
    behind_it items c.args.flows.now.items k rest there c.in-Some.inside item c.tell.new.flows.items c.leave_body.new.known enters
    (subst (λ v. c.leave_body.new.known ≡ behind v k item) unit passes) c.in_ok-tell.ensures.told c.in_ok-tell.ensures.others ahead

pub returns-in_default-clause-ahead : goal.returns-in_default-clause-ahead
returns-in_default-clause-ahead c rest ahead =
    let s = c.args.self.now in
    let items = item_shapes s.ground.items.now in
    let item = item_shape c.args.item.now in
    let k = c.args.known.now in
    let there = c.enter_item.new.known in
    let unit : unit_at s.ground ≡ unit_of [] items = ap (λ o. unit_of o items) s.inside in
    passed_on items c.args.flows.now.items k rest item there
    (enters_none (unit_of [] items) k there item c.in_ok-inside.field-0 c.in_default.not-Some (subst (λ u. Enters u k item there c.in_ok-inside.field-0) unit c.in_ok-inside.ensures)) ahead
