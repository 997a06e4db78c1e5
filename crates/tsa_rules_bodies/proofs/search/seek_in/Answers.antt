use Rattle.std.proofs.Common.{subst}
use Rattle.tsa_tree.specs.units.Shapes.{item_shape}
use Rattle.tsa_profile.specs.Judging.{unit_at}
use Rattle.tsa_rules_bodies.specs.Entering.{Enters}
use Rattle.tsa_rules_bodies.proofs.Seeking.{left, sought}
use Rattle.tsa_rules_bodies.proofs.search.seek_in.Goals as goal

pub returns-then-inside-function : goal.returns-then-inside-function
returns-then-inside-function c =
    let u = unit_at c.args.ground.now in
    let k = c.args.known.now in
    let item = item_shape c.args.item.now in
    let there = c.enter_item.new.known in
    sought u c.args.function k there c.in-Some.inside item (subst (Enters u k item there) c.in-Some.is c.in_ok-inside.ensures) c.if-inside-function.true

pub returns-else-inside-function : goal.returns-else-inside-function
returns-else-inside-function c =
    let u = unit_at c.args.ground.now in
    let k = c.args.known.now in
    let item = item_shape c.args.item.now in
    let there = c.enter_item.new.known in
    left u c.args.function k there c.in-Some.inside c.leave_body.new.known item (subst (Enters u k item there) c.in-Some.is c.in_ok-inside.ensures) c.if-inside-function.false
    (λ close. c.leave_body.ensures.behind u k close)
