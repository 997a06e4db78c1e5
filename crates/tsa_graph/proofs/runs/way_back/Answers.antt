use Rattle.std.proofs.Common.{◌∙◌, ap, sym}
use Rattle.tsa_graph.specs.Runs.{step}
use Rattle.tsa_graph.proofs.Rounds.{begin, moved, go_back, falls, stop, but_some, but_none}
use Rattle.tsa_graph.proofs.runs.way_back.Goals as goal

pub round-init : goal.round-init
round-init c =
    moved c.args.back.now c.requires.one c.requires.inside c.args.seen.now.items c.args.head c.requires.led _ _ _ _ c.args.head c.mark.ensures c.new-rest.ensures.items
    (begin c.args.back.now c.requires.one c.requires.inside c.args.seen.now.items c.args.head c.requires.led c.requires.size c.requires.closed c.requires.head.0 c.requires.head.1)

pub round-preserved : goal.round-preserved
round-preserved c =
    let went = but_some (step c.args.back.now c.round.last) c.args.head c.in-Some.point (sym c.in-Some.ensures) in
    moved c.args.back.now c.requires.one c.requires.inside c.args.seen.now.items c.args.head c.requires.led _ _ _ _ c.in-Some.point c.mark-in-Some.ensures c.in_ok-push.ensures.items
    (go_back c.args.back.now c.requires.one c.requires.inside c.args.seen.now.items c.args.head c.requires.led c.round.seen.items c.round.rest.items c.round.last c.round.invariant
    c.in-Some.point went.0 went.1)

pub round-smaller : goal.round-smaller
round-smaller c =
    let went = but_some (step c.args.back.now c.round.last) c.args.head c.in-Some.point (sym c.in-Some.ensures) in
    falls c.args.back.now c.requires.one c.requires.inside c.args.seen.now.items c.args.head c.requires.led c.round.seen.items c.round.rest.items c.round.last c.round.invariant
    c.mark-in-Some.new.seen.items c.in-Some.point went.0 went.1 c.mark-in-Some.ensures

pub returns : goal.returns
returns c =
    let home = but_none (step c.args.back.now c.round.last) c.args.head c.round.invariant.led (sym c.in_default.ensures) in
    let done =
    stop c.args.back.now c.requires.one c.requires.inside c.args.seen.now.items c.args.head c.requires.led c.round.seen.items c.round.rest.items c.round.last c.round.invariant home
    in
    record { round = done.0; marked = c.round.invariant.marks; closed = done.1; size = c.round.invariant.size }
