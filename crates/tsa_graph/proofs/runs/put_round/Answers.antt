use Rattle.std.proofs.lemmas.Result.{on_ok_weaker}
use Rattle.tsa_graph.proofs.FurtherRuns.{one_back, inside_back, round_runs}
use Rattle.tsa_graph.proofs.runs.put_round.Goals as goal

pub way_back-requires-clause-one : goal.way_back-requires-clause-one
way_back-requires-clause-one c = one_back c.args.ways.next.now c.args.ways.back.now c.requires.ways

pub way_back-requires-clause-inside : goal.way_back-requires-clause-inside
way_back-requires-clause-inside c = inside_back c.args.ways.next.now c.args.ways.back.now c.requires.ways

pub way_back-requires-clause-closed : goal.way_back-requires-clause-closed
way_back-requires-clause-closed c = λ p q e s. c.requires.goes_on p q (c.requires.ways.from p q e) s

pub returns-clause-runs : goal.returns-clause-runs
returns-clause-runs c =
    let e = c.in_ok-rest.ensures in
    on_ok_weaker c.push.result
    (λ is. round_runs c.args.ways.next.now c.args.ways.back.now c.requires.ways c.args.seen.now.items c.way_back.new.seen.items c.args.runs.now c.push.new.self c.args.point
    c.in_ok-rest.rest.items c.in_ok-run.run'.items c.requires.runs e.round e.marked e.size c.in_ok-run.ensures is)
    c.push.ensures
