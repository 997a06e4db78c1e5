use Rattle.std.proofs.lemmas.Result.{on_ok_weaker}
use Rattle.tsa_graph.proofs.FurtherRuns.{one_next, path_runs}
use Rattle.tsa_graph.proofs.runs.put_path.Goals as goal

pub path_from-requires-clause-one : goal.path_from-requires-clause-one
path_from-requires-clause-one c = one_next c.args.ways.next.now c.args.ways.back.now c.requires.ways

pub returns-clause-runs : goal.returns-clause-runs
returns-clause-runs c =
    let e = c.in_ok-run.ensures in
    on_ok_weaker c.push.result
    (λ is. path_runs c.args.ways.next.now c.args.ways.back.now c.requires.ways c.args.seen.now.items c.path_from.new.seen.items c.args.runs.now c.push.new.self c.in_ok-run.run'.items
    c.requires.runs e.chain e.ends e.marked e.size is)
    c.push.ensures

pub returns-clause-put : goal.returns-clause-put
returns-clause-put c = on_ok_weaker c.push.result (λ is none. c.in_ok-run.ensures.head) c.push.ensures
