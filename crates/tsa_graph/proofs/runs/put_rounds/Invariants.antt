use Rattle.tsa_graph.specs.Tracing.{GoesOn, SeesHeads, SeesAll, AreRuns}
use Rattle.tsa_graph.proofs.runs.put_rounds.Given as goal

abbrev pub invariant-each : goal.invariant-each
invariant-each l = record {
  runs : AreRuns l.ways.next.now l.seen.items l.runs;
  goes_on : GoesOn l.ways.next.now l.seen.items;
  heads : SeesHeads l.ways.back.now l.seen.items l.points;
  all : SeesAll l.seen.items l.point;
}
