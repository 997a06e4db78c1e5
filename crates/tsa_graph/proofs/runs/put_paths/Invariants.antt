use Rattle.tsa_graph.specs.Tracing.{IsClosed, SeesHeads, AreRuns}
use Rattle.tsa_graph.proofs.runs.put_paths.Given as goal

abbrev pub invariant-each : goal.invariant-each
invariant-each l = record {
  runs : AreRuns l.ways.next.now l.seen.items l.runs;
  closed : IsClosed l.ways.next.now l.seen.items;
  heads : SeesHeads l.ways.back.now l.seen.items l.point;
}
