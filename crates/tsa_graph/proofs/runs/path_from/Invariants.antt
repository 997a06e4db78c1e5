use Rattle.std.proofs.Common.{◌≡◌, true}
use Rattle.tsa_graph.specs.Tracing.{is_seen}
use Rattle.tsa_graph.proofs.Lists.{unseen}
use Rattle.tsa_graph.proofs.Paths.{OnPath}
use Rattle.tsa_graph.proofs.runs.path_from.Given as goal

abbrev pub invariant-on : goal.invariant-on
invariant-on l = record {
  path : OnPath l.next l.fn.seen.items l.seen.items l.run.items l.last;
  head : is_seen l.seen.items l.head ≡ true;
}

abbrev pub decreases-on : goal.decreases-on
decreases-on l = unseen l.seen.items
