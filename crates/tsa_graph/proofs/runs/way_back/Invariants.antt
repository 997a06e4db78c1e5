use Rattle.tsa_graph.proofs.Lists.{unseen}
use Rattle.tsa_graph.proofs.Rounds.{OnRound}
use Rattle.tsa_graph.proofs.runs.way_back.Given as goal

abbrev pub invariant-round : goal.invariant-round
invariant-round l = OnRound l.back l.fn.seen.items l.seen.items l.rest.items l.head l.last

abbrev pub decreases-round : goal.decreases-round
decreases-round l = unseen l.seen.items
