use Rattle.tsa_warn_text.proofs.Placing.{PlacesUpTo}
use Rattle.tsa_warn_text.proofs.ranks.ranks_of.Given as goal

abbrev pub invariant-each : goal.invariant-each
invariant-each l = PlacesUpTo l.order l.ranks.items l.rank
