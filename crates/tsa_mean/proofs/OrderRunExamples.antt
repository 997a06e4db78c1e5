-- Short runs worked out.
use Rattle.std.proofs.Common.{refl}
use Rattle.tsa_mean.specs.OrderTraces.{NumbersTurnAtTheirEdges, TermsAreWorkedOutInOrder}
use Rattle.tsa_mean.proofs.RunExamples.{quickly, turned}

pub terms_are_worked_out_in_order : TermsAreWorkedOutInOrder
unfolding turned
terms_are_worked_out_in_order = record {
  trap_first = quickly _ _ _ _ refl;
  read_first = quickly _ _ _ _ refl;
  right_first = quickly _ _ _ _ refl;
  old_last = quickly _ _ _ _ refl;
  base_first = quickly _ _ _ _ refl;
  and_stops = quickly _ _ _ _ refl;
  and_goes_on = quickly _ _ _ _ refl;
  or_stops = quickly _ _ _ _ refl;
  or_goes_on = quickly _ _ _ _ refl;
  address = quickly _ _ _ _ refl;
  before_the_first = quickly _ _ _ _ refl;
  declared_again = quickly _ _ _ _ refl;
  way_to_a_struct = quickly _ _ _ _ refl;
  null_handed = quickly _ _ _ _ refl;
  unknown = quickly _ _ _ _ refl;
}

pub numbers_turn_at_their_edges : NumbersTurnAtTheirEdges
unfolding turned
numbers_turn_at_their_edges = record {
  quotient = quickly _ _ _ _ refl;
  remainder = quickly _ _ _ _ refl;
  negated = quickly _ _ _ _ refl;
  difference = quickly _ _ _ _ refl;
  product = quickly _ _ _ _ refl;
  no_divisor = quickly _ _ _ _ refl;
  no_unsigned_divisor = quickly _ _ _ _ refl;
  truncated = quickly _ _ _ _ refl;
  wraps = quickly _ _ _ _ refl;
  to_unsigned = quickly _ _ _ _ refl;
  to_int = quickly _ _ _ _ refl;
  compared = quickly _ _ _ _ refl;
  added = quickly _ _ _ _ refl;
  chosen = quickly _ _ _ _ refl;
  bits = quickly _ _ _ _ refl;
}
