-- The code of expressions, worked out.
use Rattle.std.proofs.Common.{refl}
use Rattle.tsa_core_rows.proofs.RowExamples.{worked}
use Rattle.tsa_mean.proofs.RunExamples.{turned}
use Rattle.tsa_lower_terms.specs.Examples.{ExpressionsHaveTheirCode}

pub expressions_have_their_code : ExpressionsHaveTheirCode
unfolding worked turned
expressions_have_their_code = record {
  sum = refl;
  early = refl;
  members = refl;
  element = refl;
  null_behind = refl;
  null_before = refl;
  converted = refl;
  set_place = refl;
  set_value = refl;
  call = refl;
  argument = refl;
  answered = refl;
  unanswered = refl;
  structure = refl;
  past_it = refl;
  high = refl;
}
