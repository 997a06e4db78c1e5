use Rattle.std.proofs.Common.{◌≡◌, ◌≤◌, ◌<◌, ◌^◌, drop}
use Rattle.tsa_lex.proofs.NumberLemmas.{written}
use Rattle.tsa_lex.proofs.numbers.value_in.Given as goal

abbrev pub invariant-digits : goal.invariant-digits
invariant-digits l = record {
  some : 1 ≤ l.base;
  small : l.value < 2 ^ 32;
  rest : written l.base 0 l.digits ≡ written l.base l.value (drop l.digit-index l.digits);
}
