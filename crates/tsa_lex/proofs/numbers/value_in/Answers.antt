use Rattle.std.proofs.Common.{sym, ◌∙◌}
use Rattle.tsa_lex.proofs.NumberLemmas.{written_past, written_stop}
use Rattle.tsa_lex.proofs.numbers.value_in.Goals as goal

pub returns-in_err-value : goal.returns-in_err-value
returns-in_err-value c =
    let stop = written_stop c.args.base c.digits.value c.args.digits.now c.digits.digit-index c.digits.invariant.some c.digits-test.true (sym c.in_err-value.ensures) in
    c.from_residual.ensures ∙ sym (c.digits.invariant.rest ∙ stop)

pub returns : goal.returns
returns c = sym (c.digits.invariant.rest ∙ written_past c.args.base c.digits.value c.args.digits.now c.digits.digit-index c.digits-test.false c.digits.invariant.small)
