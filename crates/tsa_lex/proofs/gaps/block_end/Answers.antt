use Rattle.std.proofs.Common.{◌∙◌, sym, arith}
use Rattle.tsa_lex.proofs.GapLemmas.{end_further, end_here, end_nowhere}
use Rattle.tsa_lex.proofs.gaps.block_end.Goals as goal

pub returns-then-is_end-clause-end : goal.returns-then-is_end-clause-end
returns-then-is_end-clause-end c = sym (c.pairs.invariant ∙ end_here c.args.text.now c.pairs.at (omega arith) (sym c.is_end.ensures ∙ c.if-is_end.true))

pub pairs-preserved : goal.pairs-preserved
pairs-preserved c = c.pairs.invariant ∙ end_further c.args.text.now c.pairs.at (omega arith) (sym c.is_end.ensures ∙ c.if-is_end.false)

pub returns-clause-end : goal.returns-clause-end
returns-clause-end c = sym (c.pairs.invariant ∙ end_nowhere c.args.text.now c.pairs.at (omega arith))
