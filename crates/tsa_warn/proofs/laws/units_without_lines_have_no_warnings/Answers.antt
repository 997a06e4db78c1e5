use Rattle.tsa_warn.proofs.Silence.{units_without_lines}
use Rattle.tsa_warn.proofs.laws.units_without_lines_have_no_warnings.Goals as goal

pub returns : goal.returns
returns c = units_without_lines
