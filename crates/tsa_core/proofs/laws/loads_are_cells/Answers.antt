use Rattle.tsa_core.proofs.LoadsOfTerms.{loads_are_cells, conversions_keep}
use Rattle.tsa_core.proofs.laws.loads_are_cells.Goals as goal

pub returns-clause-read : goal.returns-clause-read
returns-clause-read c = loads_are_cells

pub returns-clause-converted : goal.returns-clause-converted
returns-clause-converted c = conversions_keep
