use Rattle.std.proofs.Common.{◌∙◌, sym}
use Rattle.tsa_flow_solver.proofs.RowEquality.{rows_same}
use Rattle.tsa_flow_solver.proofs.row.Row.is_same.Goals as goal

pub returns : goal.returns
returns c e = sym c.self.view_is ∙ rows_same c.self.inside.sets.items c.other.inside.sets.items (sym c.eq.ensures ∙ e) ∙ c.other.view_is
