use Rattle.std.proofs.Common.{◌≡◌, sym, subst}
use Rattle.std.specs.Prelude.{IfOk}
use Rattle.tsa_warn.proofs.line_count.UnitLines.add_unit.Goals as goal

pub add_by-requires-clause-same : goal.add_by-requires-clause-same
add_by-requires-clause-same c = sym (subst (λ made. IfOk made (λ tables. tables.items ≡ c.args.fit.now.typed.unit.now.items)) c.in-Ok.is c.new.ensures)
