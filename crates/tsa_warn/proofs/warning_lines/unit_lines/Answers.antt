use Rattle.std.proofs.Common.{ap, subst}
use Rattle.tsa_tree.specs.units.Shapes.{item_shapes}
use Rattle.tsa_warn.specs.OneBody.{warned_of}
use Rattle.tsa_warn.specs.WarningLines.{IsWarned}
use Rattle.tsa_warn.proofs.warning_lines.unit_lines.Goals as goal

pub returns : goal.returns
returns c = subst (λ bytes. IsWarned bytes (item_shapes c.args.ready.now.fit.typed.unit.now.items.now) (warned_of c.add_unit.new.self)) c.in_ok-starts.ensures
    (c.in_ok-add_unit.ensures (ap (λ t. record { text = t; count = 0 }) c.new-2.ensures.items))
