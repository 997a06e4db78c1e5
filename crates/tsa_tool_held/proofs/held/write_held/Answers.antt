use Rattle.std.proofs.Common.{sym, subst}
use Rattle.tsa_tree.specs.units.Shapes.{item_shapes}
use Rattle.tsa_tool_held.specs.Held.{IsHeld}
use Rattle.tsa_tool_held.proofs.Fronts.{on_error, on_ok}
use Rattle.tsa_tool_held.proofs.held.write_held.Goals as goal

pub returns-clause-all : goal.returns-clause-all
returns-clause-all g c =
    on_ok c.write_of.result _ _ (λ h. (h.0, (subst (λ bytes. IsHeld bytes (item_shapes c.args.ready.now.fit.typed.unit.now.items.now) h.0) c.in_ok-starts.ensures h.1.0, h.1.1))) c.write_of.ensures.all

pub returns-clause-front : goal.returns-clause-front
returns-clause-front g c =
    on_error c.write_of.result _ _ (λ front lines held. front lines
    (subst (λ bytes. IsHeld bytes (item_shapes c.args.ready.now.fit.typed.unit.now.items.now) lines) (sym c.in_ok-starts.ensures) held)) c.write_of.ensures.front
