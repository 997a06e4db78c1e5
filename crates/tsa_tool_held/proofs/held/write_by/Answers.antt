use Rattle.std.proofs.Common.{◌∙◌, sym, ap, subst}
use Rattle.tsa_tree.specs.units.Shapes.{HaveTheirPoints, item_shapes}
use Rattle.tsa_tool_held.specs.Held.{IsHeld}
use Rattle.tsa_tool_held.proofs.Fronts.{on_error, on_ok}
use Rattle.tsa_tool_held.proofs.held.write_by.Goals as goal

pub write_told-requires : goal.write_told-requires
write_told-requires g c =
    subst HaveTheirPoints (sym (ap (λ s. s.now) (c.pass.result.judged ∙ sym c.pass.result.fits ∙ ap (λ f. f.typed.unit.now.items) c.pass.ensures))) c.requires.points

pub returns-clause-all : goal.returns-clause-all
returns-clause-all g c =
    let trees = ap (λ s. s.now) (c.pass.result.judged ∙ sym c.pass.result.fits ∙ ap (λ f. f.typed.unit.now.items) c.pass.ensures) in
    on_ok c.write_told.result _ _ (λ h. (h.0, (subst (λ t. IsHeld c.args.desk.starts.now (item_shapes t) h.0) trees h.1.0, h.1.1))) c.write_told.ensures.all

pub returns-clause-front : goal.returns-clause-front
returns-clause-front g c =
    let trees = ap (λ s. s.now) (c.pass.result.judged ∙ sym c.pass.result.fits ∙ ap (λ f. f.typed.unit.now.items) c.pass.ensures) in
    on_error c.write_told.result _ _ (λ front lines held. front lines (subst (λ t. IsHeld c.args.desk.starts.now (item_shapes t) lines) (sym trees) held)) c.write_told.ensures.front
