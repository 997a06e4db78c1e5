use Rattle.std.proofs.Common.{◌≡◌, ◌∙◌, [], sym, ap, subst}
use Rattle.std.specs.Prelude.{OnOk}
use Rattle.tsa_tree.specs.units.Shapes.{HaveTheirPoints, item_shapes}
use Rattle.tsa_warn.specs.OneBody.{warned_of}
use Rattle.tsa_warn.specs.WarningLines.{IsWarned}
use Rattle.tsa_warn.proofs.line_count.UnitLines.add_by.Goals as goal

pub add_all-requires : goal.add_all-requires
add_all-requires c =
    subst HaveTheirPoints (sym (ap (λ s. s.now) (c.pass.result.judged ∙ sym c.pass.result.fits ∙ ap (λ f. f.typed.unit.now.items) c.pass.ensures))) c.requires.points

pub returns : goal.returns
returns c = subst (λ t. OnOk c.add_all.result (warned_of c.args.self.now ≡ record { text = []; count = 0 } → IsWarned c.args.starts.now (item_shapes t) (warned_of c.add_all.new.self)))
    (ap (λ s. s.now) (c.pass.result.judged ∙ sym c.pass.result.fits ∙ ap (λ f. f.typed.unit.now.items) c.pass.ensures)) c.add_all.ensures
