use Rattle.std.proofs.Common.{◌≡◌, ◌∙◌, ◌++◌, ◌-◌, ◌*◌, replicate, ap, arith}
use Rattle.tsa_print.specs.Layout.{indentation}
use Rattle.tsa_print.proofs.Pages.{indent_more}
use Rattle.tsa_print.proofs.sheet.indent.Goals as goal

pub blanks-preserved : goal.blanks-preserved
blanks-preserved c =
    let left = c.blanks.left in
    let part = c.min-part.result in
    let longer = c.extend_from_slice.new.self.items in
    let few : 2 * (left - part) ≡ 2 * left - 2 * part = omega arith in
    ap (λ n. longer ++ replicate n 32) few
    ∙ indent_more c.blanks.text.items longer (c.args.text.now.items ++ indentation c.args.levels) (2 * left) (2 * part) (omega (arith, c.min-part.ensures))
    (omega (arith, c.min-part.ensures)) c.blanks.invariant c.in_ok-extend_from_slice.ensures.items
