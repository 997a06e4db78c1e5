use Rattle.std.proofs.Common.{◌∙◌, ◌+◌, ◌++◌, length, refl, sym, ap}
use Rattle.std.specs.List.{flat_map}
use Rattle.tsa_core.specs.Programs.{program_of}
use Rattle.tsa_warn_text.specs.Orders.{texts_of}
use Rattle.tsa_warn_bodies.specs.Bodies.{names_of}
use Rattle.tsa_warn_function.specs.Paths.{paths_of}
use Rattle.tsa_warn.specs.Lines.{warning_line}
use Rattle.tsa_warn.specs.WarningLines.{lines_of}
use Rattle.tsa_warn.proofs.Lines.{added}
use Rattle.tsa_warn.proofs.line_count.UnitLines.add_body.Goals as goal

pub returns : goal.returns
returns c items b h =
    let u = program_of items in
    let names = names_of items b.number in
    let paths = paths_of u h.function in
    let failures = c.in_ok-failures.failures.items in
    let line = warning_line c.args.starts.now u h.function paths (texts_of names paths) b in
    let told = c.in_ok-failures.ensures u h.function paths names h.flow h.texts in
    let text = c.in_ok-push_lines.ensures.lines items b h ∙ ap (λ fs. c.args.self.now.text.items ++ flat_map line fs) c.deref.ensures.value in
    let count = ap (λ n. c.args.self.now.count + n) (c.len.ensures ∙ sym c.deref.ensures.len ∙ ap length c.deref.ensures.value) in (
      lines_of c.args.starts.now u h.function names b failures,
      (
        record { function = h.function; is_there = h.is_there; failures = failures; told = told; lines = refl },
        added c.args.self.now.text.items (flat_map line failures) c.push_lines.new.text.items c.args.self.now.count (length failures) (c.args.self.now.count + c.len.result) text count,
      ),
    )
