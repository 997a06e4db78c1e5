use Rattle.std.proofs.Common.{arith}
use Rattle.tsa_core.specs.Programs.{program_of}
use Rattle.tsa_warn_text.specs.Orders.{texts_of}
use Rattle.tsa_warn_bodies.specs.Bodies.{names_of}
use Rattle.tsa_warn_function.specs.Paths.{paths_of}
use Rattle.tsa_warn.specs.Lines.{warning_line}
use Rattle.tsa_warn.proofs.OneLine.{all_on, one_on}
use Rattle.tsa_warn.proofs.warning_lines.push_lines.Goals as goal

pub each-preserved : goal.each-preserved
each-preserved c =
    let one = c.in_ok-push_line.ensures.longer in
    let before = c.each.invariant.longer in
    record {
      longer = omega (arith, one, before);
      lines =
          λ items b h.
          let u = program_of items in
          let line = warning_line c.args.starts.now u h.function (paths_of u h.function) (texts_of (names_of items b.number) (paths_of u h.function)) b in
          one_on line c.args.failures.now c.each.failure-index _ c.each.text.items c.push_line.new.text.items _ c.each-test.true (c.in_ok-push_line.ensures.line items b h)
          (c.each.invariant.lines items b h);
    }

pub returns-clause-longer : goal.returns-clause-longer
returns-clause-longer c =
    let before = c.each.invariant.longer in
    let end = c.each-test.false in
    omega (arith, before, end)

pub returns-clause-lines : goal.returns-clause-lines
returns-clause-lines c items b h =
    let u = program_of items in
    let line = warning_line c.args.starts.now u h.function (paths_of u h.function) (texts_of (names_of items b.number) (paths_of u h.function)) b in
    all_on line c.args.failures.now c.each.failure-index c.each.text.items _ c.each-test.false (c.each.invariant.lines items b h)
