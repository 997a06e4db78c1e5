use Rattle.std.proofs.Common.{◌≡◌, ◌+◌, ◌≤◌, ◌++◌, List, drop, length}
use Rattle.std.specs.List.{flat_map}
use Rattle.tsa_warn_bodies.specs.Bodies.{BodyText, IsToldBody, names_of}
use Rattle.tsa_warn_function.specs.Paths.{paths_of}
use Rattle.tsa_core.specs.Programs.{program_of}
use Rattle.tsa_warn_text.specs.Orders.{texts_of}
use Rattle.tsa_tree.specs.units.Syntax.{UnitItem}
use Rattle.tsa_warn.specs.Lines.{warning_line}
use Rattle.tsa_warn.proofs.warning_lines.push_lines.Given as goal

-- the text so far with the lines that are left is all of it, and each line is longer than nothing
abbrev pub invariant-each : goal.invariant-each
invariant-each l = record {
  longer : length l.fn.text.items + l.failure-index ≤ length l.text.items;
  lines : (items : List UnitItem) (b : BodyText) (h : IsToldBody items b l.body)
      → l.text.items ++ flat_map (warning_line l.starts (program_of items) h.function (paths_of (program_of items) h.function) (texts_of (names_of items b.number) (paths_of (program_of items) h.function)) b) (drop l.failure-index l.failures)
      ≡ l.fn.text.items ++ flat_map (warning_line l.starts (program_of items) h.function (paths_of (program_of items) h.function) (texts_of (names_of items b.number) (paths_of (program_of items) h.function)) b) l.failures;
}
