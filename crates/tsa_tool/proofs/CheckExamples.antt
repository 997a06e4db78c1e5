-- Answers of `check`, worked out.
use Rattle.tsa_base.specs.Places.{line_at, column_at}
use Rattle.tsa_base.specs.Spans.{span_text}
use Rattle.tsa_tree.proofs.types.TextValues.{computed}
use Rattle.tsa_unit.specs.Parsing.{unit_of}
use Rattle.tsa_tool.specs.Checks.{typed_in, sized_in, fit_in, tree_in}
use Rattle.tsa_tool.specs.CheckExamples.{ChecksAreAsWritten}
use Rattle.tsa_place_model.specs.LockPaths.{leads}
use Rattle.tsa_place_model.specs.Layouts.{structure_at, size_of}
use Rattle.tsa_place_model.specs.Places.{places_inside}
use Rattle.tsa_place_model.specs.Parts.{argument_ways, guard_ways, parts_behind, members_after}
use Rattle.tsa_place_model.specs.Items.{enumerators_behind}
use Rattle.tsa_place_model.specs.Units.{placed_behind}
use Rattle.tsa_profile.proofs.Examples.{all}

pub checks_are_as_written : ChecksAreAsWritten
unfolding computed line_at column_at span_text unit_of tree_in typed_in sized_in fit_in leads structure_at size_of places_inside argument_ways guard_ways parts_behind members_after enumerators_behind placed_behind all
checks_are_as_written = record {
  no_semicolon = λ report is. is;
  else_alone = λ report is. is;
  at_the_end = λ report is. is;
  closed_twice = λ report is. is;
  type_as_a_value = λ report is. is;
  left_out = λ report is. is;
  no_argument = λ report is. is;
  too_deep = λ report is. is;
  unknown = λ report is. is;
  again = λ report is. is;
  no_type = λ report is. is;
  arguments = λ report is. is;
  unwritable = λ report is. is;
  no_lock = λ report is. is;
  no_target = λ report is. is;
  returned = λ report is. is;
  no_constant = λ report is. is;
  too_many_places = λ report is. is;
  inner_call = λ report is. is;
  no_path = λ report is. is;
  no_shape = λ report is. is;
}
