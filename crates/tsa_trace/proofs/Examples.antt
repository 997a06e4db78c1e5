-- The lines of events and races, worked out.
use Rattle.std.proofs.Common.{refl}
use Rattle.std.specs.Fmt.{digits}
use Rattle.tsa_base.specs.Places.{line_at, column_at}
use Rattle.tsa_place_model.specs.Calls.{around, text_along}
use Rattle.tsa_core.proofs.BodyExamples.{worked}
use Rattle.tsa_trace.specs.EventLines.{action_text, event_text, point_text, turn_text}
use Rattle.tsa_trace.specs.Examples.{EventLinesAreAsWritten, RaceLinesAreAsWritten}
use Rattle.tsa_trace.specs.FunctionTexts.{points_named}
use Rattle.tsa_trace.specs.RaceLines.{race_text, side_text}

pub event_lines_are_as_written : EventLinesAreAsWritten
unfolding worked digits line_at column_at around text_along action_text event_text point_text turn_text points_named
event_lines_are_as_written = record {
  read = refl;
  read_of_null = refl;
  read_of_a_pointer = refl;
  write = refl;
  took = refl;
  took_shared = refl;
  waits = refl;
  tried = refl;
  tried_in_vain = refl;
  gave = refl;
  gave_shared = refl;
  not_held = refl;
  environment = refl;
  environment_without_an_answer = refl;
  called = refl;
  returned = refl;
  returned_at_the_end = refl;
  branched = refl;
  branched_otherwise = refl;
  switched = refl;
  stepped = refl;
  overflow = refl;
  division = refl;
  null = refl;
  index = refl;
  depth = refl;
  ended = refl;
  trapped = refl;
  unknown = refl;
}

pub race_lines_are_as_written : RaceLinesAreAsWritten
unfolding worked digits line_at column_at around text_along point_text points_named race_text side_text
race_lines_are_as_written = record {
  read_and_write = refl;
  of_a_member = refl;
}
