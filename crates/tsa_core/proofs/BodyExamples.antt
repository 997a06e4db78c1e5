-- The bodies, worked out.
use Rattle.std.proofs.Common.{refl}
use Rattle.tsa_tree.proofs.types.TextValues.{computed}
use Rattle.tsa_lex.specs.Puncts.{is_pair}
use Rattle.tsa_lex.specs.Quick.{quick_longest, front_with, quick_pieces_at}
use Rattle.tsa_place_model.specs.LockPaths.{leads}
use Rattle.tsa_place_model.specs.Layouts.{structure_at, size_of}
use Rattle.tsa_place_model.specs.Places.{places_inside}
use Rattle.tsa_place_model.specs.Parts.{argument_ways, guard_ways, parts_behind, members_after}
use Rattle.tsa_place_model.specs.Items.{enumerators_behind}
use Rattle.tsa_place_model.specs.Units.{laid_behind}
use Rattle.tsa_core.specs.Meanings.{meaning, arguments, call_in}
use Rattle.tsa_core.specs.Control.{labels, labels_all, cases, cases_all, edges, edges_all}
use Rattle.tsa_core.specs.Bodies.{known, known_all}
use Rattle.tsa_core.specs.Cells.{inner_cells, argument_cells}
use Rattle.tsa_core.specs.Uses.{access_guards, call_ways}
use Rattle.tsa_core.specs.Programs.{declared_functions, bodied_function, attr_args, attrs_of, lock_of, lock_kinds, program_of}
use Rattle.tsa_core.specs.Examples.{ControlIsAsWritten, PointsAreAsWritten, UsesAreAsWritten, ProgramsAreAsWritten}

-- to unfold this is to unfold all of it
unfoldable pub worked : Unit {0}
unfolding computed is_pair quick_longest front_with quick_pieces_at leads structure_at size_of places_inside argument_ways guard_ways parts_behind members_after enumerators_behind laid_behind meaning arguments call_in labels labels_all cases cases_all edges edges_all known known_all access_guards inner_cells argument_cells call_ways declared_functions bodied_function attr_args attrs_of lock_of lock_kinds program_of
worked = tt

pub control_is_as_written : ControlIsAsWritten
unfolding worked
control_is_as_written = record {
  in_order = refl;
  if_alone = refl;
  if_else = refl;
  empty_arms = refl;
  while_loop = refl;
  empty_loop = refl;
  do_loop = refl;
  for_loop = refl;
  without_step = refl;
  without_body = refl;
  without_all = refl;
  going_on = refl;
  with_default = refl;
  without_default = refl;
  unsigned_case = refl;
  switch_inside = refl;
  in_a_loop = refl;
  forwards = refl;
  backwards = refl;
  return_alone = refl;
  always = refl;
  never = refl;
  once = refl;
}

pub points_are_as_written : PointsAreAsWritten
unfolding worked
points_are_as_written = record {
  local_set = refl;
  cell_set = refl;
  operator_set = refl;
  behind_a_const_pointer = refl;
  null_set = refl;
  element_set = refl;
  call_declared = refl;
  zero_declared = refl;
  call_tested = refl;
  pointer_tested = refl;
  call_alone = refl;
  value_chosen = refl;
}

pub uses_are_as_written : UsesAreAsWritten
unfolding worked
uses_are_as_written = record {
  write_and_reads = refl;
  operator = refl;
  behind_a_local = refl;
  behind_a_local_that_changes = refl;
  from_a_guarded_global = refl;
  without_an_owner = refl;
  by_an_index = refl;
  by_an_index_that_changes = refl;
  on_the_way_to_a_write = refl;
  along_pointers = refl;
  without_a_path = refl;
  of_an_address = refl;
  arguments = refl;
  arguments_of_an_answer = refl;
}

pub programs_are_as_written : ProgramsAreAsWritten
unfolding worked
programs_are_as_written = record {
  locks = refl;
  attributes = refl;
  lock_functions = refl;
  of_the_environment = refl;
  results = refl;
  parameters = refl;
  points_of_f = refl;
}
