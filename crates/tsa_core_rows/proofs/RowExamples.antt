-- Rows and what they are read as, worked out.
use Rattle.std.proofs.Common.{refl}
use Rattle.tsa_tree.proofs.types.TextValues.{computed}
use Rattle.tsa_lex.specs.Puncts.{is_pair}
use Rattle.tsa_lex.specs.Quick.{quick_longest, front_with, quick_pieces_at}
use Rattle.tsa_types_row.specs.BodyRows.{marked_row, aside_all, aside_attributes, aside_init, aside_items, aside_declaration, row_in_init, local_parts, row_in_local}
use Rattle.tsa_types_row.specs.BodyRows.{row_in_simple, row_in_for, row_in_statement, row_in_statements, row_in_body}
use Rattle.tsa_types_row.specs.ExpressionRows.{row_in, row_in_all}
use Rattle.tsa_types_row.specs.ItemRows.{row_in_member, row_in_members, row_in_enumerators, row_in_global, row_in_param, row_in_params, row_in_head}
use Rattle.tsa_types_row.specs.ItemRows.{row_in_unit_items}
use Rattle.tsa_core.specs.Programs.{bodied_function}
use Rattle.tsa_core_rows.specs.Examples.{NodesAreAsWritten, RowsAreReadAsWritten, BodiesStandAsWritten}
use Rattle.tsa_core_rows.specs.Stretches.{bodies_in}

-- to unfold this is to unfold all of it
unfoldable pub worked : Unit {0}
unfolding computed is_pair quick_longest front_with quick_pieces_at marked_row aside_all aside_attributes aside_init aside_items row_in_init local_parts row_in_local row_in_simple row_in_for row_in_statement row_in_statements row_in_body row_in row_in_all bodied_function row_in_member row_in_members row_in_enumerators row_in_global row_in_param row_in_params row_in_head row_in_unit_items aside_declaration bodies_in
worked = tt

pub nodes_are_as_written : NodesAreAsWritten
unfolding worked
nodes_are_as_written = record { declaration = refl; call_tested = refl; sizes_of_it = refl; length_aside = refl }

pub rows_are_read_as_written : RowsAreReadAsWritten
unfolding worked
rows_are_read_as_written = record {
  local_set = refl;
  call_declared = refl;
  cell_set = refl;
  call_tested = refl;
  call_compared = refl;
  without_a_test = refl;
  cases_aside = refl;
  locals = refl;
  never_changed = refl;
  changed = refl;
  changed_through = refl;
}

pub bodies_stand_as_written : BodiesStandAsWritten
unfolding worked
bodies_stand_as_written = record {
  empty_body = refl;
  behind_prototypes = refl;
  behind_attributes = refl;
  begins_with_a_loop = refl;
  are_the_bodies = refl;
}
