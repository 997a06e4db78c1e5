-- The rows, worked out.
use Rattle.std.proofs.Common.{refl}
use Rattle.tsa_lex.specs.Puncts.{is_pair}
use Rattle.tsa_lex.specs.Quick.{quick_longest, front_with, quick_pieces_at}
use Rattle.tsa_tree.proofs.types.TextValues.{computed}
use Rattle.tsa_types_row.specs.BodyRows.{marked_row, aside_all, aside_attributes, aside_init, aside_items, aside_declaration, row_in_init, local_parts}
use Rattle.tsa_types_row.specs.BodyRows.{row_in_local, row_in_simple, row_in_for, row_in_statement, row_in_statements, row_in_body}
use Rattle.tsa_types_row.specs.Examples.{RowsAreAsWritten}
use Rattle.tsa_types_row.specs.ExpressionRows.{row_in, row_in_all}
use Rattle.tsa_types_row.specs.ItemRows.{row_in_member, row_in_members, row_in_enumerators, row_in_global, row_in_param, row_in_params, row_in_head}
use Rattle.tsa_types_row.specs.ItemRows.{row_in_unit_items}

-- to unfold this is to unfold all of it
worked : Unit {0}
unfolding computed is_pair quick_longest front_with quick_pieces_at marked_row aside_all aside_attributes aside_init aside_items aside_declaration row_in_init local_parts row_in_local row_in_simple row_in_for row_in_statement row_in_statements row_in_body row_in row_in_all row_in_member row_in_members row_in_enumerators row_in_global row_in_param row_in_params row_in_head row_in_unit_items
worked = tt

pub rows_are_as_written : RowsAreAsWritten
unfolding worked
rows_are_as_written = record {
  set = refl;
  second_member = refl;
  fixed_pointer = refl;
  call_in_a_test = refl;
  enumerators = refl;
  locals = refl;
  worth = refl;
  types = refl;
  spans = refl;
}
