-- The units that run, worked out.
use Rattle.std.proofs.Common.{refl}
use Rattle.tsa_base.specs.Tokens.{punctuators, is_punctuator, is_token, longest_up_to, kind_of, block_end, opens_line, line_word}
use Rattle.tsa_base.specs.Tokens.{is_skipped, front_of, pieces_at}
use Rattle.tsa_base.specs.Numbers.{number_of}
use Rattle.tsa_base.specs.Words.{keywords, macro_words, reserved, is_reserved}
use Rattle.tsa_tree.specs.tokens.Signs.{meaning_at, meaning_of, attribute_names, bare_name, is_word_at, punctuator_signs, word_signs}
use Rattle.tsa_tree.specs.tokens.Signs.{word_sign, punctuator_sign, sign_of, sign_at, span_at, span_over, identifier_at, value_at}
use Rattle.tsa_tree.specs.tokens.Signs.{unsigned_at}
use Rattle.tsa_tree.specs.Reads.{read}
use Rattle.tsa_tree.specs.units.Answers.{read_unit}
use Rattle.tsa_grammar.specs.Reading.{then, choose, measure, run_in, run}
use Rattle.tsa_tree.specs.attributes.Syntax.{try_value}
use Rattle.tsa_tree.specs.types.Expressions.{type_of, types_of, premises_of, premises_of_all}
use Rattle.tsa_tree.specs.types.Premises.{first}
use Rattle.tsa_tree.specs.types.Constants.{constant_of}
use Rattle.tsa_tree.specs.types.Statements.{statement_premises, statements_premises, behind, behind_all, case_premises, default_premises}
use Rattle.tsa_tree.specs.types.Statements.{label_premises, goto_premises, break_premises, continue_premises, for_premises}
use Rattle.tsa_tree.specs.types.Targets.{labels_behind, labels_behind_all, cases_behind, cases_behind_all, default_in, default_in_all}
use Rattle.tsa_tree.specs.types.Targets.{declared_in, declared_in_all}
use Rattle.tsa_tree.specs.types.DeclaredTypes.{typed_premises, declared_premises}
use Rattle.tsa_tree.specs.types.Units.{items_premises, body_premises, tags_behind, locks_of}
use Rattle.tsa_tree.specs.types.Globals.{inside_global}
use Rattle.tsa_tree.specs.types.Heads.{head_premises, params_premises, inside_params}
use Rattle.tsa_tree.specs.types.Structs.{inside_struct, struct_premises, members_premises, members_behind}
use Rattle.tsa_tree.specs.types.Enums.{enum_premises, enumerator_premises, behind_enumerators}
use Rattle.tsa_tree.specs.types.Locals.{local_premises, names_in_init, names_in_items}
use Rattle.tsa_tree.specs.types.Simple.{assignment_premises, tested_premises, return_premises}
use Rattle.tsa_tree.specs.types.Attributes.{lock_premises, attributes_premises}
use Rattle.tsa_tree.specs.types.Initialisers.{cell_premises, initialiser_premises, list_premises}
use Rattle.tsa_tree.specs.types.Runnable.{statement_runs, statements_run, items_run}
use Rattle.tsa_tree.specs.types.RunnableExamples.{UnitsRun}

pub units_run : UnitsRun
unfolding read_unit punctuators is_punctuator is_token longest_up_to kind_of block_end opens_line line_word is_skipped front_of pieces_at number_of keywords macro_words reserved is_reserved punctuator_signs word_signs word_sign punctuator_sign sign_of sign_at span_at span_over identifier_at value_at unsigned_at read then choose measure run_in run try_value meaning_at meaning_of attribute_names bare_name is_word_at type_of types_of premises_of premises_of_all first constant_of statement_premises statements_premises behind behind_all case_premises default_premises label_premises goto_premises break_premises continue_premises for_premises labels_behind labels_behind_all cases_behind cases_behind_all default_in default_in_all declared_in declared_in_all items_premises enum_premises body_premises tags_behind locks_of inside_global head_premises params_premises inside_params inside_struct struct_premises members_premises members_behind typed_premises declared_premises cell_premises initialiser_premises list_premises lock_premises attributes_premises assignment_premises tested_premises return_premises local_premises names_in_init names_in_items enumerator_premises behind_enumerators statement_runs statements_run items_run
units_run = record {
  a_call_as_a_value = refl;
  a_call_in_a_sum = refl;
  a_call_in_an_argument = refl;
  a_call_beside_a_constant = refl;
  a_call_beside_a_variable = refl;
  a_call_in_order = refl;
  a_call_behind_not = refl;
  a_call_in_a_switch = refl;
  a_local_of_a_struct = refl;
  a_local_of_an_array = refl;
  no_lock_function = refl;
  its_body_later = refl;
  a_lock_function = refl;
  two_parameters = refl;
  a_try_without_an_answer = refl;
  a_try = refl;
  a_generic_release = refl;
  a_generic_release_with_a_body = refl;
  a_type_that_is_wrong = refl;
  a_bank = refl;
}
