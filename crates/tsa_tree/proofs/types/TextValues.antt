-- What is computed of a text: how it is read, and what its nodes come to.
use Rattle.tsa_base.specs.Tokens.{punctuators, is_punctuator, is_token, longest_up_to, kind_of, block_end, opens_line, line_word}
use Rattle.tsa_base.specs.Tokens.{is_skipped, front_of, pieces_at}
use Rattle.tsa_base.specs.Numbers.{number_of}
use Rattle.tsa_base.specs.Words.{keywords, macro_words, reserved, is_reserved}
use Rattle.tsa_tree.specs.tokens.Signs.{meaning_at, meaning_of, attribute_names, bare_name, is_word_at, punctuator_signs, word_signs}
use Rattle.tsa_tree.specs.tokens.Signs.{word_sign, punctuator_sign, sign_of, sign_at, span_at, span_over, identifier_at, value_at}
use Rattle.tsa_tree.specs.tokens.Signs.{unsigned_at}
use Rattle.tsa_tree.specs.Reads.{read}
use Rattle.tsa_tree.specs.units.Answers.{read_unit}
use Rattle.tsa_grammar.specs.Reading.{then, choose, measure, run_in, run}
use Rattle.tsa_tree.specs.attributes.Syntax.{try_value}
use Rattle.tsa_tree.specs.types.Expressions.{type_of, types_of}
use Rattle.tsa_tree.specs.types.Constants.{constant_of}
use Rattle.tsa_tree.specs.types.Statements.{behind, behind_all}
use Rattle.tsa_tree.specs.types.Targets.{labels_behind, labels_behind_all, cases_behind, cases_behind_all, default_in, default_in_all}
use Rattle.tsa_tree.specs.types.Targets.{declared_in, declared_in_all}
use Rattle.tsa_tree.specs.types.Units.{tags_behind, locks_of}
use Rattle.tsa_tree.specs.types.Heads.{inside_params}
use Rattle.tsa_tree.specs.types.Structs.{members_behind}
use Rattle.tsa_tree.specs.types.Enums.{behind_enumerators}
use Rattle.tsa_tree.specs.types.Node.{told_at}
use Rattle.tsa_tree.specs.types.Nodes.{nodes_in, nodes_in_arguments, nodes_in_locks, nodes_in_attributes, nodes_in_members}
use Rattle.tsa_tree.specs.types.Nodes.{nodes_in_enumerators, nodes_in_initialiser, nodes_in_initialisers, nodes_in_parameters}
use Rattle.tsa_tree.specs.types.Nodes.{nodes_in_local_init, nodes_in_local_inits, nodes_in_statement, nodes_in_statements, nodes_in_items}
use Rattle.tsa_tree.specs.types.Fails.{fails}
use Rattle.tsa_tree.specs.types.FirstFailing.{failure_at, first_failing_of}

-- to unfold this is to unfold all of it
unfoldable pub computed : Unit {0}
unfolding read_unit punctuators is_punctuator is_token longest_up_to kind_of block_end opens_line line_word is_skipped front_of pieces_at number_of keywords macro_words reserved is_reserved punctuator_signs word_signs word_sign punctuator_sign sign_of sign_at span_at span_over identifier_at value_at unsigned_at read then choose measure run_in run try_value meaning_at meaning_of attribute_names bare_name is_word_at type_of types_of constant_of behind behind_all labels_behind labels_behind_all cases_behind cases_behind_all default_in default_in_all declared_in declared_in_all tags_behind locks_of inside_params members_behind behind_enumerators told_at fails failure_at first_failing_of nodes_in nodes_in_arguments nodes_in_locks nodes_in_attributes nodes_in_members nodes_in_enumerators nodes_in_initialiser nodes_in_initialisers nodes_in_parameters nodes_in_local_init nodes_in_local_inits nodes_in_statement nodes_in_statements nodes_in_items
computed = tt
