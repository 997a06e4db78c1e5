-- The expressions of a unit, in order of its text.
use Rattle.std.specs.Prelude.{◌≡◌, List, [], ◌∷◌, ◌++◌, true, Some, None}
use Rattle.std.specs.List.{list_all}
use Rattle.std.specs.declared.option.Option.{Option}
use Rattle.tsa_tree.specs.attributes.Syntax.{Attribute}
use Rattle.tsa_tree.specs.declarations.Syntax.{Initialiser, value, list, Initialisers, no_more, one_more, Declaration, EnumConstant}
use Rattle.tsa_tree.specs.expressions.Syntax.{Expression, Arguments}
use Rattle.tsa_tree.specs.expressions.Syntax as expressions
use Rattle.tsa_tree.specs.statements.Syntax.{Simple, evaluation, assignment, ForInit, no_init, simple_init, local_init, Statement, block}
use Rattle.tsa_tree.specs.statements.Syntax.{empty, local, simple, if_alone, if_else, while_loop, do_loop, for_loop, switch, case}
use Rattle.tsa_tree.specs.statements.Syntax.{otherwise, label, break, continue, goto, return, Statements, none, more}
use Rattle.tsa_tree.specs.units.Syntax.{UnitItem, structure_item, alias_item, enumeration_item, global_item, function_item, body_item}
use Rattle.tsa_print.specs.Writable.{has_plain_bases}

abbrev pub in_optional : Option Expression → List Expression
in_optional None = []
in_optional (Some x) = x ∷ []

abbrev pub in_arguments : Arguments → List Expression
in_arguments expressions.none = []
in_arguments (expressions.more x xs) = x ∷ in_arguments xs

abbrev pub in_attributes : List Attribute → List Expression
in_attributes [] = []
in_attributes (a ∷ others) = in_arguments a.args ++ in_attributes others

abbrev mutual
  pub in_initialiser : Initialiser → List Expression
  in_initialiser (value x) = x ∷ []
  in_initialiser (list items span) = in_initialisers items

  pub in_initialisers : Initialisers → List Expression
  in_initialisers no_more = []
  in_initialisers (one_more first rest) = in_initialiser first ++ in_initialisers rest

abbrev pub in_init : Option Initialiser → List Expression
in_init None = []
in_init (Some x) = in_initialiser x

abbrev pub in_declaration : Declaration → List Expression
in_declaration d = in_optional d.ctype.length ++ (in_attributes d.attrs ++ in_init d.init)

abbrev pub in_declarations : List Declaration → List Expression
in_declarations [] = []
in_declarations (d ∷ others) = in_declaration d ++ in_declarations others

abbrev pub in_constants : List EnumConstant → List Expression
in_constants [] = []
in_constants (c ∷ others) = in_optional c.value ++ in_constants others

abbrev pub in_simple : Simple → List Expression
in_simple (evaluation x span) = x ∷ []
in_simple (assignment left op right span) = left ∷ right ∷ []

abbrev pub in_for_init : ForInit → List Expression
in_for_init no_init = []
in_for_init (simple_init x) = in_simple x
in_for_init (local_init d) = in_declaration d

abbrev pub in_for_step : Option Simple → List Expression
in_for_step None = []
in_for_step (Some x) = in_simple x

abbrev mutual
  pub in_statement : Statement → List Expression
  in_statement (block items span) = in_statements items
  in_statement (empty span) = []
  in_statement (local d) = in_declaration d
  in_statement (simple x) = in_simple x
  in_statement (if_alone test arm span) = test ∷ in_statement arm
  in_statement (if_else test arm other span) = test ∷ (in_statement arm ++ in_statement other)
  in_statement (while_loop test body span) = test ∷ in_statement body
  in_statement (do_loop body test span) = in_statement body ++ test ∷ []
  in_statement (for_loop init test step body span) = in_for_init init ++ (in_optional test ++ (in_for_step step ++ in_statement body))
  in_statement (switch x body span) = x ∷ in_statement body
  in_statement (case x body span) = x ∷ in_statement body
  in_statement (otherwise body span) = in_statement body
  in_statement (label name body span) = in_statement body
  in_statement (break span) = []
  in_statement (continue span) = []
  in_statement (goto name span) = []
  in_statement (return x span) = in_optional x

  pub in_statements : Statements → List Expression
  in_statements none = []
  in_statements (more first rest) = in_statement first ++ in_statements rest

abbrev pub in_item : UnitItem → List Expression
in_item (structure_item tag other attrs members span) = in_attributes attrs ++ in_declarations members
in_item (alias_item name ctype span) = []
in_item (enumeration_item tag other values span) = in_constants values
in_item (global_item d) = in_declaration d
in_item (function_item head) = in_attributes head.attrs
in_item (body_item head body close) = in_attributes head.attrs ++ in_statements body

abbrev pub expressions_of : List UnitItem → List Expression
expressions_of [] = []
expressions_of (item ∷ items) = in_item item ++ expressions_of items

-- no `.` of the unit has a number as its base
abbrev pub HasPlainBases : List UnitItem → Type 0
HasPlainBases items = list_all has_plain_bases (expressions_of items) ≡ true
