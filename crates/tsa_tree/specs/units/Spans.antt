-- All spans of nodes and names of a unit.
use Rattle.std.specs.Prelude.{ℕ, ◌≤◌, List, [], ◌∷◌, ◌++◌, Some, None, length}
use Rattle.std.specs.declared.option.Option.{Option}
use Rattle.tsa_base.specs.declared.token.Span.{Span}
use Rattle.tsa_tree.specs.declared.item.Item.{Item}
use Rattle.tsa_tree.specs.attributes.Syntax.{Attribute}
use Rattle.tsa_tree.specs.declarations.Syntax.{Base, Initialiser, value, list, Initialisers, no_more, one_more, Declaration, Parameter}
use Rattle.tsa_tree.specs.declarations.Syntax.{EnumConstant, Head}
use Rattle.tsa_tree.specs.expressions.Syntax as expressions
use Rattle.tsa_tree.specs.expressions.Syntax.{Identifier, Expression, Arguments, number, null, named, call, unary, binary, field, index}
use Rattle.tsa_tree.specs.statements.Syntax.{Simple, evaluation, assignment, ForInit, no_init, simple_init, local_init, Statement, block}
use Rattle.tsa_tree.specs.statements.Syntax.{empty, local, simple, if_alone, if_else, while_loop, do_loop, for_loop, switch, case}
use Rattle.tsa_tree.specs.statements.Syntax.{otherwise, label, break, continue, goto, return, Statements, none, more}
use Rattle.tsa_tree.specs.units.Names.{name_of_base}
use Rattle.tsa_tree.specs.units.Shapes.{item_shapes}
use Rattle.tsa_tree.specs.units.Syntax.{UnitItem, structure_item, alias_item, enumeration_item, global_item, function_item, body_item}
use Rattle.tsa_tree.specs.units.WellRead.{IsWellRead}

abbrev mutual
  pub spans_in_expression : Expression → List Span
  spans_in_expression (number worth unsigned span) = span ∷ []
  spans_in_expression (null span) = span ∷ []
  spans_in_expression (named name span) = span ∷ name.span ∷ []
  spans_in_expression (call callee args span) = span ∷ callee.span ∷ spans_in_arguments args
  spans_in_expression (unary op inner span) = span ∷ spans_in_expression inner
  spans_in_expression (binary op left right span) = span ∷ (spans_in_expression left ++ spans_in_expression right)
  spans_in_expression (field base name arrow span) = span ∷ (spans_in_expression base ++ name.span ∷ [])
  spans_in_expression (index base at span) = span ∷ (spans_in_expression base ++ spans_in_expression at)

  pub spans_in_arguments : Arguments → List Span
  spans_in_arguments expressions.none = []
  spans_in_arguments (expressions.more first rest) = spans_in_expression first ++ spans_in_arguments rest

abbrev pub spans_in_optional : Option Expression → List Span
spans_in_optional None = []
spans_in_optional (Some x) = spans_in_expression x

abbrev pub spans_in_attribute : Attribute → List Span
spans_in_attribute x = x.span ∷ spans_in_arguments x.args

abbrev pub spans_in_attributes : List Attribute → List Span
spans_in_attributes [] = []
spans_in_attributes (x ∷ xs) = spans_in_attribute x ++ spans_in_attributes xs

-- that of a name that may be missing
abbrev pub span_of_name : Option Identifier → List Span
span_of_name None = []
span_of_name (Some name) = name.span ∷ []

abbrev pub span_in_base : Base → List Span
span_in_base base = span_of_name (name_of_base base)

abbrev mutual
  pub spans_in_initialiser : Initialiser → List Span
  spans_in_initialiser (value tree) = spans_in_expression tree
  spans_in_initialiser (list items span) = span ∷ spans_in_initialisers items

  pub spans_in_initialisers : Initialisers → List Span
  spans_in_initialisers no_more = []
  spans_in_initialisers (one_more first rest) = spans_in_initialiser first ++ spans_in_initialisers rest

abbrev pub spans_in_init : Option Initialiser → List Span
spans_in_init None = []
spans_in_init (Some x) = spans_in_initialiser x

abbrev pub spans_in_declaration : Declaration → List Span
spans_in_declaration x =
    span_in_base x.ctype.base ++ (x.span ∷ x.name.span ∷ (spans_in_optional x.ctype.length ++ (spans_in_attributes x.attrs ++ spans_in_init x.init)))

abbrev pub spans_in_declarations : List Declaration → List Span
spans_in_declarations [] = []
spans_in_declarations (x ∷ xs) = spans_in_declaration x ++ spans_in_declarations xs

abbrev pub spans_in_parameter : Parameter → List Span
spans_in_parameter x = x.span ∷ (span_in_base x.ctype.base ++ (span_of_name x.name ++ spans_in_optional x.ctype.length))

abbrev pub spans_in_parameters : List Parameter → List Span
spans_in_parameters [] = []
spans_in_parameters (x ∷ xs) = spans_in_parameter x ++ spans_in_parameters xs

abbrev pub spans_in_head : Head → List Span
spans_in_head f =
    span_in_base f.result.base ++ (f.name.span ∷ (spans_in_optional f.result.length ++ (spans_in_parameters f.params ++ spans_in_attributes f.attrs)))

abbrev pub spans_in_constants : List EnumConstant → List Span
spans_in_constants [] = []
spans_in_constants (x ∷ xs) = (x.name.span ∷ spans_in_optional x.value) ++ spans_in_constants xs

abbrev pub spans_in_simple : Simple → List Span
spans_in_simple (evaluation tree span) = span ∷ spans_in_expression tree
spans_in_simple (assignment left op right span) = span ∷ (spans_in_expression left ++ spans_in_expression right)

abbrev pub spans_in_for_init : ForInit → List Span
spans_in_for_init no_init = []
spans_in_for_init (simple_init x) = spans_in_simple x
spans_in_for_init (local_init x) = spans_in_declaration x

abbrev pub spans_in_for_step : Option Simple → List Span
spans_in_for_step None = []
spans_in_for_step (Some x) = spans_in_simple x

abbrev mutual
  pub spans_in_statement : Statement → List Span
  spans_in_statement (block items span) = span ∷ spans_in_statements items
  spans_in_statement (empty span) = span ∷ []
  spans_in_statement (local declaration) = spans_in_declaration declaration
  spans_in_statement (simple what) = spans_in_simple what
  spans_in_statement (if_alone test arm span) = span ∷ (spans_in_expression test ++ spans_in_statement arm)
  spans_in_statement (if_else test arm other span) = span ∷ (spans_in_expression test ++ (spans_in_statement arm ++ spans_in_statement other))
  spans_in_statement (while_loop test body span) = span ∷ (spans_in_expression test ++ spans_in_statement body)
  spans_in_statement (do_loop body test span) = span ∷ (spans_in_statement body ++ spans_in_expression test)
  spans_in_statement (for_loop init test step body span) =
      span ∷ (spans_in_for_init init ++ (spans_in_optional test ++ (spans_in_for_step step ++ spans_in_statement body)))
  spans_in_statement (switch worth body span) = span ∷ (spans_in_expression worth ++ spans_in_statement body)
  spans_in_statement (case worth body span) = span ∷ (spans_in_expression worth ++ spans_in_statement body)
  spans_in_statement (otherwise body span) = span ∷ spans_in_statement body
  spans_in_statement (label name body span) = span ∷ name.span ∷ spans_in_statement body
  spans_in_statement (break span) = span ∷ []
  spans_in_statement (continue span) = span ∷ []
  spans_in_statement (goto name span) = span ∷ name.span ∷ []
  spans_in_statement (return worth span) = span ∷ spans_in_optional worth

  pub spans_in_statements : Statements → List Span
  spans_in_statements none = []
  spans_in_statements (more first rest) = spans_in_statement first ++ spans_in_statements rest

abbrev pub spans_in_item : UnitItem → List Span
spans_in_item (structure_item tag other attrs members span) =
    span ∷ (span_of_name tag ++ (spans_in_declarations members ++ (spans_in_attributes attrs ++ span_of_name other)))
spans_in_item (alias_item name ctype span) = span ∷ (span_in_base ctype.base ++ (name.span ∷ spans_in_optional ctype.length))
spans_in_item (enumeration_item tag other values span) = span ∷ (span_of_name tag ++ (spans_in_constants values ++ span_of_name other))
spans_in_item (global_item declaration) = spans_in_declaration declaration
spans_in_item (function_item head) = spans_in_head head
spans_in_item (body_item head body close) = close ∷ (spans_in_head head ++ spans_in_statements body)

abbrev pub spans_of_unit : List UnitItem → List Span
spans_of_unit [] = []
spans_of_unit (x ∷ xs) = spans_in_item x ++ spans_of_unit xs

-- each span goes forwards, and ends within so many bytes
abbrev pub LieWithin : (limit : ℕ) → List Span → Type 0
LieWithin limit [] = Unit {0}
LieWithin limit (s ∷ ss) = (s.from ≤ s.to) × (s.to ≤ limit) × LieWithin limit ss

-- the spans of a unit that is well read lie in the text that has its tokens
abbrev pub SpansLieInText : Type 0
SpansLieInText = (items : List Item) (read : IsWellRead items) → LieWithin (length read.of_text.text) (spans_of_unit (item_shapes items))
