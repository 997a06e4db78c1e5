-- The places of the nodes of a unit in the order of the text, a node before its parts. The place of a node is where its span begins. A
-- name that is no node has no place here: a callee, a field's name, a tag and the base of a type. The attributes of a struct stand before
-- its tag and after its brace and are one list in the tree: their places are left out of those of the struct, and rise by themselves.
use Rattle.std.specs.Prelude.{ℕ, ◌≤◌, List, [], ◌∷◌, ◌++◌, Bool, false, Some, None, nat_eq, if◌then◌else◌}
use Rattle.std.specs.declared.option.Option.{Option}
use Rattle.tsa_tree.specs.declared.item.Item.{Item}
use Rattle.tsa_tree.specs.attributes.Syntax.{Attribute}
use Rattle.tsa_tree.specs.declarations.Syntax.{Initialiser, value, list, Initialisers, no_more, one_more, Declaration, Parameter}
use Rattle.tsa_tree.specs.declarations.Syntax.{EnumConstant, Head}
use Rattle.tsa_tree.specs.expressions.Syntax as expressions
use Rattle.tsa_tree.specs.expressions.Syntax.{Expression, Arguments, number, null, named, call, unary, binary, field, index}
use Rattle.tsa_tree.specs.statements.Syntax.{Simple, evaluation, assignment, ForInit, no_init, simple_init, local_init, Statement, block}
use Rattle.tsa_tree.specs.statements.Syntax.{empty, local, simple, if_alone, if_else, while_loop, do_loop, for_loop, switch, case}
use Rattle.tsa_tree.specs.statements.Syntax.{otherwise, label, break, continue, goto, return, Statements, none, more}
use Rattle.tsa_tree.specs.units.Shapes.{item_shapes}
use Rattle.tsa_tree.specs.units.Syntax.{UnitItem, structure_item, alias_item, enumeration_item, global_item, function_item, body_item}
use Rattle.tsa_tree.specs.units.WellRead.{IsWellRead}

abbrev mutual
  pub places_in_expression : Expression → List ℕ
  places_in_expression (number worth unsigned span) = span.from ∷ []
  places_in_expression (null span) = span.from ∷ []
  places_in_expression (named name span) = span.from ∷ []
  places_in_expression (call callee args span) = span.from ∷ places_in_arguments args
  places_in_expression (unary op inner span) = span.from ∷ places_in_expression inner
  places_in_expression (binary op left right span) = span.from ∷ (places_in_expression left ++ places_in_expression right)
  places_in_expression (field base name arrow span) = span.from ∷ places_in_expression base
  places_in_expression (index base at span) = span.from ∷ (places_in_expression base ++ places_in_expression at)

  pub places_in_arguments : Arguments → List ℕ
  places_in_arguments expressions.none = []
  places_in_arguments (expressions.more first rest) = places_in_expression first ++ places_in_arguments rest

abbrev pub places_in_optional : Option Expression → List ℕ
places_in_optional None = []
places_in_optional (Some x) = places_in_expression x

abbrev pub places_in_attribute : Attribute → List ℕ
places_in_attribute x = x.span.from ∷ places_in_arguments x.args

abbrev pub places_in_attributes : List Attribute → List ℕ
places_in_attributes [] = []
places_in_attributes (x ∷ xs) = places_in_attribute x ++ places_in_attributes xs

abbrev mutual
  pub places_in_initialiser : Initialiser → List ℕ
  places_in_initialiser (value tree) = places_in_expression tree
  places_in_initialiser (list items span) = span.from ∷ places_in_initialisers items

  pub places_in_initialisers : Initialisers → List ℕ
  places_in_initialisers no_more = []
  places_in_initialisers (one_more first rest) = places_in_initialiser first ++ places_in_initialisers rest

abbrev pub places_in_init : Option Initialiser → List ℕ
places_in_init None = []
places_in_init (Some x) = places_in_initialiser x

abbrev pub places_in_declaration : Declaration → List ℕ
places_in_declaration x = x.span.from ∷ (places_in_optional x.ctype.length ++ (places_in_attributes x.attrs ++ places_in_init x.init))

abbrev pub places_in_declarations : List Declaration → List ℕ
places_in_declarations [] = []
places_in_declarations (x ∷ xs) = places_in_declaration x ++ places_in_declarations xs

abbrev pub places_in_parameters : List Parameter → List ℕ
places_in_parameters [] = []
places_in_parameters (x ∷ xs) = (x.span.from ∷ places_in_optional x.ctype.length) ++ places_in_parameters xs

-- the place of its name stands for a function
abbrev pub places_in_head : Head → List ℕ
places_in_head f = f.name.span.from ∷ (places_in_parameters f.params ++ places_in_attributes f.attrs)

-- and for an enumerator
abbrev pub places_in_constants : List EnumConstant → List ℕ
places_in_constants [] = []
places_in_constants (x ∷ xs) = (x.name.span.from ∷ places_in_optional x.value) ++ places_in_constants xs

-- whether the first of some places is this one
abbrev pub begins_with : (places : List ℕ) → (place : ℕ) → Bool
begins_with [] place = false
begins_with (x ∷ xs) place = nat_eq x place

-- The operands of an assignment that begins at a place. A `++` or `--` assigns one more or less, and the 1 stands at the operator as the
-- right operand: where the operator comes first, as in `++x`, the assignment begins with it, and the other operand comes after it.
abbrev pub places_in_operands : (place : ℕ) → (left right : List ℕ) → List ℕ
places_in_operands place left right = if begins_with right place then right ++ left else left ++ right

abbrev pub places_in_simple : Simple → List ℕ
places_in_simple (evaluation tree span) = span.from ∷ places_in_expression tree
places_in_simple (assignment left op right span) =
    span.from ∷ places_in_operands span.from (places_in_expression left) (places_in_expression right)

abbrev pub places_in_for_init : ForInit → List ℕ
places_in_for_init no_init = []
places_in_for_init (simple_init x) = places_in_simple x
places_in_for_init (local_init x) = places_in_declaration x

abbrev pub places_in_for_step : Option Simple → List ℕ
places_in_for_step None = []
places_in_for_step (Some x) = places_in_simple x

abbrev mutual
  pub places_in_statement : Statement → List ℕ
  places_in_statement (block items span) = span.from ∷ places_in_statements items
  places_in_statement (empty span) = span.from ∷ []
  places_in_statement (local declaration) = places_in_declaration declaration
  places_in_statement (simple what) = places_in_simple what
  places_in_statement (if_alone test arm span) = span.from ∷ (places_in_expression test ++ places_in_statement arm)
  places_in_statement (if_else test arm other span) =
      span.from ∷ (places_in_expression test ++ (places_in_statement arm ++ places_in_statement other))
  places_in_statement (while_loop test body span) = span.from ∷ (places_in_expression test ++ places_in_statement body)
  places_in_statement (do_loop body test span) = span.from ∷ (places_in_statement body ++ places_in_expression test)
  places_in_statement (for_loop init test step body span) =
      span.from ∷ (places_in_for_init init ++ (places_in_optional test ++ (places_in_for_step step ++ places_in_statement body)))
  places_in_statement (switch worth body span) = span.from ∷ (places_in_expression worth ++ places_in_statement body)
  places_in_statement (case worth body span) = span.from ∷ (places_in_expression worth ++ places_in_statement body)
  places_in_statement (otherwise body span) = span.from ∷ places_in_statement body
  places_in_statement (label name body span) = span.from ∷ places_in_statement body
  places_in_statement (break span) = span.from ∷ []
  places_in_statement (continue span) = span.from ∷ []
  places_in_statement (goto name span) = span.from ∷ []
  places_in_statement (return worth span) = span.from ∷ places_in_optional worth

  pub places_in_statements : Statements → List ℕ
  places_in_statements none = []
  places_in_statements (more first rest) = places_in_statement first ++ places_in_statements rest

-- for a function with a body the place of the brace that closes it, too
abbrev pub places_in_item : UnitItem → List ℕ
places_in_item (structure_item tag other attrs members span) = span.from ∷ places_in_declarations members
places_in_item (alias_item name ctype span) = span.from ∷ places_in_optional ctype.length
places_in_item (enumeration_item tag other values span) = span.from ∷ places_in_constants values
places_in_item (global_item declaration) = places_in_declaration declaration
places_in_item (function_item head) = places_in_head head
places_in_item (body_item head body close) = places_in_head head ++ (places_in_statements body ++ close.from ∷ [])

abbrev pub places_of_unit : List UnitItem → List ℕ
places_of_unit [] = []
places_of_unit (x ∷ xs) = places_in_item x ++ places_of_unit xs

-- each place is at most the next one
abbrev pub Rise : List ℕ → Type 0
Rise [] = Unit {0}
Rise (x ∷ []) = Unit {0}
Rise (x ∷ y ∷ rest) = (x ≤ y) × Rise (y ∷ rest)

-- the attributes of a struct
abbrev pub attributes_of_structure : UnitItem → List Attribute
attributes_of_structure (structure_item tag other attrs members span) = attrs
attributes_of_structure other = []

-- the places in the attributes of each struct rise
abbrev pub RiseInStructures : List UnitItem → Type 0
RiseInStructures [] = Unit {0}
RiseInStructures (x ∷ xs) = Rise (places_in_attributes (attributes_of_structure x)) × RiseInStructures xs

-- the places in a unit that is well read rise
abbrev pub NodesRise : Type 0
NodesRise = (items : List Item) → IsWellRead items → Rise (places_of_unit (item_shapes items)) × RiseInStructures (item_shapes items)
