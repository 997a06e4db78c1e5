-- All names that a unit declares or uses, each with where it stands. They come in the order of the text, but for the attributes of a
-- struct, which stand before its tag and after its brace and are one list.
use Rattle.std.specs.Prelude.{◌≢◌, List, [], ◌∷◌, ◌++◌, Bool, false, Some, None, nat_eq, if◌then◌else◌}
use Rattle.std.specs.declared.option.Option.{Option}
use Rattle.tsa_tree.specs.declared.item.Item.{Item}
use Rattle.tsa_tree.specs.attributes.Syntax.{Attribute}
use Rattle.tsa_tree.specs.declarations.Syntax.{Base, structure, enumerated, alias, Initialiser, value, list, Initialisers, no_more}
use Rattle.tsa_tree.specs.declarations.Syntax.{one_more, Declaration, Parameter, EnumConstant, Head}
use Rattle.tsa_tree.specs.expressions.Syntax as expressions
use Rattle.tsa_tree.specs.expressions.Syntax.{Identifier, Expression, Arguments, number, null, named, call, unary, binary, field, index}
use Rattle.tsa_tree.specs.statements.Syntax.{Simple, evaluation, assignment, ForInit, no_init, simple_init, local_init, Statement, block}
use Rattle.tsa_tree.specs.statements.Syntax.{empty, local, simple, if_alone, if_else, while_loop, do_loop, for_loop, switch, case}
use Rattle.tsa_tree.specs.statements.Syntax.{otherwise, label, break, continue, goto, return, Statements, none, more}
use Rattle.tsa_tree.specs.units.Shapes.{item_shapes}
use Rattle.tsa_tree.specs.units.Syntax.{UnitItem, structure_item, alias_item, enumeration_item, global_item, function_item, body_item}
use Rattle.tsa_tree.specs.units.WellRead.{IsWellRead}

-- variables, callees and members
abbrev mutual
  pub names_in_expression : Expression → List Identifier
  names_in_expression (number worth unsigned span) = []
  names_in_expression (null span) = []
  names_in_expression (named name span) = name ∷ []
  names_in_expression (call callee args span) = callee ∷ names_in_arguments args
  names_in_expression (unary op inner span) = names_in_expression inner
  names_in_expression (binary op left right span) = names_in_expression left ++ names_in_expression right
  names_in_expression (field base name arrow span) = names_in_expression base ++ name ∷ []
  names_in_expression (index base at span) = names_in_expression base ++ names_in_expression at

  pub names_in_arguments : Arguments → List Identifier
  names_in_arguments expressions.none = []
  names_in_arguments (expressions.more first rest) = names_in_expression first ++ names_in_arguments rest

abbrev pub names_in_optional : Option Expression → List Identifier
names_in_optional None = []
names_in_optional (Some x) = names_in_expression x

abbrev pub names_in_attributes : List Attribute → List Identifier
names_in_attributes [] = []
names_in_attributes (x ∷ xs) = names_in_arguments x.args ++ names_in_attributes xs

-- a name that may be missing
abbrev pub the_name : Option Identifier → List Identifier
the_name None = []
the_name (Some name) = name ∷ []

-- a tag, or the name of a type
abbrev pub name_of_base : Base → Option Identifier
name_of_base (structure tag) = Some tag
name_of_base (enumerated tag) = Some tag
name_of_base (alias name) = Some name
name_of_base other = None

abbrev pub begins_where : Option Identifier → Identifier → Bool
begins_where None name = false
begins_where (Some other) name = nat_eq other.span.from name.span.from

-- The name of a base, where the declaration just before may have the same one: `struct s *a, *b;` gives two declarations and has the
-- name `s` once, so it is left out where the base before has a name that begins at the same place.
abbrev pub name_unshared : (before name : Option Identifier) → List Identifier
name_unshared before None = []
name_unshared before (Some name) = if begins_where before name then [] else name ∷ []

abbrev mutual
  pub names_in_initialiser : Initialiser → List Identifier
  names_in_initialiser (value tree) = names_in_expression tree
  names_in_initialiser (list items span) = names_in_initialisers items

  pub names_in_initialisers : Initialisers → List Identifier
  names_in_initialisers no_more = []
  names_in_initialisers (one_more first rest) = names_in_initialiser first ++ names_in_initialisers rest

abbrev pub names_in_init : Option Initialiser → List Identifier
names_in_init None = []
names_in_init (Some x) = names_in_initialiser x

-- the name that a declaration declares, and those after it
abbrev pub names_behind_base : Declaration → List Identifier
names_behind_base x = x.name ∷ (names_in_optional x.ctype.length ++ (names_in_attributes x.attrs ++ names_in_init x.init))

abbrev pub base_in : Declaration → Option Identifier
base_in x = name_of_base x.ctype.base

abbrev pub names_in_declaration : (before : Option Identifier) → Declaration → List Identifier
names_in_declaration before x = name_unshared before (base_in x) ++ names_behind_base x

abbrev pub names_in_declarations : (before : Option Identifier) → List Declaration → List Identifier
names_in_declarations before [] = []
names_in_declarations before (x ∷ xs) = names_in_declaration before x ++ names_in_declarations (base_in x) xs

abbrev pub names_in_parameters : List Parameter → List Identifier
names_in_parameters [] = []
names_in_parameters (x ∷ xs) =
    (the_name (name_of_base x.ctype.base) ++ (the_name x.name ++ names_in_optional x.ctype.length)) ++ names_in_parameters xs

abbrev pub names_in_head : Head → List Identifier
names_in_head f =
    the_name (name_of_base f.result.base) ++ (f.name ∷ (names_in_optional f.result.length ++ (names_in_parameters f.params ++ names_in_attributes f.attrs)))

abbrev pub names_in_constants : List EnumConstant → List Identifier
names_in_constants [] = []
names_in_constants (x ∷ xs) = (x.name ∷ names_in_optional x.value) ++ names_in_constants xs

abbrev pub names_in_simple : Simple → List Identifier
names_in_simple (evaluation tree span) = names_in_expression tree
names_in_simple (assignment left op right span) = names_in_expression left ++ names_in_expression right

abbrev pub names_in_for_init : ForInit → List Identifier
names_in_for_init no_init = []
names_in_for_init (simple_init x) = names_in_simple x
names_in_for_init (local_init x) = names_in_declaration None x

abbrev pub names_in_for_step : Option Simple → List Identifier
names_in_for_step None = []
names_in_for_step (Some x) = names_in_simple x

-- the base of a local
abbrev pub base_in_statement : Statement → Option Identifier
base_in_statement (local declaration) = base_in declaration
base_in_statement other = None

abbrev mutual
  pub names_in_statement : (before : Option Identifier) → Statement → List Identifier
  names_in_statement before (block items span) = names_in_statements None items
  names_in_statement before (empty span) = []
  names_in_statement before (local declaration) = names_in_declaration before declaration
  names_in_statement before (simple what) = names_in_simple what
  names_in_statement before (if_alone test arm span) = names_in_expression test ++ names_in_statement None arm
  names_in_statement before (if_else test arm other span) =
      names_in_expression test ++ (names_in_statement None arm ++ names_in_statement None other)
  names_in_statement before (while_loop test body span) = names_in_expression test ++ names_in_statement None body
  names_in_statement before (do_loop body test span) = names_in_statement None body ++ names_in_expression test
  names_in_statement before (for_loop init test step body span) =
      names_in_for_init init ++ (names_in_optional test ++ (names_in_for_step step ++ names_in_statement None body))
  names_in_statement before (switch worth body span) = names_in_expression worth ++ names_in_statement None body
  names_in_statement before (case worth body span) = names_in_expression worth ++ names_in_statement None body
  names_in_statement before (otherwise body span) = names_in_statement None body
  names_in_statement before (label name body span) = name ∷ names_in_statement None body
  names_in_statement before (break span) = []
  names_in_statement before (continue span) = []
  names_in_statement before (goto name span) = name ∷ []
  names_in_statement before (return worth span) = names_in_optional worth

  pub names_in_statements : (before : Option Identifier) → Statements → List Identifier
  names_in_statements before none = []
  names_in_statements before (more first rest) = names_in_statement before first ++ names_in_statements (base_in_statement first) rest

-- the base of a global
abbrev pub base_in_item : UnitItem → Option Identifier
base_in_item (global_item declaration) = base_in declaration
base_in_item other = None

abbrev pub names_in_item : (before : Option Identifier) → UnitItem → List Identifier
names_in_item before (structure_item tag other attrs members span) =
    the_name tag ++ (names_in_declarations None members ++ (names_in_attributes attrs ++ the_name other))
names_in_item before (alias_item name ctype span) = the_name (name_of_base ctype.base) ++ (name ∷ names_in_optional ctype.length)
names_in_item before (enumeration_item tag other values span) = the_name tag ++ (names_in_constants values ++ the_name other)
names_in_item before (global_item declaration) = names_in_declaration before declaration
names_in_item before (function_item head) = names_in_head head
names_in_item before (body_item head body close) = names_in_head head ++ names_in_statements None body

abbrev pub names_in_items : (before : Option Identifier) → List UnitItem → List Identifier
names_in_items before [] = []
names_in_items before (x ∷ xs) = names_in_item before x ++ names_in_items (base_in_item x) xs

abbrev pub names_of_unit : List UnitItem → List Identifier
names_of_unit items = names_in_items None items

-- a name begins elsewhere than each of some
abbrev pub BeginsElsewhere : Identifier → List Identifier → Type 0
BeginsElsewhere x [] = Unit {0}
BeginsElsewhere x (y ∷ ys) = (x.span.from ≢ y.span.from) × BeginsElsewhere x ys

-- no two of some names begin at the same place
abbrev pub AreApart : List Identifier → Type 0
AreApart [] = Unit {0}
AreApart (x ∷ xs) = BeginsElsewhere x xs × AreApart xs

-- the names of a unit that is well read stand at different places
abbrev pub NamesStandApart : Type 0
NamesStandApart = (items : List Item) → IsWellRead items → AreApart (names_of_unit (item_shapes items))
