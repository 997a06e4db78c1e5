-- The nodes of a unit in order of the text, each before its parts. A declaration stands before the names in its type, and what a rule of a
-- larger construct asks of an expression before the nodes of that expression.
use Rattle.std.specs.Prelude.{ℕ, suc, ℤ, pos, ◌+ℤ◌, Bool, true, false, List, [], ◌∷◌, ◌++◌, Option, Some, None, drop, slice_get}
use Rattle.tsa_base.specs.declared.token.Span.{Span}
use Rattle.tsa_tree.specs.attributes.Syntax.{Attribute}
use Rattle.tsa_tree.specs.declarations.Syntax as declared
use Rattle.tsa_tree.specs.declarations.Syntax.{Base, DeclaredType, Initialiser, Initialisers, value, list, no_more, one_more, Declaration}
use Rattle.tsa_tree.specs.declarations.Syntax.{Parameter, EnumConstant, Head}
use Rattle.tsa_tree.specs.expressions.Syntax as args
use Rattle.tsa_tree.specs.expressions.Syntax.{Identifier, Expression, Arguments, number, null, named, call, unary, binary, field, index}
use Rattle.tsa_tree.specs.statements.Syntax.{Simple, evaluation, assignment, ForInit, no_init, simple_init, local_init, Statement, block}
use Rattle.tsa_tree.specs.statements.Syntax.{empty, local, simple, if_alone, if_else, while_loop, do_loop, for_loop, switch, case}
use Rattle.tsa_tree.specs.statements.Syntax.{otherwise, label, break, continue, goto, return, Statements, none, more}
use Rattle.tsa_tree.specs.units.Syntax.{UnitItem, structure_item, alias_item, enumeration_item, global_item, function_item, body_item}
use Rattle.tsa_tree.specs.declared.premise.Bearer.TheVariants as on
use Rattle.tsa_tree.specs.types.Attributes.{Bearer, attributes_beside}
use Rattle.tsa_tree.specs.types.DeclaredTypes.{thing_type}
use Rattle.tsa_tree.specs.types.Enums.{enumerator_entry, enumerator_value}
use Rattle.tsa_tree.specs.types.Globals.{with_global, bearer_of}
use Rattle.tsa_tree.specs.types.Heads.{with_param, behind_head, inside}
use Rattle.tsa_tree.specs.types.Initialisers.{parts_of, or_no_parts}
use Rattle.tsa_tree.specs.types.Known.{Context}
use Rattle.tsa_tree.specs.types.Node as node
use Rattle.tsa_tree.specs.types.Node.{Node}
use Rattle.tsa_tree.specs.types.Scopes.{Scope, Members, context_of, with_name, with_owned, further}
use Rattle.tsa_tree.specs.types.Statements.{Around, in_a_loop, in_a_switch, behind_init, is_again, behind}
use Rattle.tsa_tree.specs.types.Structs.{with_member, first_place}
use Rattle.tsa_tree.specs.types.Targets.{declared_in}
use Rattle.tsa_tree.specs.types.Types.{ThingType}
use Rattle.tsa_tree.specs.types.Units.{outset, behind_item, around_body}

-- The nodes of an expression (C11 6.5): a number and `NULL` are none, since no rule speaks of them alone.
unfoldable mutual
  pub nodes_in : Context → Expression → List Node
  nodes_in c (number n u span) = []
  nodes_in c (null span) = []
  nodes_in c (named name span) = node.name c name ∷ []
  nodes_in c (call callee given span) = node.call c callee given span ∷ node.name c callee ∷ nodes_in_arguments c given
  nodes_in c (unary op inner span) = node.prefix c op inner span ∷ nodes_in c inner
  nodes_in c (binary op left right span) = node.binary c op left right span ∷ nodes_in c left ++ nodes_in c right
  nodes_in c (field base name arrow span) = node.access c base arrow span ∷ nodes_in c base ++ node.member_name c base arrow name ∷ []
  nodes_in c (index base at span) = node.index c base at span ∷ nodes_in c base ++ nodes_in c at

  -- those of the arguments of a call or of an attribute
  pub nodes_in_arguments : Context → Arguments → List Node
  nodes_in_arguments c args.none = []
  nodes_in_arguments c (args.more first rest) = nodes_in c first ++ nodes_in_arguments c rest

-- The tag or the name of a type with which a declared type begins (C11 6.7.2).
abbrev pub nodes_in_base : Scope → Base → List Node
nodes_in_base here (declared.structure tag) = node.tag here tag ∷ []
nodes_in_base here (declared.enumerated tag) = node.tag here tag ∷ []
nodes_in_base here (declared.alias name) = node.type_name here name ∷ []
nodes_in_base here _ = []

-- An array's length, where there is one (C11 6.7.6.2).
abbrev pub nodes_in_length : Context → Option Expression → List Node
nodes_in_length c None = []
nodes_in_length c (Some e) = node.length c e ∷ nodes_in c e

-- The parts of a declared type.
abbrev pub nodes_in_type : Scope → DeclaredType → List Node
nodes_in_type here t = nodes_in_base here t.base ++ nodes_in_length (context_of here) t.length

-- The arguments of an attribute, each of which names a lock.
unfoldable pub nodes_in_locks : Scope → Arguments → List Node
nodes_in_locks here args.none = []
nodes_in_locks here (args.more first rest) = (node.lock here first ∷ nodes_in (context_of here) first) ++ nodes_in_locks here rest

-- Attributes in order, on a bearer.
unfoldable pub nodes_in_attributes : Scope → Bearer → List Attribute → List Node
nodes_in_attributes here bearer [] = []
nodes_in_attributes here bearer (a ∷ rest) = (node.attribute bearer a ∷ nodes_in_locks here a.args) ++ nodes_in_attributes here bearer rest

-- Members behind others: a member's guards see the members before it first.
unfoldable pub nodes_in_members : Scope → Members → List Declaration → List Node
nodes_in_members here before [] = []
nodes_in_members here before (d ∷ rest) =
    (node.member here before d ∷ nodes_in_type here d.ctype ++ nodes_in_attributes (with_owned before here) on.Member d.attrs)
    ++ nodes_in_members here (with_member here before d) rest

-- A struct: its attributes stand before its members or behind them (C11 6.7.2.1).
abbrev pub nodes_in_struct : Scope → Option Identifier → Option Identifier → List Attribute → List Declaration → Span → List Node
nodes_in_struct here tag alias attrs members span =
    node.structure here tag alias span
    ∷ nodes_in_attributes here on.Structure (attributes_beside true (first_place span.to members) attrs)
    ++ (nodes_in_members here [] members ++ nodes_in_attributes here on.Structure (attributes_beside false (first_place span.to members) attrs))

-- The value of an enumerator, where one is written.
abbrev pub nodes_in_value : Context → Option Expression → List Node
nodes_in_value c None = []
nodes_in_value c (Some e) = node.enumerator_value c e ∷ nodes_in c e

-- Enumerators from a count on: each is known behind its value, and the next one counts on from there (C11 6.7.2.2p3).
unfoldable pub nodes_in_enumerators : Scope → ℤ → List EnumConstant → List Node
nodes_in_enumerators here count [] = []
nodes_in_enumerators here count (e ∷ rest) =
    (node.enumerator here count e ∷ nodes_in_value (context_of here) e.value)
    ++ nodes_in_enumerators (with_name e.name.text (enumerator_entry (enumerator_value here e count)) here) (enumerator_value here e count +ℤ pos 1) rest

-- An expression that initialises a cell, in the initialiser of the global of a number; of what is beyond the parts of a thing, its own
-- nodes alone.
abbrev pub nodes_in_cell : Context → ℕ → Option ThingType → Expression → List Node
nodes_in_cell c own None e = nodes_in c e
nodes_in_cell c own (Some thing) e = node.cell c own thing e ∷ nodes_in c e

-- An initialiser of what has a type, where it has one (C11 6.7.9).
unfoldable mutual
  pub nodes_in_initialiser : Scope → ℕ → Option ThingType → Initialiser → List Node
  nodes_in_initialiser here own thing (value e) = nodes_in_cell (context_of here) own thing e
  nodes_in_initialiser here own thing (list items span) =
      node.list here thing items span ∷ nodes_in_initialisers here own (or_no_parts (parts_of here thing)) items

  -- the first item is that of the first part, and so on
  pub nodes_in_initialisers : Scope → ℕ → List ThingType → Initialisers → List Node
  nodes_in_initialisers here own types no_more = []
  nodes_in_initialisers here own types (one_more first rest) =
      nodes_in_initialiser here own (slice_get types 0) first ++ nodes_in_initialisers here own (drop 1 types) rest

-- The initialiser of a global, where there is one.
abbrev pub nodes_in_init : Scope → ℕ → ThingType → Option Initialiser → List Node
nodes_in_init here own thing None = []
nodes_in_init here own thing (Some i) = nodes_in_initialiser here own (Some thing) i

-- A global: it is known in its own length, attributes and initialiser.
abbrev pub nodes_in_global : Scope → Declaration → List Node
nodes_in_global here d =
    node.global here d
    ∷ nodes_in_base here d.ctype.base
    ++ (nodes_in_length (context_of (with_global here d)) d.ctype.length
    ++ (nodes_in_attributes (with_global here d) (bearer_of (with_global here d) (thing_type here d.ctype)) d.attrs
    ++ nodes_in_init (with_global here d) here.globals (thing_type here d.ctype) d.init))

-- Parameters from a number on: each is known behind itself (C11 6.7.6.3).
unfoldable pub nodes_in_parameters : Scope → ℕ → List Parameter → List Node
nodes_in_parameters here n [] = []
nodes_in_parameters here n (p ∷ rest) = (node.parameter here p ∷ nodes_in_type here p.ctype) ++ nodes_in_parameters (with_param n p here) (suc n) rest

-- A function's head: its name is known in its parameters, and they are known in its attributes.
abbrev pub nodes_in_head : Scope → Head → Bool → List Node
nodes_in_head here head with_body =
    node.function here head with_body
    ∷ nodes_in_type here head.result
    ++ (nodes_in_parameters (behind_head here head with_body) 0 head.params ++ nodes_in_attributes (inside here head with_body) on.Function head.attrs)

-- The initialiser of a local: no list in braces fits one, and its parts are nodes still.
unfoldable mutual
  pub nodes_in_local_init : Context → Initialiser → List Node
  nodes_in_local_init c (value e) = nodes_in c e
  nodes_in_local_init c (list items span) = nodes_in_local_inits c items

  pub nodes_in_local_inits : Context → Initialisers → List Node
  nodes_in_local_inits c no_more = []
  nodes_in_local_inits c (one_more first rest) = nodes_in_local_init c first ++ nodes_in_local_inits c rest

-- That of a local, where there is one.
abbrev pub nodes_in_given_init : Context → Option Initialiser → List Node
nodes_in_given_init c None = []
nodes_in_given_init c (Some i) = nodes_in_local_init c i

-- A local: it isn't known in its own length and initialiser (C11 6.8.2).
abbrev pub nodes_in_local : Scope → Declaration → List Node
nodes_in_local here d =
    node.local here d ∷ nodes_in_type here d.ctype ++ (nodes_in_attributes here on.Local d.attrs ++ nodes_in_given_init (context_of here) d.init)

-- An expression or an assignment (C11 6.5.16, 6.8.3).
abbrev pub nodes_in_simple : Context → Simple → List Node
nodes_in_simple c (evaluation e span) = nodes_in c e
nodes_in_simple c (assignment left op right span) =
    node.assignment c left op right span ∷ (node.left_side c left ∷ nodes_in c left) ++ nodes_in c right

-- An expression that may be left out.
abbrev pub nodes_in_given : Context → Option Expression → List Node
nodes_in_given c None = []
nodes_in_given c (Some e) = nodes_in c e

-- The test of a `for`, which is told at the statement, before its parts. Where its local is declared again it isn't said which of the two
-- the test means, and there is no such node.
abbrev pub for_test : Bool → Context → Option Expression → Span → List Node
for_test again c None span = []
for_test true c (Some e) span = []
for_test false c (Some e) span = node.test c e span ∷ []

-- The first part of a `for`.
abbrev pub nodes_in_for_init : Scope → ForInit → List Node
nodes_in_for_init here no_init = []
nodes_in_for_init here (simple_init s) = nodes_in_simple (context_of here) s
nodes_in_for_init here (local_init d) = nodes_in_local here d

-- The last part of a `for`.
abbrev pub nodes_in_step : Context → Option Simple → List Node
nodes_in_step c None = []
nodes_in_step c (Some s) = nodes_in_simple c s

-- A `for` up to its body: what its first part declares is known in the others (C11 6.8.5.3).
abbrev pub nodes_in_for : Scope → ForInit → Option Expression → Option Simple → Span → List Node
nodes_in_for here init test step span =
    for_test (is_again here init) (context_of (behind_init here init)) test span
    ++ (nodes_in_for_init here init
    ++ (nodes_in_given (context_of (behind_init here init)) test ++ nodes_in_step (context_of (behind_init here init)) step))

-- The nodes of a statement, with what is round it (C11 6.8): a `break` inside a loop or a switch goes behind it, and a `case` belongs to
-- the switch.
unfoldable mutual
  pub nodes_in_statement : Around → Scope → Statement → List Node
  nodes_in_statement a here (block items span) = nodes_in_statements a here items
  nodes_in_statement a here (empty span) = []
  nodes_in_statement a here (local d) = nodes_in_local here d
  nodes_in_statement a here (simple s) = nodes_in_simple (context_of here) s
  nodes_in_statement a here (if_alone test arm span) =
      node.test (context_of here) test span ∷ nodes_in (context_of here) test ++ nodes_in_statement a here arm
  nodes_in_statement a here (if_else test arm other span) =
      node.test (context_of here) test span
      ∷ nodes_in (context_of here) test
      ++ (nodes_in_statement a here arm ++ nodes_in_statement a (further (declared_in arm) here) other)
  nodes_in_statement a here (while_loop test body span) =
      node.test (context_of here) test span ∷ nodes_in (context_of here) test ++ nodes_in_statement (in_a_loop a) here body
  nodes_in_statement a here (do_loop body test span) =
      node.test (context_of here) test span ∷ nodes_in_statement (in_a_loop a) here body ++ nodes_in (context_of here) test
  nodes_in_statement a here (for_loop init test step body span) =
      nodes_in_for here init test step span ++ nodes_in_statement (in_a_loop a) (behind_init here init) body
  nodes_in_statement a here (switch key body span) =
      node.switch_value (context_of here) key span ∷ nodes_in (context_of here) key ++ nodes_in_statement (in_a_switch here body a) here body
  nodes_in_statement a here (case key body span) =
      node.case a (context_of here) key span ∷ (node.case_value (context_of here) key ∷ nodes_in (context_of here) key) ++ nodes_in_statement a here body
  nodes_in_statement a here (otherwise body span) = node.default a span ∷ nodes_in_statement a here body
  nodes_in_statement a here (label name body span) = node.label a name span ∷ nodes_in_statement a here body
  nodes_in_statement a here (break span) = node.break a span ∷ []
  nodes_in_statement a here (continue span) = node.continue a span ∷ []
  nodes_in_statement a here (goto name span) = node.goto a name span ∷ []
  nodes_in_statement a here (return given span) = node.return (context_of here) a.result given span ∷ nodes_in_given (context_of here) given

  -- those of the statements of a block, where a local is known from behind it on
  pub nodes_in_statements : Around → Scope → Statements → List Node
  nodes_in_statements a here none = []
  nodes_in_statements a here (more first rest) = nodes_in_statement a here first ++ nodes_in_statements a (behind here first) rest

-- The nodes of an item (C11 6.7, 6.9).
abbrev pub nodes_in_item : Scope → UnitItem → List Node
nodes_in_item here (structure_item tag alias attrs members span) = nodes_in_struct here tag alias attrs members span
nodes_in_item here (alias_item name ctype span) = node.alias here name ctype span ∷ nodes_in_type here ctype
nodes_in_item here (enumeration_item tag alias values span) = node.enumeration here tag alias values span ∷ nodes_in_enumerators here (pos 0) values
nodes_in_item here (global_item d) = nodes_in_global here d
nodes_in_item here (function_item head) = nodes_in_head here head false
nodes_in_item here (body_item head body close) = nodes_in_head here head true ++ nodes_in_statements (around_body here head body) (inside here head true) body

-- Those of items, each with what the items before it declare.
unfoldable pub nodes_in_items : Scope → List UnitItem → List Node
nodes_in_items here [] = []
nodes_in_items here (item ∷ rest) = nodes_in_item here item ++ nodes_in_items (behind_item here item) rest

-- All the nodes of a unit.
abbrev pub nodes : List UnitItem → List Node
nodes items = nodes_in_items (outset items) items
