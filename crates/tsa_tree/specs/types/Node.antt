-- The nodes of a unit: of each kind of node of which some rule of types speaks, what the rule is asked about and what is known there.
use Rattle.std.specs.Prelude.{ℕ, ℤ, Bool, List, Option}
use Rattle.tsa_base.specs.declared.token.Span.{Span}
use Rattle.tsa_tree.specs.declared.expr.BinaryOp.{BinaryOp}
use Rattle.tsa_tree.specs.declared.expr.UnaryOp.{UnaryOp}
use Rattle.tsa_tree.specs.attributes.Syntax.{Attribute}
use Rattle.tsa_tree.specs.declarations.Syntax.{DeclaredType, Initialisers, Declaration, Parameter, EnumConstant, Head}
use Rattle.tsa_tree.specs.expressions.Syntax.{Identifier, Expression, Arguments}
use Rattle.tsa_tree.specs.points.Syntax.{expression_span}
use Rattle.tsa_tree.specs.types.Attributes.{Bearer}
use Rattle.tsa_tree.specs.types.Known.{Context}
use Rattle.tsa_tree.specs.types.Scopes.{Scope, Members}
use Rattle.tsa_tree.specs.types.Statements.{Around}
use Rattle.tsa_tree.specs.types.Types.{ThingType}

-- A node with what it stands in: the names that are known there, and round a statement the function, its labels, loops and switches. What a
-- rule of a larger construct asks of an expression in it is a node of its own, before those of the expression.
pub data Node : Type 0 where
  -- Expressions (C11 6.5): the use of a name, a callee's too, and a member's name behind `.` or `->`.
  name : (c : Context) (used : Identifier) → Node
  call : (c : Context) (callee : Identifier) (args : Arguments) (span : Span) → Node
  prefix : (c : Context) (op : UnaryOp) (inner : Expression) (span : Span) → Node
  binary : (c : Context) (op : BinaryOp) (left right : Expression) (span : Span) → Node
  access : (c : Context) (base : Expression) (arrow : Bool) (span : Span) → Node
  member_name : (c : Context) (base : Expression) (arrow : Bool) (used : Identifier) → Node
  index : (c : Context) (base at : Expression) (span : Span) → Node
  -- Attributes, with what they stand on, and the lock that an argument of one names.
  attribute : (bearer : Bearer) (written : Attribute) → Node
  lock : (here : Scope) (e : Expression) → Node
  -- Types (C11 6.7.2, 6.7.6.2): the tag of a struct or of an enum, the name of a type, and an array's length.
  tag : (here : Scope) (used : Identifier) → Node
  type_name : (here : Scope) (used : Identifier) → Node
  length : (c : Context) (e : Expression) → Node
  -- Items and what they declare (C11 6.7): an enumerator has the count at which it stands, a member those before it.
  structure : (here : Scope) (tag alias : Option Identifier) (span : Span) → Node
  member : (here : Scope) (before : Members) (declared : Declaration) → Node
  enumeration : (here : Scope) (tag alias : Option Identifier) (values : List EnumConstant) (span : Span) → Node
  enumerator : (here : Scope) (count : ℤ) (declared : EnumConstant) → Node
  enumerator_value : (c : Context) (e : Expression) → Node
  alias : (here : Scope) (declared : Identifier) (ctype : DeclaredType) (span : Span) → Node
  global : (here : Scope) (declared : Declaration) → Node
  function : (here : Scope) (head : Head) (with_body : Bool) → Node
  parameter : (here : Scope) (declared : Parameter) → Node
  local : (here : Scope) (declared : Declaration) → Node
  -- Initialisers of the global of a number (C11 6.7.9): an expression for a cell, and a list for what has parts.
  cell : (c : Context) (own : ℕ) (thing : ThingType) (e : Expression) → Node
  list : (here : Scope) (thing : Option ThingType) (items : Initialisers) (span : Span) → Node
  -- Statements (C11 6.8): an assignment and its left side, the test of an `if` or of a loop, the value of a `switch`, and jumps with where
  -- they go.
  assignment : (c : Context) (left : Expression) (op : Option BinaryOp) (right : Expression) (span : Span) → Node
  left_side : (c : Context) (e : Expression) → Node
  test : (c : Context) (e : Expression) (span : Span) → Node
  switch_value : (c : Context) (e : Expression) (span : Span) → Node
  case : (around : Around) (c : Context) (key : Expression) (span : Span) → Node
  case_value : (c : Context) (key : Expression) → Node
  default : (around : Around) (span : Span) → Node
  label : (around : Around) (declared : Identifier) (span : Span) → Node
  goto : (around : Around) (used : Identifier) (span : Span) → Node
  break : (around : Around) (span : Span) → Node
  continue : (around : Around) (span : Span) → Node
  return : (c : Context) (result : ThingType) (given : Option Expression) (span : Span) → Node

-- Where a node is told: a declaration at its declarator, a function and an enumerator at their names, the others where they are written. A
-- test or the value of a `switch` is told at its statement.
unfoldable pub told_at : Node → Span
told_at (name c used) = used.span
told_at (call c callee args span) = span
told_at (prefix c op inner span) = span
told_at (binary c op left right span) = span
told_at (access c base arrow span) = span
told_at (member_name c base arrow used) = used.span
told_at (index c base at span) = span
told_at (attribute bearer written) = written.span
told_at (lock here e) = expression_span e
told_at (tag here used) = used.span
told_at (type_name here used) = used.span
told_at (length c e) = expression_span e
told_at (structure here _ _ span) = span
told_at (member here before declared) = declared.span
told_at (enumeration here _ _ values span) = span
told_at (enumerator here count declared) = declared.name.span
told_at (enumerator_value c e) = expression_span e
told_at (alias here declared ctype span) = span
told_at (global here declared) = declared.span
told_at (function here head with_body) = head.name.span
told_at (parameter here declared) = declared.span
told_at (local here declared) = declared.span
told_at (cell c own thing e) = expression_span e
told_at (list here thing items span) = span
told_at (assignment c left op right span) = span
told_at (left_side c e) = expression_span e
told_at (test c e span) = span
told_at (switch_value c e span) = span
told_at (case around c key span) = span
told_at (case_value c key) = expression_span key
told_at (default around span) = span
told_at (label around declared span) = span
told_at (goto around used span) = span
told_at (break around span) = span
told_at (continue around span) = span
told_at (return c result given span) = span
