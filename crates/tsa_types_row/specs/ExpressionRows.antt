-- The rows of expressions (C11 6.5): each node in front of its parts, with its type and what it is worth.
use Rattle.std.specs.Prelude.{ℕ, zero, suc, Bool, false, ◌&&◌, List, [], ◌++◌, Option, Some, None, option_and_then}
use Rattle.tsa_base.specs.declared.token.Span.{Span}
use Rattle.tsa_tree.specs.declared.kind.ExpressionType.{ExpressionType}
use Rattle.tsa_tree.specs.declared.kind.Kind.TheVariants as type
use Rattle.tsa_tree.specs.declared.kind.ThingType.{ThingType}
use Rattle.tsa_tree.specs.declared.meaning.Entry.{Entry}
use Rattle.tsa_tree.specs.expressions.Syntax.{Identifier, Expression, Arguments, number, null, named, call, unary, binary, field, index}
use Rattle.tsa_tree.specs.expressions.Syntax as args
use Rattle.tsa_tree.specs.points.Syntax.{expression_span}
use Rattle.tsa_tree.specs.types.DeclaredTypes.{value_in}
use Rattle.tsa_tree.specs.types.Expressions.{owner, type_of}
use Rattle.tsa_tree.specs.types.Lookups.{members_at, numbered}
use Rattle.tsa_tree.specs.types.Operands.{pointer_kind}
use Rattle.tsa_tree.specs.types.Scopes.{Scope, context_of, known_in}
use Rattle.tsa_tree.specs.types.Symbols.{entry_symbol, meant_function}
use Rattle.tsa_tree.specs.types.Types.{value}
use Rattle.tsa_types_row.specs.Rows.{framed}
use Rattle.tsa_types_row.specs.declared.node.Node.{Node}
use Rattle.tsa_types_row.specs.declared.node.Op.{Op}
use Rattle.tsa_types_row.specs.declared.node.Op.TheVariants as op

-- what is no expression, or has no type, has that of nothing
abbrev pub bare : ExpressionType
bare = value type.Void

abbrev pub type_or_bare : Option ExpressionType → ExpressionType
type_or_bare (Some t) = t
type_or_bare None = bare

-- a pointer that is declared `const` never changes
abbrev pub is_fixed : ThingType → Bool
is_fixed t = pointer_kind t.kind && t.is_const

-- A name: what it means, and whether what it is declared as never changes.
abbrev pub entry_fixed : Option Entry → Bool
entry_fixed None = false
entry_fixed (Some e) = is_fixed e.thing

abbrev pub name_op : ℕ → Option Entry → Op
name_op function entry = op.Name (entry_symbol function entry) (entry_fixed entry)

-- A call: the function's number, and how many arguments there are.
abbrev pub entry_function : Option Entry → ℕ
entry_function None = 0
entry_function (Some e) = meant_function e.meaning

abbrev pub args_count : Arguments → ℕ
args_count args.none = zero
args_count (args.more first rest) = suc (args_count rest)

abbrev pub call_op : Option Entry → ℕ → Op
call_op entry count = op.Call (entry_function entry) count

abbrev pub callee_node : ℕ → Identifier → Option Entry → Node
callee_node function name entry = record { op = op.Callee (entry_symbol function entry); thing = bare; worth = None; size = 1; span = name.span }

-- A member, with its number, of what has a type that has it.
abbrev pub member_op : Bool → Option (ℕ × ThingType) → Op
member_op arrow None = op.Field arrow 0 false
member_op arrow (Some m) = op.Field arrow m.0 (is_fixed m.1)

abbrev pub member_of : Scope → Bool → List ℕ → Option ExpressionType → Option (ℕ × ThingType)
member_of here arrow name base = option_and_then (λ t. option_and_then (λ struct. numbered (members_at here struct) name 0) (owner arrow t)) base

-- What the node of an expression is, and where it stands.
abbrev pub op_in : Scope → ℕ → Expression → Op
op_in here f (number n u span) = op.Number
op_in here f (null span) = op.Null
op_in here f (named name span) = name_op f (known_in here name.text)
op_in here f (call callee given span) = call_op (known_in here callee.text) (args_count given)
op_in here f (unary o inner span) = op.Unary o
op_in here f (binary o left right span) = op.Binary o
op_in here f (field base name arrow span) = member_op arrow (member_of here arrow name.text (type_of (context_of here) base))
op_in here f (index base at span) = op.Index

abbrev pub node_span : Expression → Span
node_span (named name span) = name.span
node_span e = expression_span e

abbrev pub node_in : Scope → ℕ → Expression → Node
node_in here f e = record {
  op = op_in here f e;
  thing = type_or_bare (type_of (context_of here) e);
  worth = value_in (context_of here) e;
  size = 1;
  span = node_span e;
}

-- The row of an expression where names are known, in a function's body or head, or outside of all.
unfoldable mutual
  pub row_in : Scope → ℕ → Expression → List Node
  row_in here f (number n u span) = framed (node_in here f (number n u span)) []
  row_in here f (null span) = framed (node_in here f (null span)) []
  row_in here f (named name span) = framed (node_in here f (named name span)) []
  row_in here f (call callee given span) =
      framed (node_in here f (call callee given span)) (framed (callee_node f callee (known_in here callee.text)) [] ++ row_in_all here f given)
  row_in here f (unary o inner span) = framed (node_in here f (unary o inner span)) (row_in here f inner)
  row_in here f (binary o left right span) = framed (node_in here f (binary o left right span)) (row_in here f left ++ row_in here f right)
  row_in here f (field base name arrow span) = framed (node_in here f (field base name arrow span)) (row_in here f base)
  row_in here f (index base at span) = framed (node_in here f (index base at span)) (row_in here f base ++ row_in here f at)

  pub row_in_all : Scope → ℕ → Arguments → List Node
  row_in_all here f args.none = []
  row_in_all here f (args.more first rest) = row_in here f first ++ row_in_all here f rest
