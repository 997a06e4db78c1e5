-- What nodes are by what expressions were found to be, and the parts behind the node of an expression.
use Rattle.std.specs.Prelude.{ℕ, List, [], ◌++◌, Result, Ok, Err}
use Rattle.tsa_base.specs.declared.token.Span.{Span}
use Rattle.tsa_tree.specs.declared.kind.ExpressionType.{ExpressionType}
use Rattle.tsa_tree.specs.declared.premise.Failure.{Failure}
use Rattle.tsa_tree.specs.expressions.Syntax.{Expression, call, unary, binary, field, index}
use Rattle.tsa_tree.specs.types.Scopes.{Scope, known_in}
use Rattle.tsa_types_row.specs.ExpressionRows.{bare, callee_node, row_in, row_in_all}
use Rattle.tsa_types_row.specs.Rows.{framed}
use Rattle.tsa_types_row.specs.declared.node.Node.{Node}
use Rattle.tsa_types_row.specs.declared.node.Op.{Op}
use Rattle.tsa_types_expressions.specs.declared.constants.Found.{Found}
use Rattle.tsa_types_expressions.specs.Found.{found_value}

abbrev pub thing_or_bare : Result Found Failure → ExpressionType
thing_or_bare (Ok f) = f.thing
thing_or_bare (Err failure) = bare

abbrev pub found_node : Op → Span → Result Found Failure → Node
found_node o span found = record { op = o; thing = thing_or_bare found; worth = found_value found; size = 1; span = span }

unfoldable pub parts_in : Scope → ℕ → Expression → List Node
parts_in here f (call callee given span) = framed (callee_node f callee (known_in here callee.text)) [] ++ row_in_all here f given
parts_in here f (unary o inner span) = row_in here f inner
parts_in here f (binary o left right span) = row_in here f left ++ row_in here f right
parts_in here f (field base name arrow span) = row_in here f base
parts_in here f (index base at span) = row_in here f base ++ row_in here f at
parts_in here f e = []
