-- The rows of declarations and of the statements of bodies (C11 6.7, 6.8): a point stands in front of what it works out.
use Rattle.std.specs.Prelude.{ℕ, Bool, true, false, List, [], ◌∷◌, ◌++◌, Option, Some, None}
use Rattle.tsa_base.specs.declared.token.Span.{Span}
use Rattle.tsa_tree.specs.attributes.Syntax.{Attribute}
use Rattle.tsa_tree.specs.declarations.Syntax.{Declaration, Initialiser, Initialisers, value, list, no_more, one_more}
use Rattle.tsa_tree.specs.declared.kind.ExpressionType.{ExpressionType}
use Rattle.tsa_tree.specs.declared.meaning.Symbol.{Symbol}
use Rattle.tsa_tree.specs.declared.meaning.Symbol.TheVariants as symbol
use Rattle.tsa_tree.specs.expressions.Syntax.{Expression, Arguments}
use Rattle.tsa_tree.specs.expressions.Syntax as args
use Rattle.tsa_tree.specs.points.Syntax.{expression_span}
use Rattle.tsa_tree.specs.statements.Syntax.{Simple, evaluation, assignment, ForInit, no_init, simple_init, local_init, Statement, block}
use Rattle.tsa_tree.specs.statements.Syntax.{empty, local, simple, if_alone, if_else, while_loop, do_loop, for_loop, switch, case, otherwise}
use Rattle.tsa_tree.specs.statements.Syntax.{label, break, continue, goto, return, Statements, none, more}
use Rattle.tsa_tree.specs.types.DeclaredTypes.{thing_type}
use Rattle.tsa_tree.specs.types.Scopes.{Scope, further}
use Rattle.tsa_tree.specs.types.Statements.{behind_init, behind}
use Rattle.tsa_tree.specs.types.Targets.{declared_in}
use Rattle.tsa_tree.specs.types.Types.{place}
use Rattle.tsa_types_row.specs.Rows.{framed}
use Rattle.tsa_types_row.specs.declared.node.Node.{Node}
use Rattle.tsa_types_row.specs.declared.node.Op.{Op}
use Rattle.tsa_types_row.specs.declared.node.Op.TheVariants as op
use Rattle.tsa_types_row.specs.ExpressionRows.{bare, row_in}

-- a node that is no expression
abbrev pub typed_node : Op → ExpressionType → Span → Node
typed_node o t span = record { op = o; thing = t; worth = None; size = 1; span = span }

abbrev pub bare_node : Op → Span → Node
bare_node o span = typed_node o bare span

-- a name that is declared, a point that works nothing out, and one that works an expression out
abbrev pub declared_row : Symbol → Span → List Node
declared_row s span = framed (bare_node (op.Declared s) span) []

abbrev pub alone_row : Op → Span → List Node
alone_row o span = framed (bare_node o span) []

unfoldable pub marked_row : Op → Span → Scope → ℕ → Expression → List Node
marked_row o span here f e = framed (bare_node o span) (row_in here f e)

-- What no thread works out: each expression of it by itself.
abbrev pub aside : Scope → ℕ → Expression → List Node
aside here f e = marked_row op.Aside (expression_span e) here f e

abbrev pub aside_given : Scope → ℕ → Option Expression → List Node
aside_given here f None = []
aside_given here f (Some e) = aside here f e

unfoldable pub aside_all : Scope → ℕ → Arguments → List Node
aside_all here f args.none = []
aside_all here f (args.more first rest) = aside here f first ++ aside_all here f rest

unfoldable pub aside_attributes : Scope → ℕ → List Attribute → List Node
aside_attributes here f [] = []
aside_attributes here f (a ∷ rest) = aside_all here f a.args ++ aside_attributes here f rest

unfoldable mutual
  pub aside_init : Scope → ℕ → Initialiser → List Node
  aside_init here f (value e) = aside here f e
  aside_init here f (list items span) = aside_items here f items

  pub aside_items : Scope → ℕ → Initialisers → List Node
  aside_items here f no_more = []
  aside_items here f (one_more first rest) = aside_init here f first ++ aside_items here f rest

abbrev pub aside_given_init : Scope → ℕ → Option Initialiser → List Node
aside_given_init here f None = []
aside_given_init here f (Some i) = aside_init here f i

-- the expressions of a global's declaration, in this order
unfoldable pub aside_declaration : Scope → ℕ → Declaration → List Node
aside_declaration here f d = aside_given here f d.ctype.length ++ (aside_attributes here f d.attrs ++ aside_given_init here f d.init)

-- A local: the value that it begins with is its last part.
abbrev pub is_value : Option Initialiser → Bool
is_value (Some (value e)) = true
is_value _ = false

unfoldable pub row_in_init : Scope → ℕ → Initialiser → List Node
row_in_init here f (value e) = row_in here f e
row_in_init here f (list items span) = aside_items here f items

abbrev pub row_in_given_init : Scope → ℕ → Option Initialiser → List Node
row_in_given_init here f None = []
row_in_given_init here f (Some i) = row_in_init here f i

unfoldable pub local_parts : Scope → ℕ → Declaration → List Node
local_parts here f d =
    declared_row (symbol.Local f here.locals) d.name.span
    ++ (aside_given here f d.ctype.length ++ (aside_attributes here f d.attrs ++ row_in_given_init here f d.init))

abbrev pub local_node : Scope → Declaration → Node
local_node here d = typed_node (op.Declare here.locals (is_value d.init)) (place (thing_type here d.ctype)) d.span

unfoldable pub row_in_local : Scope → ℕ → Declaration → List Node
row_in_local here f d = framed (local_node here d) (local_parts here f d)

-- Simple statements, and the parts of a `for`: an absent test stands where its loop does.
unfoldable pub row_in_simple : Scope → ℕ → Simple → List Node
row_in_simple here f (evaluation e span) = marked_row op.Evaluate span here f e
row_in_simple here f (assignment left o right span) = framed (bare_node (op.Set o) span) (row_in here f left ++ row_in here f right)

abbrev pub row_in_for_init : Scope → ℕ → ForInit → List Node
row_in_for_init here f no_init = []
row_in_for_init here f (simple_init s) = row_in_simple here f s
row_in_for_init here f (local_init d) = row_in_local here f d

abbrev pub row_in_step : Scope → ℕ → Option Simple → List Node
row_in_step here f None = []
row_in_step here f (Some s) = row_in_simple here f s

abbrev pub row_in_test : Scope → ℕ → Expression → List Node
row_in_test here f e = marked_row (op.Test true) (expression_span e) here f e

abbrev pub row_in_given_test : Span → Scope → ℕ → Option Expression → List Node
row_in_given_test loop here f None = alone_row (op.Test false) loop
row_in_given_test loop here f (Some e) = row_in_test here f e

-- a `for` before its body
unfoldable pub row_in_for : Span → Scope → ℕ → ForInit → Option Expression → Option Simple → List Node
row_in_for loop here f init test step =
    row_in_for_init here f init
    ++ (row_in_given_test loop (behind_init here init) f test ++ row_in_step (behind_init here init) f step)

-- a statement without another in it
abbrev pub row_in_return : Span → Scope → ℕ → Option Expression → List Node
row_in_return span here f None = alone_row (op.Give false) span
row_in_return span here f (Some e) = marked_row (op.Give true) span here f e

abbrev pub row_in_leaf : Scope → ℕ → Statement → List Node
row_in_leaf here f (empty span) = alone_row op.Move span
row_in_leaf here f (simple s) = row_in_simple here f s
row_in_leaf here f (break span) = alone_row op.Move span
row_in_leaf here f (continue span) = alone_row op.Move span
row_in_leaf here f (goto name span) = alone_row op.Move span
row_in_leaf here f (return given span) = row_in_return span here f given
row_in_leaf here f s = []

unfoldable mutual
  pub row_in_statement : Scope → ℕ → Statement → List Node
  row_in_statement here f (block items span) = row_in_statements here f items
  row_in_statement here f (local d) = row_in_local here f d
  row_in_statement here f (if_alone test arm span) = row_in_test here f test ++ row_in_statement here f arm
  row_in_statement here f (if_else test arm other span) =
      row_in_test here f test ++ (row_in_statement here f arm ++ row_in_statement (further (declared_in arm) here) f other)
  row_in_statement here f (while_loop test body span) = row_in_test here f test ++ row_in_statement here f body
  row_in_statement here f (do_loop body test span) = row_in_statement here f body ++ row_in_test here f test
  row_in_statement here f (for_loop init test step body span) =
      row_in_for span here f init test step ++ row_in_statement (behind_init here init) f body
  row_in_statement here f (switch key body span) = marked_row op.Branch (expression_span key) here f key ++ row_in_statement here f body
  row_in_statement here f (case key body span) = aside here f key ++ row_in_statement here f body
  row_in_statement here f (otherwise body span) = row_in_statement here f body
  row_in_statement here f (label name body span) = row_in_statement here f body
  row_in_statement here f s = row_in_leaf here f s

  pub row_in_statements : Scope → ℕ → Statements → List Node
  row_in_statements here f none = []
  row_in_statements here f (more first rest) = row_in_statement here f first ++ row_in_statements (behind here first) f rest

-- a body: its end stands at the brace that closes it
unfoldable pub row_in_body : Scope → ℕ → Statements → Span → List Node
row_in_body here f body close = row_in_statements here f body ++ alone_row op.End close
