-- The rows of a statement that has others in it, and of statements one by one.
use Rattle.std.proofs.Common.{ℕ, ◌≡◌, ◌∙◌, ◌+◌, suc, List, [], ◌∷◌, ◌++◌, drop, true, Option, refl, sym, ap}
use Rattle.tsa_base.specs.declared.token.Span.{Span}
use Rattle.tsa_base.proofs.Numbers.{plus_one}
use Rattle.tsa_tree.specs.expressions.Syntax.{Identifier, Expression, Arguments, number, null, named, call, unary, binary, field, index}
use Rattle.tsa_tree.specs.expressions.Syntax as args
use Rattle.tsa_tree.specs.declared.stmt.Stmt.{Stmt}
use Rattle.tsa_tree.proofs.statements.Trees.{shape_of}
use Rattle.tsa_tree.specs.statements.Shapes.{stmt_shapes}
use Rattle.tsa_tree.specs.statements.Syntax.{Simple, ForInit, Statement, block, if_alone, if_else, while_loop, do_loop, for_loop, switch}
use Rattle.tsa_tree.specs.statements.Syntax.{case, otherwise, label, Statements}
use Rattle.tsa_tree.specs.points.Syntax.{expression_span}
use Rattle.tsa_tree.specs.types.Scopes.{Scope, further, known_in}
use Rattle.tsa_tree.specs.types.Statements.{behind_init, behind}
use Rattle.tsa_types_row.specs.BodyRows.{aside, bare_node, marked_row, row_in_for, row_in_statement, row_in_statements, row_in_test}
use Rattle.tsa_types_row.specs.ExpressionRows.{callee_node, node_in, row_in, row_in_all}
use Rattle.tsa_types_row.specs.Rows.{framed}
use Rattle.tsa_types_row.specs.declared.node.Node.{Node}
use Rattle.tsa_types_row.specs.declared.node.Op.TheVariants as op
use Rattle.tsa_tree.specs.types.Targets.{declared_in}
use Rattle.tsa_types_expressions.proofs.RowLaws.{Notes, noted, noted_append, noted_nothing}

module _ (here : Scope) (function : ℕ) where
  abbrev rows : Statement → List Node
  rows s = row_in_statement here function s

  abbrev tested : Expression → List Node
  tested e = row_in_test here function e

  pub block_row : (items : Statements) (span : Span) → rows (block items span) ≡ row_in_statements here function items
  unfolding row_in_statement
  block_row items span = refl

  pub if_row : (test : Expression) (arm : Statement) (span : Span) → rows (if_alone test arm span) ≡ tested test ++ rows arm
  unfolding row_in_statement
  if_row test arm span = refl

  pub else_row : (notes : Notes) (test : Expression) (arm other : Statement) (span : Span)
      → noted notes (rows (if_else test arm other span))
      ≡ noted (noted notes (tested test ++ rows arm)) (row_in_statement (further (declared_in arm) here) function other)
  unfolding row_in_statement
  else_row notes test arm other span =
      noted_append notes (tested test) (rows arm ++ row_in_statement (further (declared_in arm) here) function other)
      ∙ noted_append (noted notes (tested test)) (rows arm) (row_in_statement (further (declared_in arm) here) function other)
      ∙ ap (λ n. noted n (row_in_statement (further (declared_in arm) here) function other)) (sym (noted_append notes (tested test) (rows arm)))

  pub while_row : (test : Expression) (body : Statement) (span : Span) → rows (while_loop test body span) ≡ tested test ++ rows body
  unfolding row_in_statement
  while_row test body span = refl

  pub do_row : (body : Statement) (test : Expression) (span : Span) → rows (do_loop body test span) ≡ rows body ++ tested test
  unfolding row_in_statement
  do_row body test span = refl

  pub for_row : (init : ForInit) (test : Option Expression) (step : Option Simple) (body : Statement) (span : Span)
      → rows (for_loop init test step body span) ≡ row_in_for span here function init test step ++ row_in_statement (behind_init here init) function body
  unfolding row_in_statement
  for_row init test step body span = refl

  pub switch_row : (key : Expression) (body : Statement) (span : Span) → rows (switch key body span) ≡ marked_row op.Branch (expression_span key) here function key ++ rows body
  unfolding row_in_statement
  switch_row key body span = refl

  pub case_row : (key : Expression) (body : Statement) (span : Span) → rows (case key body span) ≡ aside here function key ++ rows body
  unfolding row_in_statement
  case_row key body span = refl

  pub default_row : (body : Statement) (span : Span) → rows (otherwise body span) ≡ rows body
  unfolding row_in_statement
  default_row body span = refl

  pub label_row : (name : Identifier) (body : Statement) (span : Span) → rows (label name body span) ≡ rows body
  unfolding row_in_statement
  label_row name body span = refl

-- the row of an expression is the same where more locals were counted
module _ (here : Scope) (function n : ℕ) where
  mutual
    unfolding row_in row_in_all

    kept : (e : Expression) → row_in (further n here) function e ≡ row_in here function e
    kept (number v u span) = refl
    kept (null span) = refl
    kept (named name span) = refl
    kept (call callee given span) =
        ap (λ r. framed (node_in here function (call callee given span)) (framed (callee_node function callee (known_in here callee.text)) [] ++ r)) (all_kept given)
    kept (unary o inner span) = ap (framed (node_in here function (unary o inner span))) (kept inner)
    kept (binary o left right span) =
        ap (λ r. framed (node_in here function (binary o left right span)) (r ++ row_in (further n here) function right)) (kept left)
        ∙ ap (λ r. framed (node_in here function (binary o left right span)) (row_in here function left ++ r)) (kept right)
    kept (field base name arrow span) = ap (framed (node_in here function (field base name arrow span))) (kept base)
    kept (index base at span) =
        ap (λ r. framed (node_in here function (index base at span)) (r ++ row_in (further n here) function at)) (kept base)
        ∙ ap (λ r. framed (node_in here function (index base at span)) (row_in here function base ++ r)) (kept at)

    all_kept : (given : Arguments) → row_in_all (further n here) function given ≡ row_in_all here function given
    all_kept args.none = refl
    all_kept (args.more first rest) =
        ap (λ r. r ++ row_in_all (further n here) function rest) (kept first) ∙ ap (λ r. row_in here function first ++ r) (all_kept rest)

  -- and so is that of a test
  pub test_kept : (test : Expression) → row_in_test (further n here) function test ≡ row_in_test here function test
  unfolding marked_row
  test_kept test = ap (framed (bare_node (op.Test true) (expression_span test))) (kept test)

pub ruleset namings = (block_row, if_row, else_row, while_row, do_row, for_row, switch_row, case_row, default_row, label_row)

pub step : (notes after : Notes) (own rest all : List Node) → after ≡ noted notes own → all ≡ own ++ rest → noted after rest ≡ noted notes all
step notes after own rest all is whole = ap (λ n. noted n rest) is ∙ sym (noted_append notes own rest) ∙ ap (noted notes) (sym whole)

pub nothing : (notes : Notes) (all : List Node) → all ≡ [] → noted notes all ≡ notes
nothing notes all is = ap (noted notes) is ∙ noted_nothing notes

module _ (notes : Notes) (here : Scope) (function : ℕ) (items : List Stmt) (i : ℕ) where
  abbrev statements_from : Scope → ℕ → List Node
  statements_from there j = row_in_statements there function (stmt_shapes (drop j items))

  pub statements_end : drop i items ≡ [] → noted notes (statements_from here i) ≡ notes
  unfolding row_in_statements
  statements_end e = nothing notes (statements_from here i) (ap (λ xs. row_in_statements here function (stmt_shapes xs)) e)

  pub statements_next : (x : Stmt) → drop i items ≡ x ∷ drop (suc i) items → (there : Scope) (after : Notes) → there ≡ behind here (shape_of x)
      → after ≡ noted notes (row_in_statement here function (shape_of x)) → noted after (statements_from there (i + 1)) ≡ noted notes (statements_from here i)
  unfolding row_in_statements
  statements_next x at_i there after known is =
      let inner = behind here (shape_of x) in
      ap (λ y. noted after (statements_from y (i + 1))) known
      ∙ ap (λ j. noted after (statements_from inner j)) (sym (plus_one i))
      ∙ step notes after (row_in_statement here function (shape_of x)) (statements_from inner (suc i)) (statements_from here i) is
      (ap (λ xs. row_in_statements here function (stmt_shapes xs)) at_i)
