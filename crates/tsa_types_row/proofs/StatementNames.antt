-- The names of the rows of statements are those of the statements.
use Rattle.std.proofs.Common.{◌≡◌, ◌∙◌, ℕ, ◌∷◌, ◌++◌, Option, Some, None, refl, ap}
use Rattle.std.proofs.lemmas.List.{append-nil}
use Rattle.tsa_base.specs.declared.token.Span.{Span}
use Rattle.tsa_tree.specs.declarations.Syntax.{Declaration}
use Rattle.tsa_tree.specs.declared.meaning.Symbol.TheVariants as symbol
use Rattle.tsa_tree.specs.expressions.Syntax.{Expression}
use Rattle.tsa_tree.specs.points.Syntax.{expression_span}
use Rattle.tsa_tree.specs.statements.Syntax.{Simple, evaluation, assignment, ForInit, no_init, simple_init, local_init, Statement, block}
use Rattle.tsa_tree.specs.statements.Syntax.{empty, local, simple, if_alone, if_else, while_loop, do_loop, for_loop, switch, case, otherwise}
use Rattle.tsa_tree.specs.statements.Syntax.{label, break, continue, goto, return, Statements, none, more}
use Rattle.tsa_tree.specs.types.Scopes.{Scope, context_of, further}
use Rattle.tsa_tree.specs.types.Statements.{behind_init, behind}
use Rattle.tsa_tree.specs.types.Symbols.{names_in, names_in_given, names_in_local, names_in_simple, names_in_for_init, names_in_step, names_in_for}
use Rattle.tsa_tree.specs.types.Symbols.{names_in_statement, names_in_statements}
use Rattle.tsa_tree.specs.types.Targets.{declared_in}
use Rattle.tsa_types_row.specs.BodyRows.{alone_row, aside, marked_row, local_parts, row_in_local, row_in_simple, row_in_for_init, row_in_step, row_in_test}
use Rattle.tsa_types_row.specs.BodyRows.{row_in_given_test, row_in_for, row_in_return, row_in_statement, row_in_statements, row_in_body}
use Rattle.tsa_types_row.specs.ExpressionRows.{row_in}
use Rattle.tsa_types_row.specs.Rows.{names_read}
use Rattle.tsa_types_row.specs.declared.node.Op.TheVariants as op
use Rattle.tsa_types_row.proofs.ExpressionNames.{both, names, local_names}

module _ (f : ℕ) where
  -- an expression behind a point
  marked_names : (here : Scope) (span : Span) (e : Expression) → names_read (row_in_test here f e) ≡ names_in (context_of here) f e
  unfolding marked_row
  marked_names here span e = names here f e

  one_local : (here : Scope) (d : Declaration) → names_read (row_in_local here f d) ≡ names_in_local here f d
  unfolding row_in_local local_parts
  one_local here d = ap (λ ns. (d.name.span, symbol.Local f here.locals) ∷ ns) (local_names here f d)

  one_simple : (here : Scope) (s : Simple) → names_read (row_in_simple here f s) ≡ names_in_simple here f s
  unfolding row_in_simple marked_row
  one_simple here (evaluation e span) = names here f e
  one_simple here (assignment left o right span) = both (row_in here f left) (row_in here f right) (names here f left) (names here f right)

  one_init : (here : Scope) (i : ForInit) → names_read (row_in_for_init here f i) ≡ names_in_for_init here f i
  one_init here no_init = refl
  one_init here (simple_init s) = one_simple here s
  one_init here (local_init d) = one_local here d

  one_step : (here : Scope) (s : Option Simple) → names_read (row_in_step here f s) ≡ names_in_step here f s
  one_step here None = refl
  one_step here (Some s) = one_simple here s

  given_test : (here : Scope) (loop : Span) (e : Option Expression) → names_read (row_in_given_test loop here f e) ≡ names_in_given (context_of here) f e
  given_test here loop None = refl
  given_test here loop (Some e) = marked_names here loop e

  one_for : (here : Scope) (loop : Span) (init : ForInit) (test : Option Expression) (step : Option Simple)
      → names_read (row_in_for loop here f init test step) ≡ names_in_for here f init test step
  unfolding row_in_for names_in_for
  one_for here loop init test step =
      both (row_in_for_init here f init) (row_in_given_test loop (behind_init here init) f test ++ row_in_step (behind_init here init) f step) (one_init here init)
      (both (row_in_given_test loop (behind_init here init) f test) (row_in_step (behind_init here init) f step) (given_test (behind_init here init) loop test)
      (one_step (behind_init here init) step))

  one_return : (here : Scope) (span : Span) (e : Option Expression) → names_read (row_in_return span here f e) ≡ names_in_given (context_of here) f e
  unfolding marked_row
  one_return here span None = refl
  one_return here span (Some e) = names here f e

  mutual
    unfolding row_in_statement row_in_statements names_in_statement names_in_statements marked_row

    pub one : (here : Scope) (s : Statement) → names_read (row_in_statement here f s) ≡ names_in_statement here f s
    one here (block items span) = every here items
    one here (empty span) = refl
    one here (local d) = one_local here d
    one here (simple s) = one_simple here s
    one here (if_alone test arm span) = both (row_in_test here f test) (row_in_statement here f arm) (names here f test) (one here arm)
    one here (if_else test arm other span) = both (row_in_test here f test) (row_in_statement here f arm ++ row_in_statement (further (declared_in arm) here) f other) (names here f test)
        (both (row_in_statement here f arm) (row_in_statement (further (declared_in arm) here) f other) (one here arm) (one (further (declared_in arm) here) other))
    one here (while_loop test body span) = both (row_in_test here f test) (row_in_statement here f body) (names here f test) (one here body)
    one here (do_loop body test span) = both (row_in_statement here f body) (row_in_test here f test) (one here body) (names here f test)
    one here (for_loop init test step body span) = both (row_in_for span here f init test step) (row_in_statement (behind_init here init) f body) (one_for here span init test step)
        (one (behind_init here init) body)
    one here (switch key body span) =
        both (marked_row op.Branch (expression_span key) here f key) (row_in_statement here f body) (names here f key) (one here body)
    one here (case key body span) = both (aside here f key) (row_in_statement here f body) (names here f key) (one here body)
    one here (otherwise body span) = one here body
    one here (label name body span) = one here body
    one here (break span) = refl
    one here (continue span) = refl
    one here (goto name span) = refl
    one here (return given span) = one_return here span given

    pub every : (here : Scope) (ss : Statements) → names_read (row_in_statements here f ss) ≡ names_in_statements here f ss
    every here none = refl
    every here (more first rest) = both (row_in_statement here f first) (row_in_statements (behind here first) f rest) (one here first) (every (behind here first) rest)

  -- the end of a body bears no name
  pub body_names : (here : Scope) (body : Statements) (close : Span) → names_read (row_in_body here f body close) ≡ names_in_statements here f body
  unfolding row_in_body
  body_names here body close = both (row_in_statements here f body) (alone_row op.End close) (every here body) refl ∙ append-nil (names_in_statements here f body)
