-- The nodes of statements beside their premises.
use Rattle.std.proofs.Common.{◌≡◌, Bool, true, false, not, ◌&&◌, ◌||◌, [], ◌∷◌, Option, Some, None, is_some, refl, if◌then◌else◌}
use Rattle.tsa_base.specs.declared.token.Span.{Span}
use Rattle.tsa_tree.specs.declarations.Syntax.{Declaration, Initialiser, Initialisers, value, list, no_more, one_more}
use Rattle.tsa_tree.specs.expressions.Syntax.{Expression}
use Rattle.tsa_tree.specs.points.Syntax.{expression_span}
use Rattle.tsa_tree.specs.statements.Syntax.{Simple, evaluation, assignment, ForInit, no_init, simple_init, local_init, Statement, block}
use Rattle.tsa_tree.specs.statements.Syntax.{empty, local, simple, if_alone, if_else, while_loop, do_loop, for_loop, switch, case}
use Rattle.tsa_tree.specs.statements.Syntax.{otherwise, label, break, continue, goto, return, Statements, none, more}
use Rattle.tsa_tree.specs.declared.kind.Declaring.TheVariants as declaring
use Rattle.tsa_tree.specs.declared.premise.Bearer.TheVariants as on
use Rattle.tsa_tree.specs.declared.premise.TypeCode.TheVariants.{TY2, TY3, TY5, TY7, TY8, TY9}
use Rattle.tsa_tree.specs.types.Constants.{constant_of}
use Rattle.tsa_tree.specs.types.DeclaredTypes.{resolve, thing_type, is_refused, type_premise, value_in}
use Rattle.tsa_tree.specs.types.Expressions.{type_of, premises_of}
use Rattle.tsa_tree.specs.types.Fails.{fails}
use Rattle.tsa_tree.specs.types.FirstFailing.{failure_at}
use Rattle.tsa_tree.specs.types.Known.{Context}
use Rattle.tsa_tree.specs.types.Locals.{has_type, init_breaks, names_in_init, names_in_items, names_in, local_premises}
use Rattle.tsa_tree.specs.types.Node as node
use Rattle.tsa_tree.specs.types.Node.{told_at}
use Rattle.tsa_tree.specs.types.Nodes as nodes
use Rattle.tsa_tree.specs.types.Nodes.{nodes_in, nodes_in_local_init, nodes_in_local_inits, nodes_in_given_init, nodes_in_local}
use Rattle.tsa_tree.specs.types.Nodes.{nodes_in_simple, nodes_in_given, nodes_in_for_init, nodes_in_step, nodes_in_for, nodes_in_statement}
use Rattle.tsa_tree.specs.types.Nodes.{nodes_in_statements}
use Rattle.tsa_tree.specs.types.Operands.{lacks, is_scalar, is_integer}
use Rattle.tsa_tree.specs.types.Premises.{Failure, premise, failure_of, or_else, first}
use Rattle.tsa_tree.specs.types.Scopes.{Scope, context_of, is_taken, further}
use Rattle.tsa_tree.specs.types.Simple.{assignment_breaks, assignment_premises, is_written_to, written_type, tested_premises, return_breaks}
use Rattle.tsa_tree.specs.types.Simple.{parts_of, return_premises}
use Rattle.tsa_tree.specs.types.Statements.{Around, in_a_loop, in_a_switch, simple_premises, init_premises, behind_init, for_test}
use Rattle.tsa_tree.specs.types.Statements.{test_premises, step_premises, is_again, unless_again, is_case_again, case_premises}
use Rattle.tsa_tree.specs.types.Statements.{default_premises, label_premises, goto_premises, break_premises, continue_premises}
use Rattle.tsa_tree.specs.types.Statements.{for_premises, statement_premises, statements_premises, behind}
use Rattle.tsa_tree.specs.types.Targets.{declared_in}
use Rattle.tsa_tree.proofs.types.NodeLists.{Agree, no_nodes, joined, with_node, a_node, regrouped}
use Rattle.tsa_tree.proofs.types.ExpressionNodes.{asked_if, asked_unless, expression_agrees}
use Rattle.tsa_tree.proofs.types.DeclarationNodes.{names_agree, length_agrees, attributes_agree}

-- the initialiser of a local
mutual
  unfolding nodes_in_local_init names_in_init

  local_init_agrees : (here : Scope) (i : Initialiser) → Agree (nodes_in_local_init (context_of here) i) (names_in_init here i)
  local_init_agrees here (value e) = expression_agrees (context_of here) e
  local_init_agrees here (list items span) = local_inits_agree here items

  -- those of a list
  local_inits_agree : (here : Scope) (items : Initialisers) → Agree (nodes_in_local_inits (context_of here) items) (names_in_items here items)
  local_inits_agree here no_more = no_nodes
  local_inits_agree here (one_more i rest) = joined (local_init_agrees here i) (local_inits_agree here rest)

-- that of a local, where there is one
given_init_agrees : (here : Scope) (i : Option Initialiser) → Agree (nodes_in_given_init (context_of here) i) (names_in here i)
given_init_agrees here None = no_nodes
given_init_agrees here (Some i) = local_init_agrees here i

-- a type that is refused and an initialiser that can't go there are told alike
local_told : (x : Failure) (first_told : Option Failure) (refused breaks : Bool)
    → or_else first_told (or_else (if refused || breaks then Some x else None) None)
    ≡ or_else first_told (or_else (if refused then Some x else None) (or_else (if breaks then Some x else None) None))
local_told x first_told true breaks = refl
local_told x first_told false breaks = refl

-- a local
local_agrees : (here : Scope) (d : Declaration) → Agree (nodes_in_local here d) (local_premises here d)
unfolding local_premises failure_at fails told_at first
local_agrees here d =
    with_node
    (node.local here d)
    (premise TY2 d.span (is_taken d.name.text here)
    ∷ type_premise here declaring.Thing d.span d.ctype
    ∷ premise TY3 d.span (has_type (resolve here d.ctype) && init_breaks here (thing_type here d.ctype) d.init)
    ∷ [])
    (local_told
    (record { code = TY3; span = d.span })
    (failure_of (premise TY2 d.span (is_taken d.name.text here)))
    (is_refused here declaring.Thing (resolve here d.ctype))
    (has_type (resolve here d.ctype) && init_breaks here (thing_type here d.ctype) d.init))
    (joined
    (joined (names_agree here d.ctype) (length_agrees (context_of here) d.ctype.length))
    (joined (attributes_agree here on.Local d.attrs) (given_init_agrees here d.init)))

-- an expression or an assignment
simple_agrees : (here : Scope) (s : Simple) → Agree (nodes_in_simple (context_of here) s) (simple_premises here s)
unfolding assignment_premises failure_at fails told_at first
simple_agrees here (evaluation e span) = expression_agrees (context_of here) e
simple_agrees here (assignment left op right span) =
    with_node
    (node.assignment (context_of here) left op right span)
    (premise TY3 span (assignment_breaks op (written_type (type_of (context_of here) left)) (type_of (context_of here) right)) ∷ [])
    refl
    (regrouped
    (premises_of (context_of here) left)
    (premise TY5 (expression_span left) (lacks is_written_to (type_of (context_of here) left)) ∷ [])
    (premises_of (context_of here) right)
    (joined (asked_unless (context_of here) left (node.left_side (context_of here) left) TY5 is_written_to refl) (expression_agrees (context_of here) right)))

-- the test of a `for`, told at its statement
for_test_agrees : (again : Bool) (here : Scope) (test : Option Expression) (span : Span)
    → Agree (nodes.for_test again (context_of here) test span) (unless_again again (for_test here span test))
unfolding failure_at fails told_at first
for_test_agrees true here None span = no_nodes
for_test_agrees false here None span = no_nodes
for_test_agrees true here (Some e) span = no_nodes
for_test_agrees false here (Some e) span = a_node (node.test (context_of here) e span) _ refl

-- the first part of a `for`
for_init_agrees : (here : Scope) (init : ForInit) → Agree (nodes_in_for_init here init) (init_premises here init)
for_init_agrees here no_init = no_nodes
for_init_agrees here (simple_init s) = simple_agrees here s
for_init_agrees here (local_init d) = local_agrees here d

-- the test of a `for` by itself
given_test_agrees : (here : Scope) (test : Option Expression) → Agree (nodes_in_given (context_of here) test) (test_premises here test)
given_test_agrees here None = no_nodes
given_test_agrees here (Some e) = expression_agrees (context_of here) e

-- the last part of a `for`
step_agrees : (here : Scope) (step : Option Simple) → Agree (nodes_in_step (context_of here) step) (step_premises here step)
step_agrees here None = no_nodes
step_agrees here (Some s) = simple_agrees here s

-- a `for` up to its body
for_agrees : (here : Scope) (init : ForInit) (test : Option Expression) (step : Option Simple) (span : Span)
    → Agree (nodes_in_for here init test step span) (for_premises here init test step span)
unfolding for_premises
for_agrees here init test step span =
    joined
    (for_test_agrees (is_again here init) (behind_init here init) test span)
    (joined (for_init_agrees here init) (joined (given_test_agrees (behind_init here init) test) (step_agrees (behind_init here init) step)))

-- a test
test_agrees : (here : Scope) (e : Expression) (span : Span)
    → Agree (node.test (context_of here) e span ∷ nodes_in (context_of here) e) (tested_premises (context_of here) is_scalar span e)
unfolding tested_premises failure_at fails told_at first
test_agrees here e span =
    with_node (node.test (context_of here) e span) (premise TY3 span (lacks is_scalar (type_of (context_of here) e)) ∷ []) refl (expression_agrees (context_of here) e)

-- the value of a switch
switch_agrees : (here : Scope) (e : Expression) (span : Span)
    → Agree (node.switch_value (context_of here) e span ∷ nodes_in (context_of here) e) (tested_premises (context_of here) is_integer span e)
unfolding tested_premises failure_at fails told_at first
switch_agrees here e span =
    with_node (node.switch_value (context_of here) e span) (premise TY3 span (lacks is_integer (type_of (context_of here) e)) ∷ []) refl (expression_agrees (context_of here) e)

-- a case
case_agrees : (a : Around) (c : Context) (key : Expression) (span : Span) → Agree (node.case a c key span ∷ node.case_value c key ∷ nodes_in c key) (case_premises a c key span)
unfolding case_premises failure_at fails told_at first
case_agrees a c key span =
    with_node
    (node.case a c key span)
    (premise TY2 span (a.in_switch && is_case_again a.cases span.from (value_in c key)) ∷ premise TY7 span (not a.in_switch) ∷ [])
    refl
    (asked_if c key (node.case_value c key) TY9 (λ t. not (is_some (constant_of c key))) refl)

-- what a `return` gives
given_agrees : (c : Context) (given : Option Expression) → Agree (nodes_in_given c given) (parts_of c given)
given_agrees c None = no_nodes
given_agrees c (Some e) = expression_agrees c e

-- The nodes of a statement agree with its premises.
mutual
  unfolding nodes_in_statement statement_premises default_premises label_premises goto_premises break_premises continue_premises return_premises failure_at fails told_at first

  statement_agrees : (a : Around) (here : Scope) (s : Statement) → Agree (nodes_in_statement a here s) (statement_premises a here s)
  statement_agrees a here (block items span) = statements_agree a here items
  statement_agrees a here (empty span) = no_nodes
  statement_agrees a here (local d) = local_agrees here d
  statement_agrees a here (simple s) = simple_agrees here s
  statement_agrees a here (if_alone test arm span) = joined (test_agrees here test span) (statement_agrees a here arm)
  statement_agrees a here (if_else test arm other span) =
      joined (test_agrees here test span) (joined (statement_agrees a here arm) (statement_agrees a (further (declared_in arm) here) other))
  statement_agrees a here (while_loop test body span) = joined (test_agrees here test span) (statement_agrees (in_a_loop a) here body)
  statement_agrees a here (do_loop body test span) =
      with_node
      (node.test (context_of here) test span)
      (premise TY3 span (lacks is_scalar (type_of (context_of here) test)) ∷ [])
      refl
      (joined (statement_agrees (in_a_loop a) here body) (expression_agrees (context_of here) test))
  statement_agrees a here (for_loop init test step body span) = joined (for_agrees here init test step span) (statement_agrees (in_a_loop a) (behind_init here init) body)
  statement_agrees a here (switch key body span) = joined (switch_agrees here key span) (statement_agrees (in_a_switch here body a) here body)
  statement_agrees a here (case key body span) = joined (case_agrees a (context_of here) key span) (statement_agrees a here body)
  statement_agrees a here (otherwise body span) = with_node (node.default a span) (default_premises a span) refl (statement_agrees a here body)
  statement_agrees a here (label name body span) = with_node (node.label a name span) (label_premises a name span) refl (statement_agrees a here body)
  statement_agrees a here (break span) = a_node (node.break a span) (break_premises a span) refl
  statement_agrees a here (continue span) = a_node (node.continue a span) (continue_premises a span) refl
  statement_agrees a here (goto name span) = a_node (node.goto a name span) (goto_premises a name span) refl
  statement_agrees a here (return given span) =
      with_node (node.return (context_of here) a.result given span) (premise TY8 span (return_breaks (context_of here) a.result given) ∷ []) refl (given_agrees (context_of here) given)

  -- those of a block
  pub statements_agree : (a : Around) (here : Scope) (items : Statements) → Agree (nodes_in_statements a here items) (statements_premises a here items)
  statements_agree a here none = no_nodes
  statements_agree a here (more s rest) = joined (statement_agrees a here s) (statements_agree a (behind here s) rest)
