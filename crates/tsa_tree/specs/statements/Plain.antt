-- Statements with all spans at 0: two are equal but for spans where their plain ones are.
use Rattle.std.specs.Prelude.{option_map}
use Rattle.tsa_tree.specs.expressions.Syntax.{plain, plain_name, nowhere}
use Rattle.tsa_tree.specs.declarations.Plain.{plain_declaration}
use Rattle.tsa_tree.specs.statements.Syntax.{Simple, evaluation, assignment, ForInit, no_init, simple_init, local_init, Statement, block}
use Rattle.tsa_tree.specs.statements.Syntax.{empty, local, simple, if_alone, if_else, while_loop, do_loop, for_loop, switch, case}
use Rattle.tsa_tree.specs.statements.Syntax.{otherwise, label, break, continue, goto, return, Statements, none, more}

abbrev pub plain_simple : Simple → Simple
plain_simple (evaluation tree span) = evaluation (plain tree) nowhere
plain_simple (assignment left op right span) = assignment (plain left) op (plain right) nowhere

abbrev pub plain_for_init : ForInit → ForInit
plain_for_init no_init = no_init
plain_for_init (simple_init x) = simple_init (plain_simple x)
plain_for_init (local_init x) = local_init (plain_declaration x)

abbrev mutual
  pub plain_statement : Statement → Statement
  plain_statement (block items span) = block (plain_statements items) nowhere
  plain_statement (empty span) = empty nowhere
  plain_statement (local x) = local (plain_declaration x)
  plain_statement (simple x) = simple (plain_simple x)
  plain_statement (if_alone test arm span) = if_alone (plain test) (plain_statement arm) nowhere
  plain_statement (if_else test arm other span) = if_else (plain test) (plain_statement arm) (plain_statement other) nowhere
  plain_statement (while_loop test body span) = while_loop (plain test) (plain_statement body) nowhere
  plain_statement (do_loop body test span) = do_loop (plain_statement body) (plain test) nowhere
  plain_statement (for_loop init test step body span) =
      for_loop (plain_for_init init) (option_map plain test) (option_map plain_simple step) (plain_statement body) nowhere
  plain_statement (switch x body span) = switch (plain x) (plain_statement body) nowhere
  plain_statement (case x body span) = case (plain x) (plain_statement body) nowhere
  plain_statement (otherwise body span) = otherwise (plain_statement body) nowhere
  plain_statement (label name body span) = label (plain_name name) (plain_statement body) nowhere
  plain_statement (break span) = break nowhere
  plain_statement (continue span) = continue nowhere
  plain_statement (goto name span) = goto (plain_name name) nowhere
  plain_statement (return x span) = return (option_map plain x) nowhere

  pub plain_statements : Statements → Statements
  plain_statements none = none
  plain_statements (more first rest) = more (plain_statement first) (plain_statements rest)
