-- Statements as they are written, with what reading gives, one row a production; and lists that are refused, one row a kind.
use Rattle.std.specs.Prelude.{ℕ, ◌≡◌, List, [], ◌∷◌, Some, None, Ok, Err, codes}
use Rattle.std.specs.declared.option.Option.{Option}
use Rattle.std.specs.declared.result.Result.{Result}
use Rattle.tsa_base.specs.Tokens.{Lexeme, BadByte, tokens_of}
use Rattle.tsa_tree.specs.declared.expr.BinaryOp.{BinaryOp}
use Rattle.tsa_tree.specs.declared.expr.BinaryOp.TheVariants as op
use Rattle.tsa_tree.specs.declarations.Syntax.{int, value, Initialiser, Declaration}
use Rattle.tsa_tree.specs.declarations.Examples.{alone}
use Rattle.tsa_tree.specs.expressions.Examples as trees
use Rattle.tsa_tree.specs.expressions.Examples.{word, name, join}
use Rattle.tsa_tree.specs.expressions.Syntax.{Expression, call, nowhere}
use Rattle.tsa_tree.specs.expressions.Syntax as args
use Rattle.tsa_tree.specs.statements.Plain.{plain_statement}
use Rattle.tsa_tree.specs.Reads.{read}
use Rattle.tsa_tree.specs.Rows.{a_statement, statement}
use Rattle.tsa_tree.specs.statements.Syntax.{Simple, evaluation, assignment, no_init, simple_init, local_init, Statement, block, empty}
use Rattle.tsa_tree.specs.statements.Syntax.{local, simple, if_alone, if_else, while_loop, do_loop, for_loop, switch, case, otherwise}
use Rattle.tsa_tree.specs.statements.Syntax.{label, break, continue, goto, return, Statements, none, more}
use Rattle.tsa_grammar.specs.Reading.{syntax, deep, refuse, Outcome}

abbrev spanless : Outcome Statement → Outcome Statement
spanless (Ok found) = Ok (plain_statement found.0, found.1)
spanless (Err refusal) = Err refusal

abbrev statement_in : ℕ → Outcome Statement → Result (List Lexeme) BadByte → Outcome Statement
statement_in depth other (Ok tokens) = read tokens a_statement (statement (codes "num" ∷ []) depth) 0
statement_in depth other (Err bad) = other

-- what reading a statement from the first token of a text on gives, but for spans, where so many constructs are open and `num` is the
-- name of a type
abbrev pub reads : ℕ → List ℕ → Outcome Statement
reads depth text = spanless (statement_in depth (Err (refuse syntax 0)) (tokens_of text))

abbrev pub evaluates : Expression → Simple
evaluates x = evaluation x nowhere

abbrev pub assigns : Expression → Option BinaryOp → Expression → Simple
assigns left op right = assignment left op right nowhere

abbrev pub does : Simple → Statement
does x = simple x

abbrev pub nothing : Statement
nothing = empty nowhere

abbrev pub a : Expression
a = name (codes "a")

abbrev pub b : Expression
b = name (codes "b")

abbrev pub declares : List ℕ → Option Initialiser → Declaration
declares text init = record { name = word text; ctype = alone int; attrs = []; init = init; span = nowhere }

abbrev pub one_of : Statement → Statements
one_of x = more x none

pub record StatementsAreRead : Type 0 where
  pub empty_one : reads 0 (codes "; x") ≡ Ok (nothing, 1)
  pub evaluated : reads 0 (codes "a;") ≡ Ok (does (evaluates a), 2)
  pub called : reads 0 (codes "f(1);") ≡ Ok (does (evaluates (call (word (codes "f")) (args.more (trees.int 1) args.none) nowhere)), 5)
  pub summed : reads 0 (codes "a + b;") ≡ Ok (does (evaluates (join op.Plus a b)), 4)
  pub assigned : reads 0 (codes "a = b;") ≡ Ok (does (assigns a None b), 4)
  pub assigned_with : reads 0 (codes "a %= b + 1;") ≡ Ok (does (assigns a (Some op.Remainder) (join op.Plus b (trees.int 1))), 6)
  pub assigned_in_parentheses : reads 0 (codes "(a + b) = 1;") ≡ Ok (does (assigns (join op.Plus a b) None (trees.int 1)), 8)
  pub stepped : reads 0 (codes "a++;") ≡ Ok (does (assigns a (Some op.Plus) (trees.int 1)), 3)
  pub stepped_before : reads 0 (codes "--a;") ≡ Ok (does (assigns a (Some op.Minus) (trees.int 1)), 3)
  pub no_block : reads 0 (codes "{ }") ≡ Ok (block none nowhere, 2)
  pub blocked : reads 0 (codes "{ int a, b = 1; a = b; { } }")
      ≡ Ok (
        block (more (local (declares (codes "a") None)) (more (local (declares (codes "b") (Some (value (trees.int 1)))))
            (more (does (assigns a None b)) (one_of (block none nowhere))))) nowhere,
        15,
      )
  pub if_only : reads 0 (codes "if (a) ;") ≡ Ok (if_alone a nothing nowhere, 5)
  pub if_both : reads 0 (codes "if (a) ; else b;") ≡ Ok (if_else a nothing (does (evaluates b)) nowhere, 8)
  -- an `else` belongs to the nearest `if`
  pub nearest : reads 0 (codes "if (a) if (b) ; else b;") ≡ Ok (if_alone a (if_else b nothing (does (evaluates b)) nowhere) nowhere, 12)
  pub nearest_in_loop : reads 0 (codes "if (a) while (b) if (b) ; else ;")
      ≡ Ok (if_alone a (while_loop b (if_else b nothing nothing nowhere) nowhere) nowhere, 15)
  pub two_elses : reads 0 (codes "if (a) if (b) ; else ; else b;")
      ≡ Ok (if_else a (if_else b nothing nothing nowhere) (does (evaluates b)) nowhere, 14)
  pub while_one : reads 0 (codes "while (a) a--;") ≡ Ok (while_loop a (does (assigns a (Some op.Minus) (trees.int 1))) nowhere, 7)
  pub do_one : reads 0 (codes "do a; while (b);") ≡ Ok (do_loop (does (evaluates a)) b nowhere, 8)
  pub for_nothing : reads 0 (codes "for (;;) ;") ≡ Ok (for_loop no_init None None nothing nowhere, 6)
  pub for_all : reads 0 (codes "for (a = 1; a < b; a++) ;")
      ≡ Ok (for_loop (simple_init (assigns a None (trees.int 1))) (Some (join op.Less a b)) (Some (assigns a (Some op.Plus) (trees.int 1))) nothing nowhere, 14)
  pub for_local : reads 0 (codes "for (int a = 1; ;) ;")
      ≡ Ok (for_loop (local_init (declares (codes "a") (Some (value (trees.int 1))))) None None nothing nowhere, 10)
  pub switched : reads 0 (codes "switch (a) { case 1: break; default: ; }")
      ≡ Ok (switch a (block (more (case (trees.int 1) (break nowhere) nowhere) (one_of (otherwise nothing nowhere))) nowhere) nowhere, 14)
  pub labelled : reads 0 (codes "a: goto a;") ≡ Ok (label (word (codes "a")) (goto (word (codes "a")) nowhere) nowhere, 5)
  pub continued : reads 0 (codes "continue;") ≡ Ok (continue nowhere, 2)
  pub returned : reads 0 (codes "return;") ≡ Ok (return None nowhere, 2)
  pub returned_value : reads 0 (codes "return a + 1;") ≡ Ok (return (Some (join op.Plus a (trees.int 1))) nowhere, 5)
  -- lists that break off, or go on wrong
  pub at_the_end : reads 0 (codes "a") ≡ Err (refuse syntax 1)
  pub no_arm : reads 0 (codes "if (a) else ;") ≡ Err (refuse syntax 4)
  pub else_alone : reads 0 (codes "else ;") ≡ Err (refuse syntax 0)
  pub no_declaration : reads 0 (codes "int a;") ≡ Err (refuse syntax 0)
  pub declared_arm : reads 0 (codes "if (a) num b;") ≡ Err (refuse syntax 4)
  pub type_as_label : reads 0 (codes "num: ;") ≡ Err (refuse syntax 0)
  pub sum_assigned : reads 0 (codes "a + b = 1;") ≡ Err (refuse syntax 3)
  pub stepped_twice : reads 0 (codes "++a++;") ≡ Err (refuse syntax 2)
  pub case_alone : reads 0 (codes "{ case 1: }") ≡ Err (refuse syntax 4)
  pub two_locals : reads 0 (codes "for (int a, b; ;) ;") ≡ Err (refuse syntax 4)
  pub no_semicolon : reads 0 (codes "do ; while (a)") ≡ Err (refuse syntax 6)
  pub not_closed : reads 0 (codes "{ a; ") ≡ Err (refuse syntax 3)
  -- too many constructs are open
  pub deep_block : reads 100 (codes "{ }") ≡ Err (refuse deep 0)
  pub deep_test : reads 100 (codes "if (a) ;") ≡ Err (refuse deep 1)
  pub deep_body : reads 100 (codes "a: ;") ≡ Err (refuse deep 2)
  pub deep_in_body : reads 99 (codes "while (a) { }") ≡ Err (refuse deep 4)
