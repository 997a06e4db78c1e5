-- The words of a run that say how threads begin: each is the name of a function, or a call as an expression spells it (C11 6.5.2.2).
use Rattle.std.specs.Prelude.{◌≡◌, ℕ, ◌≤◌, List, [], length, Option, Some, None, Ok}
use Rattle.tsa_base.specs.Tokens.{Lexeme, tokens_of}
use Rattle.tsa_base.specs.declared.limits.TheConstants.{INPUT_LIMIT}
use Rattle.tsa_tree.specs.expressions.Answers.{an_expression, IsLongest}
use Rattle.tsa_tree.specs.expressions.Syntax.{Expression, Arguments, named, call, none}

-- all of some tokens are those of one expression, and none of them is too deep
abbrev pub IsWhole : List Lexeme → Expression → Type 0
IsWhole tokens e = IsLongest tokens [] an_expression 0 0 e (length tokens)

-- A word is no longer than an input may be, and its tokens are those of one expression.
pub record IsWordOf (word : List ℕ) (e : Expression) : Type 0 where
  pub short : length word ≤ INPUT_LIMIT
  pub tokens : List Lexeme
  pub lexed : tokens_of word ≡ Ok tokens
  pub whole : IsWhole tokens e

-- the function that an expression calls by its name, and the arguments
pub record Called : Type 0 where
  pub name : List ℕ
  pub args : Arguments

-- a name alone is a call without arguments
abbrev pub called_by : Expression → Option Called
called_by (named name span) = Some (record { name = name.text; args = none })
called_by (call callee args span) = Some (record { name = callee.text; args = args })
called_by e = None
