-- Statements that the grammar can spell, by the words that may be names.
use Rattle.std.specs.Prelude.{◌≡◌, Bool, true, false, Some, None}
use Rattle.std.specs.declared.option.Option.{Option}
use Rattle.tsa_tree.specs.declarations.Sound.{SoundLocal}
use Rattle.tsa_tree.specs.declarations.Syntax.{Declaration}
use Rattle.tsa_tree.specs.declared.expr.BinaryOp.{BinaryOp}
use Rattle.tsa_tree.specs.declared.expr.BinaryOp.TheVariants as op
use Rattle.tsa_tree.specs.expressions.Sound.{Words, SoundExpression, SoundOptional}
use Rattle.tsa_tree.specs.statements.Syntax.{Simple, evaluation, assignment, ForInit, no_init, simple_init, local_init, Statement, block}
use Rattle.tsa_tree.specs.statements.Syntax.{empty, local, simple, if_alone, if_else, while_loop, do_loop, for_loop, switch, case}
use Rattle.tsa_tree.specs.statements.Syntax.{otherwise, label, break, continue, goto, return, Statements, none, more, ends_short}

-- the operators that can stand before the `=` of an assignment (C11 6.5.16)
abbrev pub is_assigning : Option BinaryOp → Bool
is_assigning None = true
is_assigning (Some op.Plus) = true
is_assigning (Some op.Minus) = true
is_assigning (Some op.Times) = true
is_assigning (Some op.Divide) = true
is_assigning (Some op.Remainder) = true
is_assigning (Some op.BitAnd) = true
is_assigning (Some op.BitOr) = true
is_assigning (Some op.BitXor) = true
is_assigning _ = false

abbrev pub SoundSimple : Words → Simple → Type 0
SoundSimple words (evaluation x span) = SoundExpression words x
SoundSimple words (assignment left op right span) = SoundExpression words left × (is_assigning op ≡ true) × SoundExpression words right

abbrev pub SoundForInit : Words → ForInit → Type 0
SoundForInit words no_init = Unit {0}
SoundForInit words (simple_init x) = SoundSimple words x
SoundForInit words (local_init d) = SoundLocal words d

abbrev pub SoundForStep : Words → Option Simple → Type 0
SoundForStep words None = Unit {0}
SoundForStep words (Some x) = SoundSimple words x

-- a local stands in a block alone
abbrev pub SoundLocalIn : Words → (in_block : Bool) → Declaration → Type 0
SoundLocalIn words true d = SoundLocal words d
SoundLocalIn words false d = ⊥

-- no `if` inside the arm of another one would take its `else`
abbrev mutual
  pub SoundStatement : Words → (in_block : Bool) → Statement → Type 0
  SoundStatement words in_block (block items span) = SoundStatements words items
  SoundStatement words in_block (empty span) = Unit {0}
  SoundStatement words in_block (local d) = SoundLocalIn words in_block d
  SoundStatement words in_block (simple x) = SoundSimple words x
  SoundStatement words in_block (if_alone test arm span) = SoundExpression words test × SoundStatement words false arm
  SoundStatement words in_block (if_else test arm other span) =
      SoundExpression words test × SoundStatement words false arm × (ends_short arm ≡ false) × SoundStatement words false other
  SoundStatement words in_block (while_loop test body span) = SoundExpression words test × SoundStatement words false body
  SoundStatement words in_block (do_loop body test span) = SoundStatement words false body × SoundExpression words test
  SoundStatement words in_block (for_loop init test step body span) =
      SoundForInit words init × SoundOptional words test × SoundForStep words step × SoundStatement words false body
  SoundStatement words in_block (switch x body span) = SoundExpression words x × SoundStatement words false body
  SoundStatement words in_block (case x body span) = SoundExpression words x × SoundStatement words false body
  SoundStatement words in_block (otherwise body span) = SoundStatement words false body
  SoundStatement words in_block (label name body span) = (words.things name.text ≡ true) × SoundStatement words false body
  SoundStatement words in_block (break span) = Unit {0}
  SoundStatement words in_block (continue span) = Unit {0}
  SoundStatement words in_block (goto name span) = words.things name.text ≡ true
  SoundStatement words in_block (return x span) = SoundOptional words x

  pub SoundStatements : Words → Statements → Type 0
  SoundStatements words none = Unit {0}
  SoundStatements words (more first rest) = SoundStatement words true first × SoundStatements words rest
